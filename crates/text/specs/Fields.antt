-- Fields of a text at a separator, and the table of the separators' places by which each field is found again.
use Rattle.std.specs.Prelude.{cond, List, [], ◌∷◌, ◌++◌, ℕ, min, ◌+◌, ◌-◌, eqb, ltb, length, get_or, take, replicate}
use Rattle.text.specs.Bytes.{part}

-- A byte put before the first of some texts.
unfoldable pub onto : ℕ → List (List ℕ) → List (List ℕ)
onto b [] = (b ∷ []) ∷ []
onto b (f ∷ fs) = (b ∷ f) ∷ fs

-- "Fields are parted by `|`, none at the line's end." A plain split, in which n separators make n + 1 fields.
unfoldable pub fields : ℕ → List ℕ → List (List ℕ)
fields separator [] = [] ∷ []
fields separator (b ∷ s) = cond (eqb b separator) ([] ∷ fields separator s) (onto b (fields separator s))

-- The places of the separators, where the text's first byte stands at `place`.
unfoldable pub cuts_from : ℕ → ℕ → List ℕ → List ℕ
cuts_from separator place [] = []
cuts_from separator place (b ∷ s) =
    cond (eqb b separator) (place ∷ cuts_from separator (place + 1) s) (cuts_from separator (place + 1) s)

abbrev pub cuts : ℕ → List ℕ → List ℕ
cuts separator s = cuts_from separator 0 s

-- A table of some size: the first cuts, as many as it has room for, and zeros behind them; and how many it holds.
-- A full table says that the text has more fields than it has places.
unfoldable pub cut_table : ℕ → ℕ → List ℕ → List ℕ
cut_table size separator s = take size (cuts separator s ++ replicate size 0)

unfoldable pub cut_count : ℕ → ℕ → List ℕ → ℕ
cut_count size separator s = min size (length (cuts separator s))

-- Field k by such a table: from behind the cut before it to the cut after it, the first from the start and the last to the end.
-- By the table of that very text this is field k (`field_by_table`); by another it is some part of the text, or nothing.
unfoldable pub field_by : List ℕ → ℕ → ℕ → List ℕ → List ℕ
field_by table count k s =
    cond (ltb count k) []
    (part
    (cond (eqb k 0) 0 (get_or table (k - 1) 0 + 1))
    (cond (ltb k count) (get_or table k 0) (length s))
    s)
