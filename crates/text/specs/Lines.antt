-- "After the bytes EF BB BF (hexadecimal) lines are parted by CR LF; one CR LF after the last line is allowed and adds no line.
-- Another CR or LF spoils its line (004 in the header, 901 elsewhere)."
-- CR is the byte 0D and LF the byte 0A. CR LF pairs cannot overlap, so the parting is unique, and a CR or LF left over belongs to its line.
use Rattle.std.specs.Prelude.{Bool, cond, ◌&&◌, ◌||◌, List, [], ◌∷◌, ℕ, suc, ◌+◌, ◌-◌, eqb, length, get_or, take}
use Rattle.text.specs.Bytes.{has_byte}
use Rattle.text.specs.Fields.{onto}

abbrev pub crlf : ℕ → ℕ → Bool
crlf b c = eqb b 0x0D && eqb c 0x0A

-- A text parted at each CR LF: n of them make n + 1 lines.
unfoldable pub parted : List ℕ → List (List ℕ)
parted [] = [] ∷ []
parted (b ∷ []) = (b ∷ []) ∷ []
parted (b ∷ c ∷ s) = cond (crlf b c) ([] ∷ parted s) (onto b (parted (c ∷ s)))

-- The text without one CR LF at its very end.
unfoldable pub without_last_end : List ℕ → List ℕ
without_last_end s =
    cond (crlf (get_or s (length s - 2) 0) (get_or s (length s - 2 + 1) 0)) (take (length s - 2) s)
    s

-- The lines of a text. There is always a first one, and it may be empty.
unfoldable pub lines : List ℕ → List (List ℕ)
lines s = parted (without_last_end s)

-- How many bytes stand before the first CR LF.
unfoldable pub line_stop : List ℕ → ℕ
line_stop [] = 0
line_stop (b ∷ s) = cond (crlf b (get_or s 0 0)) 0 (suc (line_stop s))

-- A CR or LF in a line that is parted off.
unfoldable pub stray : List ℕ → Bool
stray line = has_byte 0x0D line || has_byte 0x0A line
