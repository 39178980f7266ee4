-- Places in the bytes of a journal, as code finds them. Only the contracts below the replay need these.
use Rattle.std.specs.Prelude.{◌≡◌, false, cond, List, ℕ, eqb, leb, length, Option, Some, None}
use Rattle.audit.specs.Journal.{entries_fit}

-- A place that is no further than so many bytes go, or none.
abbrev pub place_within : ℕ → ℕ → Option ℕ
place_within most place = cond (leb place most) (Some place) None

-- Where n entries end, or none where they are not there.
abbrev pub IsEnd : List ℕ → ℕ → Option ℕ → Type 0
IsEnd bytes n (Some end) = entries_fit n bytes ≡ eqb end (length bytes)
IsEnd bytes n None = entries_fit n bytes ≡ false
