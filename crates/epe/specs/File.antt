-- "After the bytes EF BB BF (hexadecimal) lines are parted by CR LF; one CR LF after the last line is allowed and adds no line.
-- Another CR or LF spoils its line (004 in the header, 901 elsewhere). Fields are parted by `|`, none at the line's end.
-- Lengths count code points, not bytes."
use Rattle.std.specs.Prelude.{Bool, List, [], ◌∷◌, ℕ, ◌-◌, get_or, take, drop}
use Rattle.text.specs.Bytes.{same}
use Rattle.text.specs.Fields.{fields}
use Rattle.text.specs.Lines.{lines}

-- The byte mark, and the text behind it.
unfoldable pub marked : List ℕ → Bool
marked file = same (take 3 file) (0xEF ∷ 0xBB ∷ 0xBF ∷ [])

abbrev pub text : List ℕ → List ℕ
text file = drop 3 file

-- The first line is the header, each other line a record.
abbrev pub header : List ℕ → List ℕ
header file = get_or (lines (text file)) 0 []

abbrev pub records : List ℕ → List (List ℕ)
records file = drop 1 (lines (text file))

-- Field n of a line, counted from 1 as the paper does; a bar is the byte 7C.
abbrev pub field : ℕ → List ℕ → List ℕ
field n line = get_or (fields 0x7C line) (n - 1) []
