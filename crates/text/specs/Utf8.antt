-- UTF-8 as RFC 3629 has it: the table of its section 3, without surrogates.
--
--     Char. number range  |        UTF-8 octet sequence
--        (hexadecimal)    |              (binary)
--     --------------------+------------------------------------
--     0000 0000-0000 007F | 0xxxxxxx
--     0000 0080-0000 07FF | 110xxxxx 10xxxxxx
--     0000 0800-0000 FFFF | 1110xxxx 10xxxxxx 10xxxxxx
--     0001 0000-0010 FFFF | 11110xxx 10xxxxxx 10xxxxxx 10xxxxxx
use Rattle.std.specs.Prelude.{◌≡◌, Bool, true, false, cond, not, ◌&&◌, List, [], ◌∷◌, ℕ, zero, suc, pred, ◌+◌, ◌*◌, ◌/◌, ◌%◌, leb, ltb, eqb, length, get_or}
use Rattle.std.specs.List.{count_by}

-- The octets of the right column, by the bits that the table fixes: 0xxxxxxx, 10xxxxxx, 110xxxxx, 1110xxxx, 11110xxx.
unfoldable pub ascii : ℕ → Bool
ascii b = ltb b 0b1000_0000

unfoldable pub tail_octet : ℕ → Bool
tail_octet b = eqb (b / 64) 0b10

unfoldable pub lead2 : ℕ → Bool
lead2 b = eqb (b / 32) 0b110

unfoldable pub lead3 : ℕ → Bool
lead3 b = eqb (b / 16) 0b1110

unfoldable pub lead4 : ℕ → Bool
lead4 b = eqb (b / 8) 0b11110

-- The code points that the x of two, three and four octets write.
unfoldable pub point2 : ℕ → ℕ → ℕ
point2 a b = (a % 32) * 64 + b % 64

unfoldable pub point3 : ℕ → ℕ → ℕ → ℕ
point3 a b c = (a % 16) * 4096 + (b % 64) * 64 + c % 64

unfoldable pub point4 : ℕ → ℕ → ℕ → ℕ → ℕ
point4 a b c d = (a % 8) * 262144 + (b % 64) * 4096 + (c % 64) * 64 + d % 64

-- "The definition of UTF-8 prohibits encoding character numbers between U+D800 and U+DFFF ..", the surrogates.
unfoldable pub surrogate : ℕ → Bool
surrogate p = leb 0xD800 p && leb p 0xDFFF

-- The ranges of the left column.
unfoldable pub range2 : ℕ → Bool
range2 p = leb 0x80 p && leb p 0x7FF

unfoldable pub range3 : ℕ → Bool
range3 p = leb 0x800 p && (leb p 0xFFFF && not (surrogate p))

unfoldable pub range4 : ℕ → Bool
range4 p = leb 0x10000 p && leb p 0x10FFFF

-- A row of the table: lead and tail octets, and a code point in its range.
unfoldable pub row2 : ℕ → ℕ → Bool
row2 a b = lead2 a && (tail_octet b && range2 (point2 a b))

unfoldable pub row3 : ℕ → ℕ → ℕ → Bool
row3 a b c = lead3 a && (tail_octet b && (tail_octet c && range3 (point3 a b c)))

unfoldable pub row4 : ℕ → ℕ → ℕ → ℕ → Bool
row4 a b c d = lead4 a && (tail_octet b && (tail_octet c && (tail_octet d && range4 (point4 a b c d))))

-- How many octets the character takes that starts with a b c d; 0 where none does.
-- An octet past the end of the text counts as 0, which is no tail, so nothing is cut off.
unfoldable pub width : ℕ → ℕ → ℕ → ℕ → ℕ
width a b c d = cond (ascii a) 1 (cond (row2 a b) 2 (cond (row3 a b c) 3 (cond (row4 a b c d) 4 0)))

-- The same at a place of a text.
abbrev pub width_at : List ℕ → ℕ → ℕ
width_at s i = width (get_or s i 0) (get_or s (i + 1) 0) (get_or s (i + 2) 0) (get_or s (i + 3) 0)

-- A text is well formed when characters follow one another to its end; `skip` more octets belong to the last one.
unfoldable pub well_formed_after : ℕ → List ℕ → Bool
well_formed_after zero [] = true
well_formed_after (suc skip) [] = false
well_formed_after zero (a ∷ s) = cond (eqb (width_at (a ∷ s) 0) 0) false (well_formed_after (pred (width_at (a ∷ s) 0)) s)
well_formed_after (suc skip) (a ∷ s) = well_formed_after skip s

abbrev pub well_formed : List ℕ → Bool
well_formed s = well_formed_after 0 s

-- The code points of a well-formed text, as a decoder steps over them.
unfoldable pub point_at : List ℕ → ℕ → ℕ
point_at s i =
    cond (ascii (get_or s i 0)) (get_or s i 0)
    (cond (lead2 (get_or s i 0)) (point2 (get_or s i 0) (get_or s (i + 1) 0))
    (cond (lead3 (get_or s i 0)) (point3 (get_or s i 0) (get_or s (i + 1) 0) (get_or s (i + 2) 0))
    (point4 (get_or s i 0) (get_or s (i + 1) 0) (get_or s (i + 2) 0) (get_or s (i + 3) 0))))

unfoldable pub decoded_after : ℕ → List ℕ → List ℕ
decoded_after zero [] = []
decoded_after (suc skip) [] = []
decoded_after zero (a ∷ s) = point_at (a ∷ s) 0 ∷ decoded_after (pred (width_at (a ∷ s) 0)) s
decoded_after (suc skip) (a ∷ s) = decoded_after skip s

abbrev pub decoded : List ℕ → List ℕ
decoded s = decoded_after 0 s

-- "Lengths count code points, not bytes": the octets that are no tail.
abbrev pub code_points : List ℕ → ℕ
code_points = count_by (λ b. not (tail_octet b))

-- On well-formed text that count is the number of code points that the decoder steps over.
abbrev pub CountsWhatIsDecoded : Type 0
CountsWhatIsDecoded = (s : List ℕ) → well_formed s ≡ true → code_points s ≡ length (decoded s)
