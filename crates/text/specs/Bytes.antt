-- Bytes: digits and letters, parts of a text, equality of two texts, and whether a byte stands in one.
use Rattle.std.specs.Prelude.{Bool, ◌&&◌, ◌||◌, List, ℕ, ◌-◌, leb, eqb, take, drop}
use Rattle.std.specs.List.{list_all, list_any}
use lib.Pointwise.{pointwise}

-- from low to high, both included
abbrev pub between : ℕ → ℕ → ℕ → Bool
between low high n = leb low n && leb n high

-- 0 to 9
unfoldable pub digit : ℕ → Bool
digit b = between 0x30 0x39 b

-- "Letters are A-Z and a-z, and case counts."
unfoldable pub letter : ℕ → Bool
letter b = between 0x41 0x5A b || between 0x61 0x7A b

unfoldable pub letter_or_digit : ℕ → Bool
letter_or_digit b = letter b || digit b

abbrev pub letters_or_digits : List ℕ → Bool
letters_or_digits = list_all letter_or_digit

-- the bytes from place a up to place e, as far as there are any
abbrev pub part : ℕ → ℕ → List ℕ → List ℕ
part a e s = take (e - a) (drop a s)

-- two texts have the same bytes
abbrev pub same : List ℕ → List ℕ → Bool
same = pointwise eqb

-- a byte stands in a text
abbrev pub has_byte : ℕ → List ℕ → Bool
has_byte b = list_any (λ x. eqb x b)
