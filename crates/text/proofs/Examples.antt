-- Worked examples of the definitions of numbers, fields and lines, each computed.
-- Assumes nothing.
use mathlib.Core.Path.{◌≡◌, refl}
use mathlib.Core.Bool.{true, false}
use mathlib.Core.List.{List, [], ◌∷◌, map}
use Prim.Native.Nat.{ℕ}
use lib.ListN.{replicate}
use Rattle.text.specs.Bytes.{digit, letter}
use Rattle.text.specs.Number.{number_after, number}
use Rattle.text.specs.Fields.{onto, fields, cuts_from, cut_table, field_by}
use Rattle.text.specs.Lines.{parted, without_last_end, lines, stray}
use Rattle.std.specs.Prelude.{Some, None}

-- @ A Z [ ` a z {
edges_of_the_letters : map letter (0x40 ∷ 0x41 ∷ 0x5A ∷ 0x5B ∷ 0x60 ∷ 0x61 ∷ 0x7A ∷ 0x7B ∷ []) ≡ false ∷ true ∷ true ∷ false ∷ false ∷ true ∷ true ∷ false ∷ []
unfolding letter
edges_of_the_letters = refl

-- One to six digits: "1", "000001", nothing, "0000001", "1 ".
record_numbers : map (number 1 6)
    ((0x31 ∷ [])
    ∷ (0x30 ∷ 0x30 ∷ 0x30 ∷ 0x30 ∷ 0x30 ∷ 0x31 ∷ [])
    ∷ []
    ∷ (0x30 ∷ 0x30 ∷ 0x30 ∷ 0x30 ∷ 0x30 ∷ 0x30 ∷ 0x31 ∷ [])
    ∷ (0x31 ∷ 0x20 ∷ [])
    ∷ [])
    ≡ Some 1 ∷ Some 1 ∷ None ∷ None ∷ None ∷ []
unfolding number number_after digit
record_numbers = refl

-- No more than 18 digits are read: 18 and 19 nines.
nines : ℕ → List ℕ
nines n = replicate n 0x39

longest_number : map (number 1 100) (nines 18 ∷ nines 19 ∷ []) ≡ Some 999999999999999999 ∷ None ∷ []
unfolding number number_after digit nines
longest_number = refl

-- "a||b", "a|" and the empty text, parted at "|".
plain_split : map (fields 0x7C) ((0x61 ∷ 0x7C ∷ 0x7C ∷ 0x62 ∷ []) ∷ (0x61 ∷ 0x7C ∷ []) ∷ [] ∷ [])
    ≡ ((0x61 ∷ []) ∷ [] ∷ (0x62 ∷ []) ∷ []) ∷ ((0x61 ∷ []) ∷ [] ∷ []) ∷ ([] ∷ []) ∷ []
unfolding fields onto
plain_split = refl

-- The table of "a||b" has room for its cuts, or not.
tables : map (λ size. cut_table size 0x7C (0x61 ∷ 0x7C ∷ 0x7C ∷ 0x62 ∷ [])) (4 ∷ 1 ∷ []) ≡ (1 ∷ 2 ∷ 0 ∷ 0 ∷ []) ∷ (1 ∷ []) ∷ []
unfolding cut_table cuts_from
tables = refl

-- Its fields 0 to 3 by that table.
fields_again : map (λ k. field_by (1 ∷ 2 ∷ 0 ∷ 0 ∷ []) 2 k (0x61 ∷ 0x7C ∷ 0x7C ∷ 0x62 ∷ [])) (0 ∷ 1 ∷ 2 ∷ 3 ∷ [])
    ≡ (0x61 ∷ []) ∷ [] ∷ (0x62 ∷ []) ∷ [] ∷ []
unfolding field_by
fields_again = refl

-- Nothing, CR LF, "a", "a" CR LF: one line each. "a" CR LF CR LF: two, the last empty.
ends_of_lines : map lines
    ([]
    ∷ (0x0D ∷ 0x0A ∷ [])
    ∷ (0x61 ∷ [])
    ∷ (0x61 ∷ 0x0D ∷ 0x0A ∷ [])
    ∷ (0x61 ∷ 0x0D ∷ 0x0A ∷ 0x0D ∷ 0x0A ∷ [])
    ∷ [])
    ≡ ([] ∷ []) ∷ ([] ∷ []) ∷ ((0x61 ∷ []) ∷ []) ∷ ((0x61 ∷ []) ∷ []) ∷ ((0x61 ∷ []) ∷ [] ∷ []) ∷ []
unfolding lines without_last_end parted onto
ends_of_lines = refl

-- "a" CR CR LF keeps a CR, and "a" LF "b" its LF: one line each, spoiled.
left_over : map lines ((0x61 ∷ 0x0D ∷ 0x0D ∷ 0x0A ∷ []) ∷ (0x61 ∷ 0x0A ∷ 0x62 ∷ []) ∷ [])
    ≡ ((0x61 ∷ 0x0D ∷ []) ∷ []) ∷ ((0x61 ∷ 0x0A ∷ 0x62 ∷ []) ∷ []) ∷ []
unfolding lines without_last_end parted onto
left_over = refl

spoiled : map stray ((0x61 ∷ 0x0D ∷ []) ∷ (0x61 ∷ 0x0A ∷ 0x62 ∷ []) ∷ (0x61 ∷ 0x62 ∷ []) ∷ []) ≡ true ∷ true ∷ false ∷ []
unfolding stray
spoiled = refl
