-- How numbers are spelled: decimal digits, 30 to 39, the first one first.
use Rattle.std.specs.Prelude.{◌≡◌, cond, List, [], ◌∷◌, ◌++◌, ℕ, zero, suc, ◌+◌, ◌/◌, ◌%◌, ◌^◌, ◌≤◌, ◌<◌, ltb}
use Rattle.text.specs.Number.{number}
use Rattle.std.specs.Prelude.{Some}

-- The last digits of a number, so many of them.
unfoldable pub digits : ℕ → ℕ → List ℕ
digits zero n = []
digits (suc places) n = digits places (n / 10) ++ ((0x30 + n % 10) ∷ [])

-- How many digits a number has: 0 has one. `most` is more than enough where it is the number itself.
unfoldable pub places_within : ℕ → ℕ → ℕ
places_within zero n = 1
places_within (suc most) n = cond (ltb n 10) 1 (suc (places_within most (n / 10)))

abbrev pub places_of : ℕ → ℕ
places_of n = places_within n n

-- "Counts and numbers have no leading zeros" (document 02, A2): the decimal digits of a number, "0" for 0.
abbrev pub spelled : ℕ → List ℕ
spelled n = digits (places_of n) n

-- What is spelled reads back as the number, wherever its field has room for its digits; and so do its last digits where they are all.
abbrev pub SpelledIsRead : Type 0
SpelledIsRead = (least most n : ℕ) → least ≤ 1 → 1 ≤ most → most ≤ 18 → n < 10 ^ most → number least most (spelled n) ≡ Some n

abbrev pub DigitsAreRead : Type 0
DigitsAreRead = (places n : ℕ) → places ≤ 18 → n < 10 ^ places → number places places (digits places n) ≡ Some n
