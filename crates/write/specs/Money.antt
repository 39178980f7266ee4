-- How money is spelled, amounts, fees and sums alike: ".. so each number of grosze has one text. .. All writers, later ones too, use the same spelling."
-- (document 02, A3)
use Rattle.std.specs.Prelude.{◌≡◌, List, ◌∷◌, ◌++◌, ℕ, ◌*◌, ◌/◌, ◌^◌, ◌≤◌, ◌<◌}
use Rattle.money.specs.Money.{amount}
use Rattle.money.specs.Text.{text_of}
use Rattle.std.specs.Prelude.{Some}
use Rattle.write.specs.Spelled.{digits, spelled}

-- Zlote without leading zeros, a point (2E), and two digits of grosze.
unfoldable pub money_text : ℕ → List ℕ
money_text grosze = spelled (grosze / 100) ++ (0x2E ∷ digits 2 grosze)

-- What is spelled reads back, wherever there is room for its digits: 7 before the point for an order, 11 for a sum.
abbrev pub MoneyIsRead : Type 0
MoneyIsRead = (most n : ℕ) → 1 ≤ most → most ≤ 18 → n < 10 ^ most * 100 → text_of most (money_text n) ≡ Some (amount n)

-- And what was read is spelled as the text that it was read from.
abbrev pub ReadIsSpelled : Type 0
ReadIsSpelled = (most : ℕ) (s : List ℕ) (n : ℕ) → text_of most s ≡ Some (amount n) → money_text n ≡ s

-- "add that two accepted texts of equal value are equal bytes": one as an amount and one as a sum too.
abbrev pub OneSpelling : Type 0
OneSpelling = (most most' : ℕ) (s t : List ℕ) (n : ℕ) → text_of most s ≡ Some (amount n) → text_of most' t ≡ Some (amount n) → s ≡ t
