-- "Its text is 1 to 7 digits, a point, 2 digits; a sum's has 1 to 11 digits before the point and reads at most 9,999,999,999,999.
-- Either text may read zero."
use Rattle.std.specs.Prelude.{Bool, cond, not, ◌&&◌, ◌||◌, List, ℕ, ◌+◌, ◌*◌, ◌-◌, eqb, length, get_or, take, drop, Option, Some, None}
use Rattle.text.specs.Number.{number}
use Rattle.money.specs.declared.Amount.{Amount}
use Rattle.money.specs.Money.{amount}

-- Zlote and grosze together.
unfoldable pub together : Option ℕ → Option ℕ → Option Amount
together (Some zlote) (Some grosze) = Some (amount (zlote * 100 + grosze))
together (Some zlote) None = None
together None grosze = None

-- ".. no leading zero except a single zero before the point, so each number of grosze has one text." (document 02, A3): of the digits before it.
abbrev pub no_leading_zero : List ℕ → Bool
no_leading_zero zlote = eqb (length zlote) 1 || not (eqb (get_or zlote 0 0) 0x30)

-- 1 to `most` digits, a point (2E), 2 digits: the value in grosze, or no amount.
unfoldable pub text_of : ℕ → List ℕ → Option Amount
text_of most s =
    cond (eqb (get_or s (length s - 3) 0) 0x2E && no_leading_zero (take (length s - 3) s))
    (together (number 1 most (take (length s - 3) s)) (number 2 2 (drop (length s - 2) s)))
    None

abbrev pub order_text : List ℕ → Option Amount
order_text s = text_of 7 s

abbrev pub sum_text : List ℕ → Option Amount
sum_text s = text_of 11 s
