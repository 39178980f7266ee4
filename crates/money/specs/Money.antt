-- "Money is whole grosze. Amounts (K) and fees (O) are two moneys and never add."
use Rattle.std.specs.Prelude.{Bool, cond, ℕ, ◌≤◌, leb, Option, Some, None}
use Rattle.text.specs.Bytes.{between}
use Rattle.money.specs.declared.Amount.{Amount}
use Rattle.money.specs.declared.Fee.{Fee}
use Rattle.money.specs.declared.Money.{Money}
use Rattle.money.specs.declared.Money.TheVariants.{K, O}
use Rattle.money.specs.declared.Sum.{Sum}
use Rattle.money.specs.declared.Sum.TheVariants.{Amounts, Fees}

-- Grosze as either money.
abbrev pub amount : ℕ → Amount
amount grosze = record { 0 = grosze }

abbrev pub fee : ℕ → Fee
fee grosze = record { 0 = grosze }

-- "Both caps belong to the money, not to the callers": what an order can hold of a money, and what a sum can come to.
abbrev pub order_cap : ℕ
order_cap = 999_999_999

abbrev pub sum_cap : ℕ
sum_cap = 9_999_999_999_999

-- What a total of the balance sheet can come to: "no total above 999,999,999,999,999".
abbrev pub total_cap : ℕ
total_cap = 999_999_999_999_999

-- What an order holds is from the least of a money to its cap.
abbrev pub is_order : ℕ → ℕ → Bool
is_order least grosze = between least order_cap grosze

-- "An order's amount is 1 to 999,999,999." A fee is 0 to 999,999,999.
abbrev pub is_order_amount : ℕ → Bool
is_order_amount grosze = between 1 order_cap grosze

abbrev pub is_order_fee : ℕ → Bool
is_order_fee grosze = leb grosze order_cap

-- A sum of either money is 0 to 9,999,999,999,999, and a transfer is a sum above zero.
abbrev pub is_sum : ℕ → Bool
is_sum grosze = leb grosze sum_cap

abbrev pub is_transfer : ℕ → Bool
is_transfer grosze = between 1 sum_cap grosze

abbrev pub is_total : ℕ → Bool
is_total grosze = leb grosze total_cap

-- Grosze within a cap, as a proof has it.
abbrev pub WithinOrder : ℕ → Type 0
WithinOrder grosze = grosze ≤ order_cap

abbrev pub WithinSum : ℕ → Type 0
WithinSum grosze = grosze ≤ sum_cap

abbrev pub WithinTotal : ℕ → Type 0
WithinTotal grosze = grosze ≤ total_cap

-- A sum of one money.
unfoldable pub sum_of : Money → ℕ → Sum
sum_of K grosze = Amounts (amount grosze)
sum_of O grosze = Fees (fee grosze)

unfoldable pub grosze_in : Sum → ℕ
grosze_in (Amounts amount) = amount.0
grosze_in (Fees fee) = fee.0

unfoldable pub money_of_sum : Sum → Money
money_of_sum (Amounts amount) = K
money_of_sum (Fees fee) = O

-- A transfer of a money, or none.
unfoldable pub as_transfer : Money → ℕ → Option Sum
as_transfer money grosze = cond (is_transfer grosze) (Some (sum_of money grosze)) None

-- The grosze of an amount, 0 where there is none.
unfoldable pub grosze_of : Option Amount → ℕ
grosze_of (Some amount) = amount.0
grosze_of None = 0
