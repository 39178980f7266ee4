-- "A new contract sets the fee as a flat part plus a rate, 0 to 10,000, in ten-thousandths." (document 02, A5)
use Rattle.std.specs.Prelude.{◌≡◌, Bool, true, cond, ◌&&◌, ℕ, ◌+◌, ◌*◌, ◌-◌, ◌/◌, ◌%◌, ◌≤◌, ◌<◌, leb, ltb, eqb, Option, Some, None}
use Rattle.money.specs.Money.{fee, is_order_fee, WithinOrder}
use Rattle.fee.specs.declared.Charge.{Charge}
use Rattle.fee.specs.declared.Rate.{Rate}
use Rattle.fee.specs.declared.Terms.{Terms}

-- A rate: the whole amount is ten thousand ten-thousandths of it.
abbrev pub rate : ℕ → Rate
rate n = record { 0 = n }

abbrev pub rate_cap : ℕ
rate_cap = 10_000

abbrev pub is_rate : ℕ → Bool
is_rate n = leb n rate_cap

abbrev pub WithinRate : ℕ → Type 0
WithinRate n = n ≤ rate_cap

-- ".. the flat part within the old fee range."
abbrev pub terms_fit : Terms → Bool
terms_fit terms = is_order_fee terms.flat.0 && is_rate terms.rate.0

abbrev pub TermsFit : Terms → Type 0
TermsFit terms = WithinOrder terms.flat.0 × WithinRate terms.rate.0

-- "An order's fee is the flat part plus the whole part of amount times rate over 10,000, and the division's remainder is given beside it."
abbrev pub rated_part : Terms → ℕ → ℕ
rated_part terms amount = amount * terms.rate.0 / rate_cap

abbrev pub remainder_of : Terms → ℕ → ℕ
remainder_of terms amount = amount * terms.rate.0 % rate_cap

abbrev pub fee_of : Terms → ℕ → ℕ
fee_of terms amount = terms.flat.0 + rated_part terms amount

abbrev pub charge_of : Terms → ℕ → Charge
charge_of terms amount = record { fee = fee (fee_of terms amount); remainder = remainder_of terms amount }

-- "906 when an order's fee exceeds 999,999,999 ..": such a fee is none.
unfoldable pub charged_by : Terms → ℕ → Option Charge
charged_by terms amount = cond (is_order_fee (fee_of terms amount)) (Some (charge_of terms amount)) None

-- "10,000 times the rated part plus the remainder is amount times rate, with the remainder below 10,000."
abbrev pub DivisionHolds : Type 0
DivisionHolds = (terms : Terms) (amount : ℕ)
    → (rate_cap * rated_part terms amount + remainder_of terms amount ≡ amount * terms.rate.0) × (remainder_of terms amount < rate_cap)

-- ".. its soundness (the division holds) ..": a fee is at least the flat part, and 10,000 times what it is above that, with a remainder below 10,000, is
-- the amount times the rate.
unfoldable pub divides : Terms → ℕ → ℕ → ℕ → Bool
divides terms amount fee remainder =
    leb terms.flat.0 fee
    && (ltb remainder rate_cap && eqb (rate_cap * (fee - terms.flat.0) + remainder) (amount * terms.rate.0))

-- It holds of the order's fee and remainder, and of no others.
pub record DividesAlone (terms : Terms) (amount : ℕ) : Type 0 where
  pub holds : divides terms amount (fee_of terms amount) (remainder_of terms amount) ≡ true
  pub alone : (fee remainder : ℕ) → divides terms amount fee remainder ≡ true → (fee ≡ fee_of terms amount) × (remainder ≡ remainder_of terms amount)
