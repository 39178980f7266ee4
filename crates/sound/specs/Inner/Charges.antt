-- How code asks whether each order of a shipment is charged its fee: question by question, each of all rows.
use Rattle.std.specs.Prelude.{◌≡◌, Bool, cond, List, ℕ, ◌+◌, ◌^◌, ◌<◌, eqb, ltb, Option, Some, None}
use Rattle.std.specs.Int.Bits.{bit_or}
use Rattle.money.specs.Money.{amount, fee, is_order_amount, is_order_fee, WithinSum}
use Rattle.money.specs.declared.Money.TheVariants.{K, O}
use Rattle.fee.specs.Fee.{rate_cap}
use Rattle.fee.specs.Inner.Difference.{difference_in}
use Rattle.fee.specs.declared.Terms.{Terms}
use Rattle.epe.specs.Profile.{each}
use Rattle.model.specs.Shipment.{sum_over, worth}
use Rattle.model.specs.Sound.{row_charged}
use Rattle.model.specs.declared.Row.{Row}
use Rattle.sound.specs.declared.charges.Charges.{Charges}
use Rattle.sound.specs.declared.charges.Products.{Products}

abbrev pub amount_fits : Row → Bool
amount_fits row = is_order_amount row.amount.0

abbrev pub fee_fits : Row → Bool
fee_fits row = is_order_fee row.fee.0

abbrev pub remainder_fits : Row → Bool
remainder_fits row = ltb row.remainder rate_cap

-- What code answers of a row is what a test answers.
abbrev pub Tells : (Row → Bool → Type 0) → (Row → Bool) → Type 0
Tells answers test = (row : Row) (answer : Bool) → answers row answer → answer ≡ test row

-- Without a rate.
abbrev pub is_flat : ℕ → Row → Bool
is_flat flat row = eqb row.fee.0 flat

abbrev pub has_none : Row → Bool
has_none row = eqb row.remainder 0

-- With one: in which bits the two sides of an order's division differ, and whether in none.
abbrev pub difference_of : Terms → Row → ℕ
difference_of terms row = difference_in terms row.amount.0 row.fee.0 row.remainder

abbrev pub is_even : Terms → Row → Bool
is_even terms row = eqb (difference_of terms row) 0

-- The charges of some rows, where each is charged its fee.
abbrev pub charges_of : Terms → List Row → Option Charges
charges_of terms rows =
    cond (each (row_charged terms) rows) (Some (record { amounts = amount (sum_over (worth K) rows); fees = fee (sum_over (worth O) rows) })) None

pub record SmallCharges (charges : Charges) : Type 0 where
  pub amounts_low : WithinSum charges.amounts.0
  pub fees_low : WithinSum charges.fees.0

-- The products of some rows, one row more, and products that one row more keeps within the cap of a sum: its numbers are four bytes.
pub record Multiplied (terms : Terms) (rows : List Row) (products : Products) : Type 0 where
  pub amounts_are : products.amounts ≡ amount (sum_over (worth K) rows)
  pub fees_are : products.fees ≡ fee (sum_over (worth O) rows)
  pub told : eqb products.differences 0 ≡ each (is_even terms) rows
  pub amounts_low : WithinSum products.amounts.0
  pub fees_low : WithinSum products.fees.0

pub record WithProduct (terms : Terms) (before : Products) (row : Row) (after : Products) : Type 0 where
  pub amounts_are : after.amounts.0 ≡ before.amounts.0 + worth K row
  pub fees_are : after.fees.0 ≡ before.fees.0 + worth O row
  pub differences_are : after.differences ≡ bit_or before.differences (difference_of terms row)
  pub amount_low : worth K row < 2 ^ 32
  pub fee_low : worth O row < 2 ^ 32

pub record SmallProducts (products : Products) : Type 0 where
  pub amounts : WithinSum (products.amounts.0 + 2 ^ 32)
  pub fees : WithinSum (products.fees.0 + 2 ^ 32)
