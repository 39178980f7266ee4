-- A sum of one money is known by its money and its grosze; and what a transfer is.
-- Assumes nothing.
use mathlib.Core.Path.{◌≡◌, refl, ap, ◌∙◌}
use mathlib.Core.Bool.{true, false}
use Prim.Native.Nat.{ℕ}
use native.Mathlib.Omega.{arith}
use borrow.Author.Tests.{leb-true}
use lib.Dec.{leb}
use Rattle.std.specs.Prelude.{Option, Some, None}
use Rattle.text.proofs.Branches.{either_way, and_right}
use Rattle.money.specs.Money.{sum_cap, is_transfer, WithinSum, sum_of, grosze_in, money_of_sum, as_transfer}
use Rattle.money.specs.declared.Money.{Money}
use Rattle.money.specs.declared.Money.TheVariants.{K, O}
use Rattle.money.specs.declared.Sum.{Sum}
use Rattle.money.specs.declared.Sum.TheVariants.{Amounts, Fees}

pub grosze_of_sum : (money : Money) (n : ℕ) → grosze_in (sum_of money n) ≡ n
unfolding sum_of grosze_in
grosze_of_sum K n = refl
grosze_of_sum O n = refl

pub money_of_sum_lem : (money : Money) (n : ℕ) → money_of_sum (sum_of money n) ≡ money
unfolding sum_of money_of_sum
money_of_sum_lem K n = refl
money_of_sum_lem O n = refl

pub whole_sum : (sum : Sum) → sum_of (money_of_sum sum) (grosze_in sum) ≡ sum
unfolding sum_of grosze_in money_of_sum
whole_sum (Amounts amount) = refl
whole_sum (Fees fee) = refl

-- a sum that code made of a money and grosze
pub grosze_is : (money : Money) (n : ℕ) {sum : Sum} → sum ≡ sum_of money n → grosze_in sum ≡ n
grosze_is money n is = ap grosze_in is ∙ grosze_of_sum money n

pub money_is : (money : Money) (n : ℕ) {sum : Sum} → sum ≡ sum_of money n → money_of_sum sum ≡ money
money_is money n is = ap money_of_sum is ∙ money_of_sum_lem money n

-- a transfer, or none, as code was given it
module _ (money : Money) (n : ℕ) where
  pub no_transfer : ◌≡◌ {A = Option Sum} None (as_transfer money n) → is_transfer n ≡ false
  unfolding as_transfer
  no_transfer is =
      either_way (is_transfer n)
      (λ one. let other = rw one at is in let never : ◌≡◌ {A = ℕ} 0 1 = cc in absurd (omega arith))
      (λ none. none)

  pub a_transfer : {sum : Sum} → Some sum ≡ as_transfer money n → (is_transfer n ≡ true) × (sum ≡ sum_of money n)
  unfolding as_transfer
  a_transfer is =
      either_way (is_transfer n)
      (λ one. let same = rw one at is in (one, cc))
      (λ none. let other = rw none at is in let never : ◌≡◌ {A = ℕ} 0 1 = cc in absurd (omega arith))

  -- and its grosze are within the cap of a sum
  pub transfer_within : is_transfer n ≡ true → WithinSum n
  transfer_within is = leb-true n sum_cap (and_right (leb 1 n) (leb n sum_cap) is)
