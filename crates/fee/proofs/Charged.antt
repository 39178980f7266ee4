-- Terms that fit are within their caps, and an order whose fee is within its own is charged that fee and its remainder.
-- Assumes nothing.
use mathlib.Core.Path.{◌≡◌, refl, ◌∙◌}
use mathlib.Core.Bool.{true}
use Prim.Native.Nat.{ℕ}
use borrow.Author.Tests.{leb-true, le-leb}
use Rattle.std.specs.Prelude.{Option, Some, None}
use Rattle.text.proofs.Branches.{and_left, and_right}
use Rattle.money.specs.Money.{order_cap, is_order_fee, WithinOrder}
use Rattle.fee.specs.Fee.{rate_cap, is_rate, terms_fit, TermsFit, fee_of, charge_of, charged_by}
use Rattle.fee.specs.declared.Charge.{Charge}
use Rattle.fee.specs.declared.Terms.{Terms}

pub terms_within : (terms : Terms) → terms_fit terms ≡ true → TermsFit terms
terms_within terms fit =
    let flat = is_order_fee terms.flat.0 in
    let rate = is_rate terms.rate.0 in
    (leb-true terms.flat.0 order_cap (and_left flat rate fit), leb-true terms.rate.0 rate_cap (and_right flat rate fit))

module _ (terms : Terms) (amount : ℕ) (within : WithinOrder (fee_of terms amount)) where
  charged : charged_by terms amount ≡ Some (charge_of terms amount)
  unfolding charged_by
  charged = rw (le-leb (fee_of terms amount) order_cap within) refl

  pub never_above : ◌≡◌ {A = Option Charge} None (charged_by terms amount) → ⊥
  never_above above = let never : ◌≡◌ {A = Option Charge} None (Some (charge_of terms amount)) = above ∙ charged in cc

  pub charge_is : (charge : Charge) → Some charge ≡ charged_by terms amount → charge ≡ charge_of terms amount
  charge_is charge is = let same = is ∙ charged in cc
