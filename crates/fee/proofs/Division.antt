-- The division holds of an order's fee and remainder, and of no others; and the form in which code asks for it.
-- Assumes nothing.
use mathlib.Core.Path.{◌≡◌, sym, ◌∙◌, ap}
use mathlib.Core.Bool.{true, ◌&&◌}
use Prim.Native.Nat.{ℕ, ◌+◌, ◌*◌, ◌-◌, ◌^◌, ◌≤◌, ◌<◌}
use native.Mathlib.Nat.{mul-le-mul}
use native.Mathlib.Omega.{arith}
use borrow.Author.Tests.{leb-true, ltb-true, eqb-true, le-leb, lt-ltb, eq-eqb}
use lib.Bits.{bit_xor, xor_add_and, xor_self, and_le_l, and_le_r}
use lib.Dec.{leb, ltb, eqb}
use Rattle.text.proofs.Branches.{and_left, and_right, both_yes, both_ways}
use Rattle.fee.specs.Fee.{rate_cap, remainder_of, fee_of, DivisionHolds, divides, DividesAlone}
use Rattle.fee.specs.Inner.Difference.{difference_in, DifferenceTells}
use Rattle.fee.specs.declared.Terms.{Terms}

pub division_holds : DivisionHolds
division_holds terms amount = (omega arith, omega arith)

-- the three facts that it is
pub record Facts (terms : Terms) (amount fee remainder : ℕ) : Type 0 where
  pub flat : terms.flat.0 ≤ fee
  pub below : remainder < rate_cap
  pub equal : rate_cap * (fee - terms.flat.0) + remainder ≡ amount * terms.rate.0

pub facts_of : (terms : Terms) (amount fee remainder : ℕ) → divides terms amount fee remainder ≡ true → Facts terms amount fee remainder
unfolding divides
facts_of terms amount fee remainder h =
    let flat = leb terms.flat.0 fee in
    let below = ltb remainder rate_cap in
    let equal = eqb (rate_cap * (fee - terms.flat.0) + remainder) (amount * terms.rate.0) in
    let rest = and_right flat (below && equal) h in
    record {
      flat = leb-true terms.flat.0 fee (and_left flat (below && equal) h);
      below = ltb-true remainder rate_cap (and_left below equal rest);
      equal = eqb-true (rate_cap * (fee - terms.flat.0) + remainder) (amount * terms.rate.0) (and_right below equal rest);
    }

pub divides_by : (terms : Terms) (amount fee remainder : ℕ) → Facts terms amount fee remainder → divides terms amount fee remainder ≡ true
unfolding divides
divides_by terms amount fee remainder facts =
    both_yes (leb terms.flat.0 fee) _ (le-leb terms.flat.0 fee facts.flat)
    (both_yes (ltb remainder rate_cap) _ (lt-ltb remainder rate_cap facts.below)
    (eq-eqb (rate_cap * (fee - terms.flat.0) + remainder) (amount * terms.rate.0) facts.equal))

pub divides_alone : (terms : Terms) (amount : ℕ) → DividesAlone terms amount
divides_alone terms amount = record {
  holds = divides_by terms amount (fee_of terms amount) (remainder_of terms amount) (record { flat = omega arith; below = omega arith; equal = omega arith });
  alone = λ fee remainder h.
      let facts = facts_of terms amount fee remainder h in
      (omega (arith, facts.flat, facts.below, facts.equal), omega (arith, facts.flat, facts.below, facts.equal));
}

-- the product is small
pub small_product : (amount rate : ℕ) → amount < 2 ^ 32 → rate ≤ rate_cap → amount * rate ≤ 4_294_967_296 * 10_000
small_product amount rate few low =
    let most : amount ≤ 4_294_967_296 = omega arith in
    mul-le-mul most low

-- as code asks: two sums, and no difference
divides_told : (terms : Terms) (amount fee remainder : ℕ)
    → (ltb remainder rate_cap && eqb (rate_cap * fee + remainder) (amount * terms.rate.0 + rate_cap * terms.flat.0)) ≡ divides terms amount fee remainder
divides_told terms amount fee remainder =
    both_ways (ltb remainder rate_cap && eqb (rate_cap * fee + remainder) (amount * terms.rate.0 + rate_cap * terms.flat.0)) (divides terms amount fee remainder)
    (λ yes.
    let below = ltb-true remainder rate_cap (and_left (ltb remainder rate_cap) _ yes) in
    let equal = eqb-true (rate_cap * fee + remainder) (amount * terms.rate.0 + rate_cap * terms.flat.0) (and_right (ltb remainder rate_cap) _ yes) in
    divides_by terms amount fee remainder (record { flat = omega arith; below = below; equal = omega arith }))
    (λ yes.
    let facts = facts_of terms amount fee remainder yes in
    both_yes (ltb remainder rate_cap) _ (lt-ltb remainder rate_cap facts.below)
    (eq-eqb (rate_cap * fee + remainder) (amount * terms.rate.0 + rate_cap * terms.flat.0) (omega (arith, facts.flat, facts.equal))))

-- equal numbers differ in no bit, and no others do
none_differs : (a b : ℕ) → eqb (bit_xor a b) 0 ≡ eqb a b
none_differs a b =
    both_ways (eqb (bit_xor a b) 0) (eqb a b)
    (λ none. eq-eqb a b (omega (arith, eqb-true (bit_xor a b) 0 none, xor_add_and a b, and_le_l a b, and_le_r a b)))
    (λ same. eq-eqb (bit_xor a b) 0 (ap (bit_xor a) (sym (eqb-true a b same)) ∙ xor_self a))

pub difference_tells : DifferenceTells
unfolding difference_in
difference_tells terms amount fee remainder =
    sym (divides_told terms amount fee remainder) ∙ ap (λ t. ltb remainder rate_cap && t) (sym (none_differs (rate_cap * fee + remainder) (amount * terms.rate.0 + rate_cap * terms.flat.0)))
