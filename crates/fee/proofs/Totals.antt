-- An amount that makes a total is the candidate, so that there is no second; and what is out of reach is made by none.
-- Assumes nothing.
use mathlib.Core.Path.{◌≡◌, refl, sym, ◌∙◌, ap}
use mathlib.Core.Bool.{Bool, true, false, cond, ◌&&◌, false≢true}
use Prim.Native.Nat.{ℕ, ◌+◌, ◌*◌, ◌-◌, ◌^◌, ◌≤◌}
use native.Mathlib.Nat.{div-eq_of_lt-le, mul-add, add-mul}
use native.Mathlib.Omega.{arith}
use borrow.Author.Tests.{leb-true, eqb-true, le-leb, lt-ltb}
use lib.Dec.{leb, ltb, eqb}
use Rattle.std.specs.Prelude.{Option, Some, None, Ok, Err}
use Rattle.money.specs.declared.Amount.{Amount}
use Rattle.text.proofs.Branches.{and_left, and_right, both_yes, either_way}
use Rattle.money.specs.Money.{amount, order_cap, is_order_amount, is_order_fee, WithinOrder}
use Rattle.fee.specs.Fee.{rate_cap, is_rate, fee_of, charged_by}
use Rattle.fee.specs.Total.{total_of, makes, candidate, found_for, terms_of, amount_for, AnswersTotal}
use Rattle.fee.specs.declared.Charge.{Charge}
use Rattle.fee.specs.declared.Terms.{Terms}
use Rattle.fee.specs.declared.refusal.Refusal.{Refusal}
use Rattle.fee.specs.declared.refusal.Refusal.TheVariants.{FlatPart, Rate}
use Rattle.fee.proofs.Charged.{charge_is}

-- what an amount that makes a total is
record Making (terms : Terms) (total grosze : ℕ) : Type 0 where
  pub order : grosze ≤ order_cap
  pub fee : fee_of terms grosze ≤ order_cap
  pub equal : total_of terms grosze ≡ total

pub amount_within : (grosze : ℕ) → is_order_amount grosze ≡ true → WithinOrder grosze
amount_within grosze h = leb-true grosze order_cap (and_right (leb 1 grosze) (leb grosze order_cap) h)

making : (terms : Terms) (total grosze : ℕ) → makes terms total grosze ≡ true → Making terms total grosze
unfolding makes
making terms total grosze h =
    let few = is_order_fee (fee_of terms grosze) in
    let same = eqb (total_of terms grosze) total in
    let rest = and_right (is_order_amount grosze) (few && same) h in
    record {
      order = amount_within grosze (and_left (is_order_amount grosze) (few && same) h);
      fee = leb-true (fee_of terms grosze) order_cap (and_left few same rest);
      equal = eqb-true (total_of terms grosze) total (and_right few same rest);
    }

module _ (terms : Terms) (total grosze : ℕ) (does : makes terms total grosze ≡ true) where
  -- what the flat part leaves is the amount and its rated part, and 10,000 times the rated part is the amount times the rate, less a remainder
  pub is_candidate : candidate terms total ≡ grosze
  is_candidate =
      let it = making terms total grosze does in
      let whole = rate_cap + terms.rate.0 in
      let parts = mul-add grosze rate_cap terms.rate.0 in
      let next = add-mul grosze 1 whole in
      div-eq_of_lt-le whole {m = rate_cap * (total - terms.flat.0) + (whole - 1)}
      (omega (arith, it.equal, parts)) (omega (arith, it.equal, parts, next))

  pub in_reach : (leb terms.flat.0 total && ltb total (2 ^ 32)) ≡ true
  in_reach =
      let it = making terms total grosze does in
      both_yes (leb terms.flat.0 total) (ltb total (2 ^ 32))
      (le-leb terms.flat.0 total (omega (arith, it.equal)))
      (lt-ltb total (2 ^ 32) (omega (arith, it.equal, it.order, it.fee)))

-- none that makes a total, where the candidate does not
pub none_makes : (terms : Terms) (total : ℕ) → makes terms total (candidate terms total) ≡ false → (grosze : ℕ) → makes terms total grosze ≡ false
none_makes terms total none grosze =
    either_way (makes terms total grosze)
    (λ does. absurd (false≢true (sym none ∙ rw (is_candidate terms total grosze does) does)))
    (λ not. not)

pub makes_within : (terms : Terms) (total grosze : ℕ) → makes terms total grosze ≡ true → WithinOrder grosze
makes_within terms total grosze does = (making terms total grosze does).order

pub out_of_reach : (terms : Terms) (total : ℕ) → (leb terms.flat.0 total && ltb total (2 ^ 32)) ≡ false → None ≡ found_for terms total
unfolding found_for
out_of_reach terms total far =
    either_way (makes terms total (candidate terms total))
    (λ does. absurd (false≢true (sym far ∙ in_reach terms total (candidate terms total) does)))
    (λ not. rw not refl)

-- an amount that is charged at all is charged a fee within the cap
fee_fits_holds : (terms : Terms) (grosze : ℕ) (charge : Charge) → Some charge ≡ charged_by terms grosze → is_order_fee (fee_of terms grosze) ≡ true
unfolding charged_by
fee_fits_holds terms grosze charge is =
    either_way (is_order_fee (fee_of terms grosze)) (λ yes. yes) (λ no. let none = rw no at is in cc)

pub fee_within : (terms : Terms) (grosze : ℕ) (charge : Charge) → Some charge ≡ charged_by terms grosze → WithinOrder charge.fee.0
fee_within terms grosze charge is =
    let within = leb-true (fee_of terms grosze) order_cap (fee_fits_holds terms grosze charge is) in
    rw (charge_is terms grosze within charge is) within

-- what is answered behind two questions, where that is no refusal
behind_both : (t u : Bool) (first second : Refusal) (last answer : Option Amount) → cond t (cond u (Ok last) (Err second)) (Err first) ≡ Ok answer → last ≡ answer
behind_both true true first second last answer e = cc
behind_both true false first second last answer e = cc
behind_both false u first second last answer e = cc

-- what a choice of an amount or none says
is_told : (t : Bool) (one grosze : ℕ) → cond t (Some (amount one)) None ≡ Some (amount grosze) → (t ≡ true) × (one ≡ grosze)
is_told true one grosze e = let same : amount one ≡ amount grosze = cc in (refl, ap (λ found. found.0) same)
is_told false one grosze e = cc

not_told : (t : Bool) (one : ℕ) → cond t (Some (amount one)) None ≡ None → t ≡ false
not_told true one e = cc
not_told false one e = refl

pub answers_total : (flat of_amount total : ℕ) → AnswersTotal flat of_amount total
unfolding amount_for found_for
answers_total flat of_amount total =
    let terms = terms_of flat of_amount in
    let could = candidate terms total in
    let does = makes terms total could in
    let behind = behind_both (is_rate of_amount) (is_order_fee flat) Rate FlatPart (cond does (Some (amount could)) None) in
    record {
      found = λ grosze e.
          let told = is_told does could grosze (behind (Some (amount grosze)) e) in
          rw told.1 at told.0;
      none = λ e. none_makes terms total (not_told does could (behind None e));
      alone = λ one another first second. sym (is_candidate terms total one first) ∙ is_candidate terms total another second;
    }
