-- What was accepted of a money is divided: by the parts of its orders a shipment's need and what it holds are known, and what has left is the rest.
-- Assumes nothing.
use mathlib.Core.Path.{◌≡◌, refl, ap, ◌∙◌}
use mathlib.Core.Bool.{Bool, true, false, cond}
use Prim.Native.Nat.{ℕ, ◌+◌, ◌-◌, ◌≤◌}
use native.Mathlib.Omega.{arith}
use Rattle.money.specs.Money.{sum_of, grosze_in}
use Rattle.money.specs.declared.Money.{Money}
use Rattle.money.specs.declared.Sum.{Sum}
use Rattle.money.proofs.Sums.{grosze_of_sum}
use Rattle.money.specs.declared.Money.TheVariants.{K, O}
use Rattle.model.specs.Shipment.{Shipment, accepted, returned, is_paired, sum_over, worth, need, need_once_paired, free, held}
use Rattle.model.specs.Sound.{shipment_sound}
use Rattle.model.proofs.SoundParts.{in_order}
use Rattle.sheet.specs.declared.row.Parts.{Parts}
use Rattle.sheet.specs.Sheet.{left}
use Rattle.sheet.specs.Inner.Parts.{held_by, no_parts, parts_of, whole_in, held_in, parts_once_paired, divided, division_of}
use Rattle.sheet.specs.declared.division.Division.{Division}
use Rattle.sheet.specs.Inner.Filling.{DivisionWithin}
use Rattle.sheet.proofs.Balance.{balances}

-- the parts of a shipment are its need and what it holds
module _ (s : Shipment) {parts : Parts} (are : parts ≡ parts_once_paired s) where
  parts_when : (paired : Bool) → is_paired s.stage ≡ paired → (money : Money)
      → (whole_in money parts ≡ need_once_paired money s) × (held_in money parts ≡ held money s)
  unfolding parts_once_paired need held
  parts_when true paired = let those : parts ≡ parts_of s.rows = are ∙ ap (λ t. cond t (parts_of s.rows) no_parts) paired in rw (paired, those) by
    where
      by : (money : Money) → (whole_in money (parts_of s.rows) ≡ sum_over (worth money) s.rows) × (held_in money (parts_of s.rows) ≡ sum_over (held_by money) s.rows)
      by K = (refl, refl)
      by O = (refl, refl)
  parts_when false unpaired = let none : parts ≡ no_parts = are ∙ ap (λ t. cond t (parts_of s.rows) no_parts) unpaired in rw (unpaired, none) by
    where
      by : (money : Money) → (whole_in money no_parts ≡ 0) × (held_in money no_parts ≡ 0)
      by K = (refl, refl)
      by O = (refl, refl)

  pub all_needed : (money : Money) → whole_in money parts ≡ need_once_paired money s
  all_needed money = (parts_when (is_paired s.stage) refl money).0

  pub all_held : (money : Money) → held_in money parts ≡ held money s
  all_held money = (parts_when (is_paired s.stage) refl money).1

-- and what was accepted is divided by them
module _ (money : Money) (s : Shipment) (sound : shipment_sound s ≡ true) where
  divisible : (returned money s + need_once_paired money s ≤ accepted money s) × (held money s ≤ returned money s + need_once_paired money s)
  unfolding free
  divisible =
      let covered = ((in_order s sound).moneys money).covered in
      (covered, omega (arith, covered, balances money s sound))

  divided_is : divided (accepted money s) (returned money s) (need_once_paired money s) (held money s) ≡ division_of money s
  unfolding free
  divided_is =
      let rest : accepted money s - held money s - (accepted money s - need_once_paired money s - returned money s) ≡ left money s
      = omega (arith, balances money s sound, divisible) in
      λ t. record {
        accepted = accepted money s;
        held = held money s;
        free = accepted money s - need_once_paired money s - returned money s;
        left = rest t;
      }

-- each of its sums is a total
pub division_within_lem : (money : Money) (s : Shipment) → shipment_sound s ≡ true → DivisionWithin (division_of money s)
division_within_lem money s sound =
    let whole = balances money s sound in
    let low = ((in_order s sound).moneys money).accepted_fits in
    record { first = omega arith; second = omega arith; third = omega arith; fourth = omega arith }

-- as code divides
module _ (s : Shipment) (sound : shipment_sound s ≡ true) (money : Money) {a r : ℕ} (a_is : a ≡ accepted money s) (r_is : r ≡ returned money s) {n h : ℕ}
    (n_is : n ≡ need_once_paired money s) (h_is : h ≡ held money s) where
  pub division_is : divided a r n h ≡ division_of money s
  division_is = (λ t. divided (a_is t) (r_is t) (n_is t) (h_is t)) ∙ divided_is money s sound

pub division_low : (s : Shipment) → shipment_sound s ≡ true → (money : Money) → {d : Division} → d ≡ division_of money s → DivisionWithin d
division_low s sound money is = rw is (division_within_lem money s sound)

-- as code reads what it divides
module _ (s : Shipment) (money : Money) {d : Division} {a r n h : ℕ} {whole back : Sum} (is : d ≡ divided a r n h) (a_is : a ≡ grosze_in whole)
    (whole_is : whole ≡ sum_of money (accepted money s)) (r_is : r ≡ grosze_in back) (back_is : back ≡ sum_of money (returned money s))
    (n_is : n ≡ need_once_paired money s) (h_is : h ≡ held money s) (sound : shipment_sound s ≡ true) where
  pub divides : d ≡ division_of money s
  divides =
      is
      ∙ division_is s sound money (a_is ∙ ap grosze_in whole_is ∙ grosze_of_sum money _) (r_is ∙ ap grosze_in back_is ∙ grosze_of_sum money _) n_is h_is

  pub divides_low : DivisionWithin d
  divides_low = division_low s sound money divides

-- by which code divides
pub ruleset dividing = (divides, divides_low)
