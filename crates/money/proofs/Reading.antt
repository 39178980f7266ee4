-- An amount's text: when it is too short, when it has its point, and how much it can read.
-- Assumes nothing.
use mathlib.Core.Path.{◌≡◌, refl, sym, ◌∙◌}
use mathlib.Core.Bool.{Bool, true, false, ◌&&◌}
use mathlib.Core.List.{List}
use Prim.Native.Nat.{ℕ, ◌+◌, ◌-◌, ◌*◌, ◌^◌, ◌<◌, ◌≤◌}
use native.Mathlib.Omega.{arith}
use lib.Dec.{eqb}
use lib.ListN.{length, get_or, take, drop}
use lib.Pow.{pow-add}
use lib.Seq.{drop-drop, get_or-drop}
use native.Mathlib.Nat.{add-zero}
use Rattle.std.specs.Prelude.{Option, Some, None, IfSome}
use Rattle.std.specs.Option.{unwrap_or}
use Rattle.text.specs.Number.{number}
use Rattle.text.proofs.Branches.{cond_either}
use Rattle.text.proofs.Digits.{number_bound}
use Rattle.money.specs.Money.{amount, order_cap, grosze_of}
use Rattle.money.specs.Text.{together, no_leading_zero, text_of, order_text}
use Rattle.money.specs.declared.Amount.{Amount}

abbrev is_shaped : List ℕ → Bool
is_shaped s = eqb (get_or s (length s - 3) 0) 0x2E && no_leading_zero (take (length s - 3) s)

abbrev parts_read : ℕ → List ℕ → Option Amount
parts_read most s = together (number 1 most (take (length s - 3) s)) (number 2 2 (drop (length s - 2) s))

pub too_short : (most : ℕ) (s : List ℕ) → (3 ≤ length s → ⊥) → None ≡ text_of most s
unfolding text_of together number
too_short most s h =
    let nothing_before : length s - 3 ≡ 0 = omega arith in
    cond_either (λ r. None ≡ r) (is_shaped s) (parts_read most s) None (λ t. rw nothing_before) (λ t. refl)

-- A text of three bytes or more, as `split_at` parts it before its last three.
module _ (most : ℕ) (s whole behind : List ℕ) (k : ℕ) (long : 3 ≤ length s) (at : k ≡ length s - 3) (front : whole ≡ take k s) (back : behind ≡ drop k s) where
  same_shape : (eqb (get_or behind 0 0) 0x2E && no_leading_zero whole) ≡ is_shaped s
  same_shape = rw (back, front, at, get_or-drop (length s - 3) s 0 0, add-zero)

  pub not_shaped : (eqb (get_or behind 0 0) 0x2E && no_leading_zero whole) ≡ false → None ≡ text_of most s
  unfolding text_of
  not_shaped h = rw (sym same_shape ∙ h)

  shaped : (eqb (get_or behind 0 0) 0x2E && no_leading_zero whole) ≡ true → (z g : Option ℕ)
      → z ≡ number 1 most whole → g ≡ number 2 2 (drop 1 behind) → together z g ≡ text_of most s
  unfolding text_of
  shaped h z g zlote grosze =
      let e : length s - 3 + 1 ≡ length s - 2 = omega arith in
      rw (sym same_shape ∙ h, zlote, grosze, front, back, at, drop-drop, e)

  module _ (h : (eqb (get_or behind 0 0) 0x2E && no_leading_zero whole) ≡ true) where
    pub no_zlote : None ≡ number 1 most whole → None ≡ text_of most s
    unfolding together
    no_zlote zlote = shaped h None (number 2 2 (drop 1 behind)) zlote refl

    pub no_grosze : (z : ℕ) → Some z ≡ number 1 most whole → None ≡ number 2 2 (drop 1 behind) → None ≡ text_of most s
    unfolding together
    no_grosze z zlote grosze = shaped h (Some z) None zlote grosze

    pub both_read : (z g : ℕ) → Some z ≡ number 1 most whole → Some g ≡ number 2 2 (drop 1 behind) → Some (amount (z * 100 + g)) ≡ text_of most s
    unfolding together
    both_read z g zlote grosze = shaped h (Some z) (Some g) zlote grosze

pub hundred_more : (most : ℕ) → 10 ^ (most + 2) ≡ 10 ^ most * 100
hundred_more most = pow-add 10 most 2

-- What so many digits before the point and two behind it can read at most.
digits_bound : (most : ℕ) (zlote grosze : Option ℕ) → IfSome zlote (λ n. n < 10 ^ most) → IfSome grosze (λ n. n < 10 ^ 2)
    → IfSome (together zlote grosze) (λ amount. amount.0 ≤ 10 ^ (most + 2) - 1)
unfolding together
digits_bound most (Some zlote) (Some grosze) z g = omega (arith, hundred_more most)
digits_bound most (Some zlote) None z g = tt
digits_bound most None grosze z g = tt

pub text_bound : (most : ℕ) (s : List ℕ) → IfSome (text_of most s) (λ amount. amount.0 ≤ 10 ^ (most + 2) - 1)
unfolding text_of
text_bound most s =
    cond_either (λ r. IfSome r (λ amount. amount.0 ≤ 10 ^ (most + 2) - 1)) (is_shaped s) _ None
    (λ t. digits_bound most (number 1 most (take (length s - 3) s)) (number 2 2 (drop (length s - 2) s))
    (number_bound 1 most (take (length s - 3) s)) (number_bound 2 2 (drop (length s - 2) s)))
    (λ t. tt)

pub grosze_bound : (cap : ℕ) (r : Option Amount) → IfSome r (λ amount. amount.0 ≤ cap) → grosze_of r ≤ cap
unfolding grosze_of
grosze_bound cap (Some amount) h = h
grosze_bound cap None h = omega arith

-- an amount, or none, by its grosze
pub amount_or_none : (r : Option Amount) → unwrap_or r (amount 0) ≡ amount (grosze_of r)
unfolding grosze_of
amount_or_none (Some amount) = refl
amount_or_none None = refl

-- "An order's amount is 1 to 999,999,999".
pub order_text_bound : (s : List ℕ) → grosze_of (order_text s) ≤ order_cap
order_text_bound s = grosze_bound order_cap (order_text s) (text_bound 7 s)
