-- Digits read from a place on, and how large the number can be.
-- Assumes nothing.
use mathlib.Core.Path.{◌≡◌, refl}
use mathlib.Core.Bool.{Bool, true, false, ◌&&◌}
use mathlib.Core.List.{List, [], ◌∷◌}
use Prim.Native.Nat.{ℕ, suc, ◌+◌, ◌*◌, ◌-◌, ◌^◌, ◌<◌, ◌≤◌}
use native.Mathlib.Nat.{add-zero, zero-add, pow-suc, pow-le-pow_right}
use native.Mathlib.Numerals.{add-one}
use native.Mathlib.Omega.{arith}
use borrow.Author.Tests.{leb-true}
use lib.Dec.{leb, lit<}
use lib.ListN.{length, get_or, drop, drop_of_length-le}
use Rattle.std.specs.Bool.{then_some}
use Rattle.text.specs.Bytes.{between, digit}
use Rattle.std.specs.Prelude.{Option, Some, None, IfSome}
use Rattle.std.specs.Option.{unwrap_or}
use Rattle.text.specs.Number.{number_after, number}
use Rattle.text.proofs.Branches.{and_left, and_right, cond_either}
use Rattle.text.proofs.Places.{from_here}

pub digit_range : (b : ℕ) → digit b ≡ true → (48 ≤ b) × (b ≤ 57)
unfolding digit
digit_range b h = (
  leb-true 48 b (and_left (leb 48 b) (leb b 57) h),
  leb-true b 57 (and_right (leb 48 b) (leb b 57) h),
)

-- what a byte says of a digit's value
pub digit_said : (b r : ℕ) → Some r ≡ then_some (digit b) (b - 48) → (digit b ≡ true) × (r ≡ b - 48) × (r ≤ 9)
digit_said b r e = go (digit b) refl e
  where
    go : (t : Bool) → digit b ≡ t → Some r ≡ then_some t (b - 48) → (digit b ≡ true) × (r ≡ b - 48) × (r ≤ 9)
    go true d e = let same : r ≡ b - 48 = cc in (d, same, omega (arith, digit_range b d))
    go false d e = cc

no_digit_said : (b x : ℕ) → None ≡ then_some (digit b) x → digit b ≡ false
no_digit_said b x e = go (digit b) e
  where
    go : (t : Bool) → None ≡ then_some t x → t ≡ false
    go true e = cc
    go false e = refl

module _ (n : ℕ) (s : List ℕ) (i : ℕ) where
  pub number_on : (r : ℕ) → i < length s → Some r ≡ then_some (digit (get_or s i 0)) (get_or s i 0 - 48)
      → number_after (n * 10 + r) (drop (i + 1) s) ≡ number_after n (drop i s)
  unfolding number_after
  number_on r h e = let said = digit_said (get_or s i 0) r e in rw (from_here s i h, said.0, said.1) refl

  pub number_not : i < length s → None ≡ then_some (digit (get_or s i 0)) (get_or s i 0 - 48) → number_after n (drop i s) ≡ None
  unfolding number_after
  number_not h e = rw (from_here s i h, no_digit_said (get_or s i 0) (get_or s i 0 - 48) e) refl

  pub number_end : length s ≤ i → number_after n (drop i s) ≡ Some n
  unfolding number_after
  number_end h = rw (drop_of_length-le s h)

-- powers of ten
pub ten_more : (i : ℕ) → 10 ^ (i + 1) ≡ 10 ^ i * 10
ten_more i = rw (add-one, pow-suc)

pub tens_rise : {i j : ℕ} → i ≤ j → 10 ^ i ≤ 10 ^ j
tens_rise h = pow-le-pow_right (lit< tt) h

-- a digit more than at most 17 that were read
pub one_more : (n i : ℕ) → n < 10 ^ i → i < 18 → (n * 10 + 10 ≤ 10 ^ (i + 1)) × (10 ^ (i + 1) ≤ 10 ^ 18)
one_more n i h l = (omega (arith, ten_more i), tens_rise {i = i + 1} {j = 18} (omega arith))

pub below_larger : {m n : ℕ} (r : Option ℕ) → m ≤ n → IfSome r (λ x. x < m) → IfSome r (λ x. x < n)
below_larger (Some x) h b = omega arith
below_larger None h b = tt

-- what digits can write: n digits before s make it grow by a power of ten for each byte
after_bound : (k n : ℕ) (s : List ℕ) → n < 10 ^ k → IfSome (number_after n s) (λ x. x < 10 ^ (k + length s))
unfolding number_after
after_bound k n [] h = rw (add-zero k) h
after_bound k n (b ∷ s) h =
    cond_either (λ r. IfSome r (λ x. x < 10 ^ (k + suc (length s)))) (digit b) (number_after (n * 10 + (b - 0x30)) s) None
    (λ d. let e : k + suc (length s) ≡ k + 1 + length s = omega arith in
    rw e (after_bound (k + 1) (n * 10 + (b - 0x30)) s (omega (arith, ten_more k, digit_range b d))))
    (λ d. tt)

pub number_bound : (least most : ℕ) (s : List ℕ) → IfSome (number least most s) (λ x. x < 10 ^ most)
unfolding number
number_bound least most s =
    cond_either (λ r. IfSome r (λ x. x < 10 ^ most)) (between least most (length s) && leb (length s) 18) (number_after 0 s) None
    (λ h. let l = and_left (between least most (length s)) (leb (length s) 18) h in
    let m = leb-true (length s) most (and_right (leb least (length s)) (leb (length s) most) l) in
    below_larger (number_after 0 s) (tens_rise m) (rw zero-add at (after_bound 0 0 s (omega arith))))
    (λ h. tt)

pub value_bound : (bound : ℕ) (r : Option ℕ) → 0 < bound → IfSome r (λ x. x < bound) → unwrap_or r 0 < bound
value_bound bound (Some n) p h = h
value_bound bound None p h = p
