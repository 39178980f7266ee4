-- Sums over the numbers below a bound, over a list by its indexes, and over a list of which one is set anew or each is changed.
-- Assumes nothing.
use mathlib.Core.Path.{◌≡◌, refl}
use mathlib.Core.List.{List, [], ◌∷◌, map}
use Prim.Native.Nat.{ℕ, zero, suc, ◌+◌, ◌<◌}
use native.Mathlib.Omega.{arith}
use lib.ListN.{length, get_or, set}
use Rattle.model.specs.Shipment.{sum_over}
use Rattle.model.specs.Demand.{below}

pub below_none : (n : ℕ) (f : ℕ → ℕ) → ((j : ℕ) → f j ≡ 0) → below n f ≡ 0
below_none zero f none = refl
below_none (suc n) f none = omega (arith, none 0, below_none n (λ j. f (suc j)) (λ j. none (suc j)))

pub below_same : (n : ℕ) (f g : ℕ → ℕ) → ((j : ℕ) → f j ≡ g j) → below n f ≡ below n g
below_same zero f g same = refl
below_same (suc n) f g same = omega (arith, same 0, below_same n (λ j. f (suc j)) (λ j. g (suc j)) (λ j. same (suc j)))

-- a sum with one place
pub below_one : (n k : ℕ) (f : ℕ → ℕ) → k < n → ((j : ℕ) → (j ≡ k → ⊥) → f j ≡ 0) → below n f ≡ f k
below_one zero k f inside elsewhere = absurd (omega arith)
below_one (suc n) zero f inside elsewhere = omega (arith, below_none n (λ j. f (suc j)) (λ j. elsewhere (suc j) (omega arith)))
below_one (suc n) (suc k) f inside elsewhere =
    omega (arith, elsewhere 0 (omega arith), below_one n k (λ j. f (suc j)) (omega arith) (λ j apart. elsewhere (suc j) (omega arith)))

module _ {A : Type 0} where
  pub sum_below : (f : A → ℕ) (l : List A) (none : A) → sum_over f l ≡ below (length l) (λ j. f (get_or l j none))
  sum_below f [] none = refl
  sum_below f (a ∷ l) none = omega (arith, sum_below f l none)

  pub sum_none : (f : A → ℕ) (l : List A) → ((a : A) → f a ≡ 0) → sum_over f l ≡ 0
  sum_none f [] none = refl
  sum_none f (a ∷ l) none = omega (arith, none a, sum_none f l none)

  pub sum_set : (f : A → ℕ) (l : List A) (j : ℕ) (a none : A) → j < length l → sum_over f (set l j a) + f (get_or l j none) ≡ sum_over f l + f a
  sum_set f [] j a none inside = omega arith
  sum_set f (b ∷ l) zero a none inside = omega arith
  sum_set f (b ∷ l) (suc j) a none inside = let rest = sum_set f l j a none (omega arith) in omega arith

  pub sum_moved : (f g h : A → ℕ) (c : A → A) → ((a : A) → f (c a) + g a ≡ h a) → (l : List A) → sum_over f (map c l) + sum_over g l ≡ sum_over h l
  sum_moved f g h c e [] = refl
  sum_moved f g h c e (a ∷ l) = let rest = sum_moved f g h c e l in let first = e a in omega arith

pub sum_map : {A B : Type 0} (f : B → ℕ) (h : A → ℕ) (c : A → B) → ((a : A) → f (c a) ≡ h a) → (l : List A) → sum_over f (map c l) ≡ sum_over h l
sum_map f h c e [] = refl
sum_map f h c e (a ∷ l) = let rest = sum_map f h c e l in let first = e a in omega arith
