-- A test that antt computes at each number below a bound holds of each of them.
-- Assumes nothing.
use mathlib.Core.Path.{◌≡◌, refl}
use mathlib.Core.Bool.{Bool, true, false, ◌&&◌}
use Prim.Native.Nat.{ℕ, zero, suc, ◌<◌}
use native.Mathlib.Omega.{arith}
use lib.Dec.{eqb}
use borrow.Author.Tests.{eqb-true, eqb-false}
use Rattle.text.proofs.Branches.{and_left, and_right}

abbrev pub below : (ℕ → Bool) → ℕ → Bool
below test zero = true
below test (suc n) = test n && below test n

pub each : (test : ℕ → Bool) (n : ℕ) → below test n ≡ true → (k : ℕ) → k < n → test k ≡ true
each test zero computed k h = absurd (omega arith)
each test (suc n) computed k h = go (eqb k n) refl (each test n (and_right (test n) (below test n) computed) k)
  where
    go : (t : Bool) → eqb k n ≡ t → (k < n → test k ≡ true) → test k ≡ true
    go true e rest = rw (eqb-true k n e) (and_left (test n) (below test n) computed)
    go false e rest = let other : k ≡ n → ⊥ = eqb-false k n e in rest (omega arith)
