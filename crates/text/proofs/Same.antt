-- Two texts compared byte by byte: `same` from a place on, and what its answer means.
-- Assumes nothing.
use mathlib.Core.Path.{◌≡◌, refl, sym}
use mathlib.Core.Bool.{true, ◌&&◌}
use Rattle.std.proofs.Math.Bool.{and_assoc}
use mathlib.Core.List.{List, [], ◌∷◌, ◌++◌}
use Prim.Native.Nat.{ℕ}
use borrow.Author.Tests.{eq-eqb, eqb-true}
use lib.Dec.{eqb}
use lib.ListN.{length, take, drop}
use Rattle.text.specs.Bytes.{same}
use Rattle.text.proofs.Branches.{and_left, and_right}

-- `same` says yes just where the texts are equal
pub same_equal : (a b : List ℕ) → same a b ≡ true → a ≡ b
same_equal [] [] h = refl
same_equal [] (y ∷ b) h = cc
same_equal (x ∷ a) [] h = cc
same_equal (x ∷ a) (y ∷ b) h =
    let e = eqb-true x y (and_left (eqb x y) (same a b) h) in
    let t = same_equal a b (and_right (eqb x y) (same a b) h) in
    cc

pub same_self : (a : List ℕ) → same a a ≡ true
same_self [] = refl
same_self (x ∷ a) = rw (eq-eqb x x refl) (same_self a)

-- a text is two texts one after the other where its first bytes are the one and the rest is the other
pub same_joined : (s a b : List ℕ) → same s (a ++ b) ≡ (same (take (length a) s) a && same (drop (length a) s) b)
same_joined s [] b = refl
same_joined [] (y ∷ a) b = refl
same_joined (x ∷ s) (y ∷ a) b =
    rw (same_joined s a b) (sym (and_assoc (eqb x y) (same (take (length a) s) a) (same (drop (length a) s) b)))
