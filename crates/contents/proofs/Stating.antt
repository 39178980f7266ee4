-- What a header states, read as its questions are asked: what there is of a count and a sum, and what the questions say of it.
-- Assumes nothing.
use mathlib.Core.Path.{◌≡◌, refl}
use mathlib.Core.Bool.{true, false}
use Prim.Native.Nat.{ℕ}
use native.Mathlib.Omega.{arith}
use borrow.Author.Tests.{le-leb, lt-ltb}
use lib.Dec.{leb, ltb}
use Rattle.std.specs.Prelude.{Option, Some, None, is_some}
use Rattle.std.specs.Option.{unwrap_or}
use Rattle.money.specs.Money.{grosze_of}
use Rattle.money.specs.declared.Amount.{Amount}

pub not_there : {A : Type 0} (r : Option A) → None ≡ r → is_some r ≡ false
not_there r e = rw (← e)

pub is_there : {A : Type 0} (a : A) (r : Option A) → Some a ≡ r → is_some r ≡ true
is_there a r e = rw (← e)

pub no_orders : (n : ℕ) (r : Option ℕ) → Some n ≡ r → n ≡ 0 → leb 1 (unwrap_or r 0) ≡ false
no_orders n r e z = rw (← e, z)

pub some_orders : (n : ℕ) (r : Option ℕ) → Some n ≡ r → (n ≡ 0 → ⊥) → leb 1 (unwrap_or r 0) ≡ true
some_orders n r e z = rw (← e) (le-leb 1 n (omega arith))

pub no_sum : (sum : Amount) (r : Option Amount) → Some sum ≡ r → sum.0 ≡ 0 → ltb 0 (grosze_of r) ≡ false
unfolding grosze_of
no_sum sum r e z = rw (← e, z)

pub some_sum : (sum : Amount) (r : Option Amount) → Some sum ≡ r → (sum.0 ≡ 0 → ⊥) → ltb 0 (grosze_of r) ≡ true
unfolding grosze_of
some_sum sum r e z = rw (← e) (lt-ltb 0 sum.0 (omega arith))

-- and what is there is what the definitions say, which is 0 where nothing is
pub count_is : (n : ℕ) (r : Option ℕ) → Some n ≡ r → n ≡ unwrap_or r 0
count_is n r e = rw (← e) refl

pub sum_is : (sum : Amount) (r : Option Amount) → Some sum ≡ r → sum.0 ≡ grosze_of r
unfolding grosze_of
sum_is sum r e = rw (← e) refl

pub ruleset stating = (not_there, is_there, no_orders, some_orders, no_sum, some_sum)
