-- What a `?` passes on: what an option was that became a result by `ok_or`, and which refusal is returned.
-- Assumes nothing.
use mathlib.Core.Path.{◌≡◌, refl, ◌∙◌, ap}
use Rattle.std.specs.Prelude.{Option, Some, None, Result, Ok, Err, ok_or}
use Rattle.std.specs.Result.{IsErrAnd}
use Rattle.std.proofs.lemmas.Result.{err_from_is_err_and}

pub none_of : {A E : Type 0} (o : Option A) (other : E) {e : E} → Err e ≡ ok_or o other → (o ≡ None) × (e ≡ other)
none_of None other e = (refl, cc)
none_of (Some a) other e = let never : ⊥ = cc in absurd never

pub some_of : {A E : Type 0} (o : Option A) (other : E) {a : A} → Ok a ≡ ok_or o other → o ≡ Some a
some_of None other e = let never : ⊥ = cc in absurd never
some_of (Some one) other e = cc

pub passed_on : {A E : Type 0} {r : Result A E} {e : E} → IsErrAnd r (λ d. d ≡ e) → r ≡ Err e
passed_on {r = r} passed = let which = err_from_is_err_and r passed in which.1 ∙ ap Err which.2
