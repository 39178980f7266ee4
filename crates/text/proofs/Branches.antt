-- Laws by which an answer follows the branches of its definition: what a choice or two joined tests are, where the first test is known.
-- `search branches depth 12` under `unfolding f` closes most returns of a function that branches as its definition `f` does.
-- Assumes nothing.
use mathlib.Core.Path.{◌≡◌, refl, sym, ◌∙◌}
use mathlib.Core.Bool.{Bool, true, false, cond, ◌&&◌, ◌||◌}
use borrow.Author.Tests.{lt-ltb, le-ltb, le-leb, lt-leb, eq-eqb, ne_eqb}

pub cond_true : {A : Type 0} (t : Bool) (a b r : A) → t ≡ true → r ≡ a → r ≡ cond t a b
cond_true t a b r h e = rw h e

pub cond_false : {A : Type 0} (t : Bool) (a b r : A) → t ≡ false → r ≡ b → r ≡ cond t a b
cond_false t a b r h e = rw h e

pub and-true : (t u r : Bool) → t ≡ true → r ≡ u → r ≡ (t && u)
and-true t u r h e = rw h e

pub and-false : (t u r : Bool) → t ≡ false → r ≡ false → r ≡ (t && u)
and-false t u r h e = rw h e

pub or-true : (t u r : Bool) → t ≡ true → r ≡ true → r ≡ (t || u)
or-true t u r h e = rw h e

pub or-false : (t u r : Bool) → t ≡ false → r ≡ u → r ≡ (t || u)
or-false t u r h e = rw h e

-- two joined tests that decide a choice
pub both_yes : (t u : Bool) → t ≡ true → u ≡ true → (t && u) ≡ true
both_yes t u h k = rw (h, k)

pub first_no_lem : (t u : Bool) → t ≡ false → (t && u) ≡ false
first_no_lem t u h = rw h

pub second_no : (t u : Bool) → u ≡ false → (t && u) ≡ false
second_no true u h = h
second_no false u h = refl

-- a test that a call answered
pub told : (r t v : Bool) → r ≡ t → r ≡ v → t ≡ v
told r t v p q = sym p ∙ q

pub ruleset branches = (
  refl,
  cond_true,
  cond_false,
  and-true,
  and-false,
  or-true,
  or-false,
  both_yes,
  first_no_lem,
  second_no,
  told,
  lt-ltb,
  le-ltb,
  le-leb,
  lt-leb,
  eq-eqb,
  ne_eqb,
)

-- the halves of a joined test that holds
pub and_left : (t u : Bool) → (t && u) ≡ true → t ≡ true
and_left true u h = refl
and_left false u h = h

pub and_right : (t u : Bool) → (t && u) ≡ true → u ≡ true
and_right true u h = h
and_right false u h = cc

-- two tests, each of which holds where the other does
pub both_ways : (t u : Bool) → (t ≡ true → u ≡ true) → (u ≡ true → t ≡ true) → t ≡ u
both_ways true u forth back = sym (forth refl)
both_ways false true forth back = back refl
both_ways false false forth back = refl

-- what holds of both ways of a choice holds of the choice
pub cond_either : {A : Type 0} (P : A → Type 0) (t : Bool) (a b : A) → (t ≡ true → P a) → (t ≡ false → P b) → P (cond t a b)
cond_either P true a b f g = f refl
cond_either P false a b f g = g refl

-- what follows from a test that holds and from one that does not, follows
pub either_way : {A : Type 0} (t : Bool) → (t ≡ true → A) → (t ≡ false → A) → A
either_way true f g = f refl
either_way false f g = g refl
