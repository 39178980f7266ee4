-- Questions asked one after the other, each with an early return: `search asking depth 24` closes such a return, where the list of questions unfolds.
-- Assumes nothing.
use mathlib.Core.Path.{◌≡◌, refl, sym, ◌∙◌}
use mathlib.Core.Bool.{Bool, true, false}
use mathlib.Core.List.{List, [], ◌∷◌, ◌++◌}
use Prim.Native.Nat.{ℕ}
use Rattle.text.proofs.Branches.{told}
use Rattle.epe.specs.Questions.{Verdict, Passed, Refused, Question, ◌else_no◌, first_no, asked}
use Rattle.epe.proofs.QuestionLaws.{asked_no, asked_yes, asked_none, asked_append, asked_passed, asked_refused}

module _ {ℓ} {A : Type ℓ} (refused : ℕ → A) (next : A) where
  pub ask_no : (answer : Bool) (n : ℕ) (qs : List Question) (r : A) → r ≡ refused n → answer ≡ false
      → r ≡ asked ((answer else_no n) ∷ qs) refused next
  ask_no answer n qs r e h = e ∙ sym (asked_no n qs refused next h)

  pub ask_yes : (answer : Bool) (n : ℕ) (qs : List Question) (r : A) → answer ≡ true → r ≡ asked qs refused next
      → r ≡ asked ((answer else_no n) ∷ qs) refused next
  ask_yes answer n qs r h e = e ∙ sym (asked_yes n qs refused next h)

  pub ask_none : (r : A) → r ≡ next → r ≡ asked [] refused next
  ask_none r e = e ∙ sym (asked_none refused next)

-- two lists of questions, the second asked where the first passed
module _ (ps qs : List Question) where
  pub join_no : (n : ℕ) → Refused n ≡ first_no ps → Refused n ≡ first_no (ps ++ qs)
  join_no n h = sym (asked_append ps qs Refused Passed ∙ asked_refused ps Refused (first_no qs) n (sym h))

  pub join_yes : (verdict : Verdict) → Passed ≡ first_no ps → verdict ≡ first_no qs → verdict ≡ first_no (ps ++ qs)
  join_yes verdict h is = is ∙ sym (asked_append ps qs Refused Passed ∙ asked_passed ps Refused (first_no qs) (sym h))

pub ruleset asking = (refl, ask_no, ask_yes, ask_none, told)
