-- The parts of a name that passes its questions.
-- Assumes nothing.
use mathlib.Core.Path.{◌≡◌}
use mathlib.Core.Bool.{true, false, ◌||◌}
use mathlib.Core.List.{List}
use Prim.Native.Nat.{ℕ}
use lib.Dec.{leb, eqb}
use lib.ListN.{get_or}
use Rattle.text.specs.Bytes.{same}
use Rattle.text.specs.Quoted.{bytes}
use Rattle.text.specs.Number.{number}
use Rattle.std.specs.Prelude.{is_some}
use Rattle.std.specs.Option.{unwrap_or}
use Rattle.text.proofs.Branches.{and_right, either_way}
use Rattle.text.proofs.Same.{same_equal}
use Rattle.calendar.specs.Calendar.{real}
use Rattle.epe.specs.Name.{name_part, name_ident, name_date, name_questions, name_of, name_in_form, PartsInForm}
use Rattle.epe.proofs.QuestionLaws.{all_yes}
use Rattle.epe.proofs.IdentLaws.{held_in_form}

-- one letter is the first byte of its text
letter_first : (part : List ℕ) → (same part (bytes "A") || same part (bytes "B")) ≡ true → (eqb (get_or part 0 0) 0x41 || eqb (get_or part 0 0) 0x42) ≡ true
letter_first part h =
    either_way (same part (bytes "A"))
    (λ (is : same part (bytes "A") ≡ true). rw (same_equal part (bytes "A") is))
    (λ (other : same part (bytes "A") ≡ false). rw (same_equal part (bytes "B") (rw other at h)))

-- the parts of a name whose questions are all answered yes
pub parts_in_form : PartsInForm
unfolding name_questions name_of name_in_form
parts_in_form name passed =
    let answers = all_yes (name_questions name) passed in
    let dated = and_right (is_some (number 6 6 (name_part 2 name))) (real (name_date name)) answers.1.1.1.1.0 in
    let digit = unwrap_or (number 1 1 (name_part 4 name)) 0 in
    let kind = and_right (is_some (number 1 1 (name_part 4 name))) (leb digit 4) answers.1.1.1.1.1.1.0 in
    rw (
      held_in_form (name_ident name) answers.1.1.1.0,
      dated,
      letter_first (name_part 3 name) answers.1.1.1.1.1.0,
      kind,
    )
