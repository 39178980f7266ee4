-- The two steps are a file's contents, and of an accepted file every line is read.
-- Assumes nothing.
use mathlib.Core.Path.{◌≡◌, refl, sym, ◌∙◌, ap}
use mathlib.Core.Bool.{true}
use mathlib.Core.List.{List, [], ◌∷◌, ◌++◌, map}
use Prim.Native.Nat.{ℕ, ◌+◌}
use borrow.Author.Tests.{le-leb}
use Rattle.text.proofs.Branches.{and_left, and_right}
use Rattle.epe.specs.Questions.{Question, Verdict, Passed, Refused, first_no}
use Rattle.epe.specs.File.{header, records}
use Rattle.epe.specs.Profile.{profile_fits, profile_questions}
use Rattle.epe.specs.declared.profile.Profile.{Profile}
use Rattle.epe.proofs.Asking.{join_no, join_yes}
use Rattle.epe.proofs.QuestionLaws.{all_yes, all_yes_passed, yes_before}
use Rattle.epe.proofs.ProfileLaws.{fields_allowed}
use Rattle.contents.specs.Contents.{shaped, all_shaped, order_of, orders, record_questions, contents_questions, contents, judged_of, lines_read, orders_read, AcceptedIsRead, date_questions, stated_questions, header_questions}
use Rattle.contents.specs.Steps.{stated_in, stated_of, stated_verdict, none_kept, kept_where, judged_records, records_of, records_behind, TwoStepsAreContents}
use Rattle.contents.specs.Kept.{kept_from}
use Rattle.contents.specs.declared.record.Order.{Order}

-- questions behind others that passed
pub judged_after : (ps qs : List Question) (os : List Order) → first_no ps ≡ Passed → judged_of (first_no qs) os ≡ judged_of (first_no (ps ++ qs)) os
judged_after ps qs os e = ap (λ (v : Verdict). judged_of v os) (join_yes ps qs (first_no qs) (sym e) refl)

-- where all lines are shaped, all are read
all_read : (r n : ℕ) (lines : List (List ℕ)) → all_shaped r n lines ≡ true → lines_read r n lines ≡ lines
unfolding all_shaped lines_read
all_read r n [] h = refl
all_read r n (line ∷ lines) h =
    rw (and_left (shaped r n line) (all_shaped r (n + 1) lines) h)
    (ap (λ read. line ∷ read) (all_read r (n + 1) lines (and_right (shaped r n line) (all_shaped r (n + 1) lines) h)))

pub accepted_is_read : AcceptedIsRead
unfolding contents contents_questions profile_questions date_questions stated_questions record_questions orders_read orders
accepted_is_read profile file passed =
    let yes = all_yes (contents_questions profile file) passed in
    ap (map order_of) (all_read profile.fields 1 (records file) yes.1.1.1.1.1.1.1.1.1.1.1.0)

-- the two steps, one behind the other
module _ (profile : Profile) (file : List ℕ) where
  abbrev first : List Question
  first = header_questions profile (header file)

  abbrev second : List Question
  second = record_questions profile.fields (stated_of profile file).count (stated_of profile file).sum (stated_of profile file).terms (records file)

  in_two : contents profile file ≡ first_no (first ++ second)
  unfolding contents contents_questions stated_of stated_in
  in_two = refl

  allowed : profile_fits profile ≡ true → (records_behind profile file).judged ≡ judged_of (first_no second) (orders file)
  unfolding records_of judged_records
  allowed fits = rw (le-leb profile.fields 32 (fields_allowed profile fits))

  refused_first : (n : ℕ) → stated_verdict profile file ≡ Refused n → contents profile file ≡ Refused n
  refused_first n refused = in_two ∙ sym (join_no first second n (sym refused))

  profile_asked : stated_verdict profile file ≡ Passed → profile_fits profile ≡ true
  unfolding profile_questions
  profile_asked passed = (all_yes first passed).0

  decided_second : stated_verdict profile file ≡ Passed → (records_behind profile file).judged ≡ judged_of (contents profile file) (orders file)
  decided_second passed =
      allowed (profile_asked passed)
      ∙ judged_after first second (orders file) passed
      ∙ ap (λ (v : Verdict). judged_of v (orders file)) (sym in_two)

  all_kept : contents profile file ≡ Passed → (records_behind profile file).kept ≡ kept_from none_kept 0 (orders file)
  unfolding records_of kept_where judged_of
  all_kept passed =
      let headed = all_yes_passed first (yes_before first second (all_yes (first ++ second) (sym in_two ∙ passed))) in
      let judged_is = decided_second headed ∙ ap (λ (v : Verdict). judged_of v (orders file)) passed in
      ap (λ j. kept_where j (kept_from none_kept 0 (orders_read profile.fields file))) judged_is
      ∙ ap (kept_from none_kept 0) (accepted_is_read profile file passed)

pub two_steps_are_contents : TwoStepsAreContents
two_steps_are_contents = record { first_refuses = refused_first; second_decides = decided_second; accepted_kept = all_kept }
