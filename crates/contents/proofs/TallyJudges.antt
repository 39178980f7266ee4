-- From a tally to what the second step comes to.
-- Assumes nothing.
use mathlib.Core.Path.{◌≡◌, refl, sym, ◌∙◌, ap}
use mathlib.Core.Bool.{true, false, cond}
use mathlib.Core.List.{List, map}
use Prim.Native.Nat.{ℕ, ◌+◌, ◌<◌, ◌≤◌}
use borrow.Author.Tests.{le-leb, lt-leb}
use lib.Dec.{ltb}
use lib.ListN.{length, replicate, length-map}
use Rattle.fee.specs.declared.Terms.{Terms}
use Rattle.std.specs.Prelude.{Option, Some, None, Result, Ok, Err, is_err}
use Rattle.epe.specs.declared.refusal.Refusal.{Refusal}
use Rattle.contents.specs.declared.judge.Accepted.{Accepted as AcceptedOrders}
use Rattle.epe.specs.Questions.{Verdict, Passed, Refused, first_no, asked}
use Rattle.epe.specs.File.{records}
use Rattle.epe.specs.Inner.Walk.{lines_from, line_end, body}
use Rattle.epe.proofs.QuestionLaws.{asked_no, asked_yes, asked_through}
use Rattle.epe.proofs.LineWalk.{next_of, records_after}
use Rattle.contents.specs.Contents.{order_of, orders, faulty_count, record_questions, Judged, Accepted, NotAccepted, judged_of, judged_as, orders_read}
use Rattle.contents.specs.Kept.{kept_from}
use Rattle.contents.specs.Steps.{none_kept, kept_where, judged_records, records_of}
use Rattle.contents.specs.Inner.Tally.{Tallied, tally_questions, tally_judged}
use Rattle.contents.specs.declared.tally.Tally.{Tally}

-- the five questions of the records, answered by their tally
pub tally_judges : (fields count sum : ℕ) (terms : Terms) (lines : List (List ℕ)) (tally : Option Tally) {before after : List ℕ}
    → Tallied fields terms lines tally before after
    → tally_judged tally count sum ≡ judged_of (first_no (record_questions fields count sum terms lines)) (map order_of lines)
unfolding tally_questions judged_of record_questions
tally_judges fields count sum terms lines None tallied =
    let asking = record_questions fields count sum terms lines in
    let told = asked_through (λ (v : Verdict). judged_of v (map order_of lines)) asking Refused Passed in
    sym (asked_no 901 _ NotAccepted _ (sym tallied.shape)) ∙ sym told
tally_judges fields count sum terms lines (Some tally) tallied =
    let asking = record_questions fields count sum terms lines in
    let told = asked_through (λ (v : Verdict). judged_of v (map order_of lines)) asking Refused Passed
    ∙ ap (λ (n : ℕ). asked asking NotAccepted (Accepted n (faulty_count (map order_of lines)))) (length-map lines order_of) in
    let totals = tallied.totals in
    rw (totals.prices, totals.counted, totals.summed, totals.charges, totals.faults) (sym (asked_yes 901 _ NotAccepted _ (sym tallied.shape)) ∙ sym told)

-- the records behind the header, as the code walks them
module _ (file t : List ℕ) (fields : ℕ) (terms : Terms) {end from : ℕ} {tally : Option Tally} {before after : List ℕ} (same : t ≡ body file) (ends : end ≡ line_end 0 t)
    (begun : from ≡ cond (ltb end (length t)) (end + 2) (length t + 1)) (walked : Tallied fields terms (lines_from from t) tally before after) where
  tallied : Tallied fields terms (records file) tally before after
  tallied =
      let all : lines_from from t ≡ records file = rw (records_after file, next_of t (body file) 0 end same ends from begun, same) in
      rw all at walked

  pub records_judged : (count sum : ℕ)
      → tally_judged tally count sum ≡ judged_of (first_no (record_questions fields count sum terms (records file))) (orders file)
  unfolding orders
  records_judged count sum = tally_judges fields count sum terms (records file) tally tallied

  pub records_kept : after ≡ kept_from before 0 (orders_read fields file)
  unfolding orders_read
  records_kept = tallied.kept

-- what the second step comes to
module _ (r count sum : ℕ) (terms : Terms) (file : List ℕ) where
  pub records_beyond : 32 < r → record { judged = NotAccepted 901; kept = none_kept } ≡ records_of r count sum terms file
  unfolding records_of judged_records kept_where
  records_beyond h = rw (lt-leb r 32 h)

  pub records_within : {judged : Judged} {kept : List ℕ} → r ≤ 32
      → judged ≡ judged_of (first_no (record_questions r count sum terms (records file))) (orders file)
      → kept ≡ kept_where judged (kept_from none_kept 0 (orders_read r file)) → record { judged = judged; kept = kept } ≡ records_of r count sum terms file
  unfolding records_of judged_records
  records_within h is_judged is_kept =
      rw (le-leb r 32 h)
      (λ t. record { judged = is_judged t; kept = (is_kept ∙ ap (λ j. kept_where j (kept_from none_kept 0 (orders_read r file))) is_judged) t })

-- the table of a refused file is cleared, and that of an accepted one is left
pub cleared : (judged : Result AcceptedOrders Refusal) (kept : List ℕ) → is_err judged ≡ true → none_kept ≡ kept_where (judged_as judged) kept
unfolding kept_where
cleared (Ok accepted) kept h = cc
cleared (Err refusal) kept h = refl

pub cleared_whole : (judged : Result AcceptedOrders Refusal) (kept : List ℕ) {table : List ℕ} → is_err judged ≡ true → length kept ≡ 2_048 → table ≡ replicate (length kept) 0
    → table ≡ kept_where (judged_as judged) kept
cleared_whole judged kept h long zeros = zeros ∙ ap (λ n. replicate n 0) long ∙ cleared judged kept h

pub left : (judged : Result AcceptedOrders Refusal) (kept : List ℕ) → is_err judged ≡ false → kept ≡ kept_where (judged_as judged) kept
unfolding kept_where
left (Ok accepted) kept h = refl
left (Err refusal) kept h = cc
