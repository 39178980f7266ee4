-- The orders of an accepted file are as its header states them.
-- Assumes nothing.
use mathlib.Core.Path.{◌≡◌, refl, ◌∙◌, ap}
use mathlib.Core.Bool.{true}
use mathlib.Core.List.{List, [], ◌∷◌, map}
use Prim.Native.Nat.{ℕ, ◌+◌}
use native.Mathlib.Omega.{arith}
use borrow.Author.Tests.{eqb-true, leb-true, ltb-true}
use lib.Dec.{ltb}
use lib.ListN.{length, length-map}
use Rattle.text.proofs.Branches.{and_left, and_right}
use Rattle.money.specs.Money.{order_cap, is_order_fee}
use Rattle.money.proofs.Reading.{order_text_bound}
use Rattle.fee.specs.Fee.{fee_of}
use Rattle.fee.specs.declared.Terms.{Terms}
use Rattle.epe.specs.Profile.{profile_questions}
use Rattle.epe.specs.File.{header, records, field}
use Rattle.epe.proofs.QuestionLaws.{all_yes}
use Rattle.contents.specs.Contents.{amount_in, all_priced, all_charged, total, record_questions, contents_questions, contents, order_of, orders, stated_count, stated_sum, stated_terms, date_questions, stated_questions}
use Rattle.contents.specs.Accepted.{sum_of_amounts, EachInRange, EachCharged, AcceptedAsStated}
use Rattle.contents.proofs.FaultLaws.{fault_known}

orders_add_up : (lines : List (List ℕ)) → sum_of_amounts (map order_of lines) ≡ total lines
unfolding sum_of_amounts total order_of
orders_add_up [] = refl
orders_add_up (line ∷ lines) = ap (λ (n : ℕ). amount_in line + n) (orders_add_up lines)

orders_in_range : (lines : List (List ℕ)) → all_priced lines ≡ true → EachInRange (map order_of lines)
unfolding all_priced order_of
orders_in_range [] h = tt
orders_in_range (line ∷ lines) h =
    let priced = ltb-true 0 (amount_in line) (and_left (ltb 0 (amount_in line)) (all_priced lines) h) in (
      record { from_one = priced; to_the_cap = order_text_bound (field 3 line); fault_known = fault_known line },
      orders_in_range lines (and_right (ltb 0 (amount_in line)) (all_priced lines) h),
    )

orders_charged : (terms : Terms) (lines : List (List ℕ)) → all_charged terms lines ≡ true → EachCharged terms (map order_of lines)
unfolding all_charged order_of
orders_charged terms [] h = tt
orders_charged terms (line ∷ lines) h =
    let charged = is_order_fee (fee_of terms (amount_in line)) in (
      leb-true (fee_of terms (amount_in line)) order_cap (and_left charged (all_charged terms lines) h),
      orders_charged terms lines (and_right charged (all_charged terms lines) h),
    )

pub accepted_as_stated : AcceptedAsStated
unfolding contents contents_questions profile_questions date_questions stated_questions record_questions orders
accepted_as_stated profile file h =
    let line = header file in
    let lines = records file in
    let yes = all_yes (contents_questions profile file) h in
    let dates_on = yes.1.1 in
    let stated_on = dates_on.1.1.1.1.1 in
    let records_on = stated_on.1.1.1.1 in
    let as_many = length-map lines order_of ∙ eqb-true (length lines) (stated_count line) records_on.1.1.0 in
    record {
      as_many = as_many;
      at_least_one = omega (arith, as_many, leb-true 1 (stated_count line) stated_on.1.0);
      in_range = orders_in_range lines records_on.1.0;
      add_up = orders_add_up lines ∙ eqb-true (total lines) (stated_sum line) records_on.1.1.1.0;
      charged = orders_charged (stated_terms profile line) lines records_on.1.1.1.1.0;
    }
