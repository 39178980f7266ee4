-- What one look at a record line tells, and the tally that a walk over the records keeps.
use Rattle.std.specs.Prelude.{◌≡◌, cond, ◌&&◌, List, [], ◌∷◌, map, ℕ, ◌+◌, ◌*◌, ◌^◌, ◌≤◌, eqb, leb, ltb, length, Option, Some, None, is_some, IfSome, Result, Ok, Err}
use Rattle.money.specs.Money.{is_order_fee, WithinOrder}
use Rattle.fee.specs.Fee.{fee_of}
use Rattle.fee.specs.declared.Terms.{Terms}
use Rattle.epe.specs.Questions.{Question, ◌else_no◌, asked}
use Rattle.contents.specs.Contents.{shaped, all_shaped, all_priced, all_charged, total, order_of, faulty_count, lines_read, Judged, Accepted, NotAccepted}
use Rattle.contents.specs.Kept.{kept_from}
use Rattle.contents.specs.declared.tally.Tally.{Tally}
use Rattle.contents.specs.declared.record.Order.{Order}
use Rattle.contents.specs.declared.record.Misshaped.{Misshaped}

-- The order of a line that is to be record n, also where it has not that shape.
-- No profile asks for more than 32 fields; for more the answer is that the line is not in shape.
unfoldable pub record_read : ℕ → ℕ → List ℕ → Result Order Misshaped
record_read r n line = cond (leb r 32 && shaped r n line) (Ok (order_of line)) (Err (record { order = order_of line }))

-- The order that was read, in shape or not.
abbrev pub order_said : Result Order Misshaped → Order
order_said (Ok order) = order
order_said (Err misshaped) = misshaped.order

-- One order more, on the terms of its fee.
unfoldable pub added : Terms → Tally → Order → Tally
added terms tally order = record {
  priced = tally.priced && ltb 0 order.amount.0;
  charged = tally.charged && is_order_fee (fee_of terms order.amount.0);
  count = tally.count + 1;
  sum = tally.sum + order.amount.0;
  faulty = tally.faulty + cond (eqb order.fault 0) 0 1;
}

-- What some record lines come to.
pub record Totals (terms : Terms) (lines : List (List ℕ)) (tally : Tally) : Type 0 where
  pub prices : tally.priced ≡ all_priced lines
  pub charges : tally.charged ≡ all_charged terms lines
  pub counted : tally.count ≡ length lines
  pub summed : tally.sum ≡ total lines
  pub faults : tally.faulty ≡ faulty_count (map order_of lines)

-- The tally of some record lines, if all are shaped; and that a table keeps the orders of those read.
pub record Tallied (fields : ℕ) (terms : Terms) (lines : List (List ℕ)) (tally : Option Tally) (before after : List ℕ) : Type 0 where
  pub shape : is_some tally ≡ all_shaped fields 1 lines
  pub totals : IfSome tally (Totals terms lines)
  pub kept : after ≡ kept_from before 0 (map order_of (lines_read fields 1 lines))

-- What is added stays within 64 bits.
pub record SmallTally (tally : Tally) (order : Order) : Type 0 where
  pub few : tally.count ≤ 999_999
  pub little : tally.sum ≤ tally.count * 2 ^ 30
  pub fewer : tally.faulty ≤ tally.count
  pub bounded : WithinOrder order.amount.0

-- What a tally comes to beside what the header states: the questions 902, 129, 132, 906 behind 901.
unfoldable pub tally_questions : Tally → ℕ → ℕ → List Question
tally_questions tally count sum =
    (tally.priced else_no 902)
    ∷ (eqb tally.count count else_no 129)
    ∷ (eqb tally.sum sum else_no 132)
    ∷ (tally.charged else_no 906)
    ∷ []

abbrev pub tally_judged : Option Tally → ℕ → ℕ → Judged
tally_judged None count sum = NotAccepted 901
tally_judged (Some tally) count sum = asked (tally_questions tally count sum) NotAccepted (Accepted tally.count tally.faulty)
