-- An order's record put behind the others, if it has one.
-- Assumes nothing.
use mathlib.Core.Path.{◌≡◌, refl, sym, ap}
use mathlib.Core.Bool.{Bool}
use mathlib.Core.List.{List, [], ◌∷◌, ◌++◌, append-nil}
use Prim.Native.Nat.{ℕ, ◌+◌, ◌^◌, ◌≤◌, ◌<◌}
use native.Mathlib.Omega.{arith}
use lib.ListN.{length}
use Rattle.model.specs.declared.Row.{Row}
use Rattle.model.specs.declared.State.{State}
use Rattle.model.specs.declared.State.TheVariants.{Open, Posted, Paid, Faulty, Undelivered, Withdrawn}
use Rattle.write.specs.Files.{line}
use Rattle.write.specs.Writer.{HasRoom, Writes}
use Rattle.write.specs.declared.Writer.{Writer}
use Rattle.write.proofs.Pieces.{room_first, writes_none, Left, all_left, left_behind, none_left}
use Rattle.report.specs.Ope.{FaultyOrder, before_faulty, faulty_from, code_for, ope_records}
use Rattle.report.specs.Lines.{record_of}
use Rattle.report.specs.Inner.Pieces.{behind_header, record_text}
use Rattle.report.specs.Inner.Faults.{record_in, records_in}
use Rattle.report.proofs.Texts.{record_text_lem}

-- no record, by a state that is none of a faulty order
none_faulty : (number : ℕ) (state : State) → ((fault : ℕ) (k o : Bool) → state ≡ Faulty fault k o → ⊥) → before_faulty number state [] ≡ []
none_faulty number Open other = refl
none_faulty number Posted other = refl
none_faulty number Paid other = refl
none_faulty number (Faulty fault k o) other = absurd (other fault k o refl)
none_faulty number (Undelivered k) other = refl
none_faulty number (Withdrawn k o) other = refl

pub none_put : (codes : List ℕ) (running number : ℕ) {state : State} {w : Writer} → ((fault : ℕ) (k o : Bool) → state ≡ Faulty fault k o → ⊥)
    → HasRoom (record_in codes running number state) w
    → Writes (record_in codes running number state) w w × (running ≡ running + length (before_faulty number state []))
unfolding ope_records behind_header
none_put codes running number {state} other room =
    let none = none_faulty number state other in
    rw none (writes_none (rw none at room), omega arith)

-- a faulty order's record
pub one_record : (codes : List ℕ) (running number fault : ℕ) {k o : Bool} {state : State} → state ≡ Faulty fault k o
    → record_in codes running number state ≡ record_text running number (code_for codes fault)
unfolding ope_records
one_record codes running number fault is = rw is (record_text_lem running number (code_for codes fault))

-- an order's record before those of the orders behind it
order_before : (codes : List ℕ) (running number : ℕ) (more : List FaultyOrder) (state : State)
    → behind_header (ope_records codes running (before_faulty number state more))
    ≡ behind_header (ope_records codes running (before_faulty number state [])) ++ behind_header (ope_records codes (running + length (before_faulty number state [])) more)
unfolding ope_records behind_header
order_before codes running number more Open = let same : running + 0 ≡ running = omega arith in rw same
order_before codes running number more Posted = let same : running + 0 ≡ running = omega arith in rw same
order_before codes running number more Paid = let same : running + 0 ≡ running = omega arith in rw same
order_before codes running number more (Faulty fault k o) =
    let row = line (record_of running number (code_for codes fault)) in
    let rest = behind_header (ope_records codes (running + 1) more) in
    ap (λ (s : List ℕ). 0x0D ∷ 0x0A ∷ s) (ap (λ (s : List ℕ). s ++ rest) (sym (append-nil row)))
order_before codes running number more (Undelivered k) = let same : running + 0 ≡ running = omega arith in rw same
order_before codes running number more (Withdrawn k o) = let same : running + 0 ≡ running = omega arith in rw same

few_orders : (number : ℕ) (state : State) → length (before_faulty number state []) ≤ 1
few_orders number Open = omega arith
few_orders number Posted = omega arith
few_orders number Paid = omega arith
few_orders number (Faulty fault k o) = omega arith
few_orders number (Undelivered k) = omega arith
few_orders number (Withdrawn k o) = omega arith

-- Orders are left of some, the first of which has this number: their records are still to put.
pub record Recording (start : Writer) (codes : List ℕ) (rows left : List Row) (running number : ℕ) (now : Writer) : Type 0 where
  pub place : number + length left ≡ 1 + length rows
  pub few : running ≤ number
  pub to_put : Left (records_in codes rows) start (behind_header (ope_records codes running (faulty_from number left))) now

pub recording_begun : {start : Writer} {codes : List ℕ} {rows : List Row} → HasRoom (records_in codes rows) start → Recording start codes rows rows 1 1 start
recording_begun room = record { place = refl; few = omega arith; to_put = all_left room }

module _ {start : Writer} {codes : List ℕ} {rows : List Row} (row : Row) {left : List Row} {running number : ℕ} {now : Writer}
    (so_far : Recording start codes rows (row ∷ left) running number now) {state : State} (is_state : state ≡ row.state) where
  abbrev piece : List ℕ
  piece = record_in codes running number state

  abbrev behind : List ℕ
  behind = behind_header (ope_records codes (running + length (before_faulty number state [])) (faulty_from (number + 1) left))

  left_here : Left (records_in codes rows) start (piece ++ behind) now
  unfolding faulty_from
  left_here = rw (← order_before codes running number (faulty_from (number + 1) left) state, is_state) so_far.to_put

  pub order_room : HasRoom piece now
  order_room = room_first piece behind left_here.room

  pub order_few : length rows ≤ 2_048 → running < 2 ^ 32
  order_few most = omega (arith, so_far.place, so_far.few)

  pub recording_on : {next : ℕ} {now' : Writer} → next ≡ running + length (before_faulty number state []) → Writes piece now now'
      → Recording start codes rows left next (number + 1) now'
  recording_on is_next put =
      let one = few_orders number state in
      record { place = omega (arith, so_far.place); few = omega (arith, so_far.few); to_put = rw is_next (left_behind piece behind left_here put) }

pub recording_done : {start : Writer} {codes : List ℕ} {rows : List Row} {running number : ℕ} {now : Writer} → Recording start codes rows [] running number now
    → Writes (records_in codes rows) start now
unfolding faulty_from ope_records behind_header
recording_done all = none_left all.to_put

-- by which records are put row by row
pub ruleset recording = (recording_begun, order_room, order_few, recording_on, recording_done)
