-- A field stored in head i: its shipment has that field anew, and nothing else moves.
-- Assumes nothing.
use mathlib.Core.Path.{◌≡◌, ap, ◌∙◌}
use mathlib.Core.Bool.{true}
use mathlib.Core.List.{List}
use Prim.Native.Nat.{ℕ, ◌+◌, ◌^◌, ◌≤◌, ◌<◌}
use native.Mathlib.Omega.{arith}
use lib.ListN.{length}
use Rattle.money.specs.declared.Money.{Money}
use Rattle.money.specs.declared.Money.TheVariants.{K, O}
use Rattle.model.specs.Shipment.{most_shipments, Shipment, accepted, returned}
use Rattle.model.specs.Calls.{with_stage, with_go_ahead, with_accepted, with_returned}
use Rattle.model.specs.declared.Row.{Row}
use Rattle.model.specs.declared.Stage.{Stage}
use Rattle.memory.specs.Layout.{head_size, head_at, size, head_bytes, IsHead, OnlyHead}
use Rattle.memory.specs.Heads.{stage_at, go_ahead_at, flags_in_form, order_count_in, accepted_at, returned_at, shipment_in}
use Rattle.memory.specs.Inner.Stored.{stage_byte, with_stage_at, with_go_ahead_at, with_transfers_at, with_surplus_at}
use Rattle.memory.proofs.Parts.{part_long, head_byte, head_byte_only, head_number, head_number_only}
use Rattle.memory.proofs.HeadLaws.{FormKept, number_keeps_form, stage_keeps_form, go_ahead_keeps_form, field_stored}

-- Head i is as its shipment is changed, with as many orders and its flags in form where they were, and nothing else moves.
pub record HeadChanged (change : Shipment → Shipment) (rows : List Row) (i : ℕ) (m m' : List ℕ) : Type 0 where
  pub shipment : shipment_in (head_bytes m' i) rows ≡ change (shipment_in (head_bytes m i) rows)
  pub orders : order_count_in (head_bytes m' i) ≡ order_count_in (head_bytes m i)
  pub flags : flags_in_form (head_bytes m i) ≡ true → flags_in_form (head_bytes m' i) ≡ true
  pub only : OnlyHead i m m'

accepted_within : (money : Money) → (32 ≤ accepted_at money) × (accepted_at money + 8 ≤ head_size)
accepted_within K = (omega arith, omega arith)
accepted_within O = (omega arith, omega arith)

returned_within : (money : Money) → (32 ≤ returned_at money) × (returned_at money + 8 ≤ head_size)
returned_within K = (omega arith, omega arith)
returned_within O = (omega arith, omega arith)

module _ (m : List ℕ) (i : ℕ) (enough : size ≤ length m) (few : i < most_shipments) (rows : List Row) where
  abbrev head : List ℕ
  head = head_bytes m i

  whole : IsHead head
  unfolding head_bytes
  whole = part_long m (head_at i) head_size (omega arith)

  changed : (change : Shipment → Shipment) {m' head' : List ℕ} → OnlyHead i m m' → head_bytes m' i ≡ head' → FormKept head head'
      → shipment_in head' rows ≡ change (shipment_in head rows) → HeadChanged change rows i m m'
  changed change only new form shipment = record {
    shipment = ap (λ bytes. shipment_in bytes rows) new ∙ shipment;
    orders = ap order_count_in new ∙ form.orders;
    flags = λ flags. rw new (form.flags flags);
    only = only;
  }

  pub stage_anew : (stage : Stage) → HeadChanged (with_stage stage) rows i m (with_stage_at m i stage)
  stage_anew stage =
      changed (with_stage stage) (head_byte_only m i stage_at (stage_byte stage) (omega arith) few) (head_byte m i stage_at (stage_byte stage) (omega arith))
      (stage_keeps_form head stage whole) ((field_stored head rows whole).stage stage)

  pub go_ahead_anew : HeadChanged with_go_ahead rows i m (with_go_ahead_at m i)
  go_ahead_anew =
      changed with_go_ahead (head_byte_only m i go_ahead_at 1 (omega arith) few) (head_byte m i go_ahead_at 1 (omega arith)) (go_ahead_keeps_form head whole)
      (field_stored head rows whole).go_ahead_holds

  pub transfers_anew : (money : Money) (n : ℕ) → accepted money (shipment_in head rows) + n < 2 ^ 64
      → HeadChanged (with_accepted money n) rows i m (with_transfers_at m i money (accepted money (shipment_in head rows) + n))
  transfers_anew money n fits =
      let at = accepted_at money in
      let total = accepted money (shipment_in head rows) + n in
      let within = accepted_within money in
      changed (with_accepted money n) (head_number_only 8 m i at total within.1 few) (head_number 8 m i at total within.1)
      (number_keeps_form head at total within.0) ((field_stored head rows whole).accepted money n fits)

  pub surplus_anew : (money : Money) (n : ℕ) → returned money (shipment_in head rows) + n < 2 ^ 64
      → HeadChanged (with_returned money n) rows i m (with_surplus_at m i money (returned money (shipment_in head rows) + n))
  surplus_anew money n fits =
      let at = returned_at money in
      let total = returned money (shipment_in head rows) + n in
      let within = returned_within money in
      changed (with_returned money n) (head_number_only 8 m i at total within.1 few) (head_number 8 m i at total within.1)
      (number_keeps_form head at total within.0) ((field_stored head rows whole).returned money n fits)
