-- What is done at a place is done to the shipment there: it is left as it was, its head alone changes, or its rows do.
-- Assumes nothing.
use mathlib.Core.Path.{◌≡◌, refl, sym, ap}
use mathlib.Core.Bool.{true, false}
use mathlib.Core.List.{List}
use Prim.Native.Nat.{ℕ, ◌+◌, ◌≤◌, ◌<◌}
use native.Mathlib.Omega.{arith}
use Rattle.model.specs.Shipment.{most_shipments, most_rows, Shipment}
use Rattle.model.specs.Calls.{Answer, Refused, changes_nothing, Outcome, leave, with_rows}
use Rattle.model.specs.declared.Row.{Row}
use Rattle.model.proofs.Asking.{not_both}
use Rattle.memory.specs.Layout.{head_bytes, OnlyHead, OnlyRows}
use Rattle.memory.specs.Heads.{flags_in_form, shipment_in}
use Rattle.memory.specs.Read.{rows_from, orders_at, shipment_at}
use Rattle.memory.proofs.Frames.{only_none, heads_kept, rows_kept, with_heads, with_rows_lem}
use Rattle.acts.specs.Inner.Place.{ActAt}
use Rattle.acts.proofs.RowLaws.{rows_alike}

module _ {m : List ℕ} {i k : ℕ} {does : Shipment → Outcome} where
  pub left_at : {answer : Answer} → does (shipment_at m i k) ≡ leave answer (shipment_at m i k) → ActAt m i k does answer m
  left_at left = record {
    answers = sym (ap (λ (outcome : Outcome). outcome.answer) left);
    leaves = sym (ap (λ (outcome : Outcome). outcome.shipment) left);
    only = only_none;
    orders = refl;
    flags = λ h. h;
    unmoved = λ still. refl;
  }

  pub refused_at : {number : ℕ} → does (shipment_at m i k) ≡ leave (Refused number) (shipment_at m i k) → ActAt m i k does (Refused number) m
  refused_at = left_at

  module _ {m' : List ℕ} {answer : Answer} (taken : changes_nothing answer ≡ false) where
    pub head_changed : {t : Shipment} → k + orders_at m i ≤ most_rows → OnlyHead i m m' → shipment_in (head_bytes m' i) (rows_from m k (orders_at m i)) ≡ t
        → does (shipment_at m i k) ≡ leave answer t → orders_at m' i ≡ orders_at m i
        → (flags_in_form (head_bytes m i) ≡ true → flags_in_form (head_bytes m' i) ≡ true) → ActAt m i k does answer m'
    head_changed room only new done orders flags = record {
      answers = sym (ap (λ (outcome : Outcome). outcome.answer) done);
      leaves = rw (orders, rows_alike m m' k (orders_at m i) (λ r from below. rows_kept only r (omega arith)), done) new;
      only = with_rows_lem only;
      orders = orders;
      flags = flags;
      unmoved = λ still. absurd (not_both (changes_nothing answer) still taken);
    }

    pub rows_changed : {rows : List Row} → i < most_shipments → OnlyRows k (orders_at m i) m m' → rows_from m' k (orders_at m i) ≡ rows
        → does (shipment_at m i k) ≡ leave answer (with_rows rows (shipment_at m i k)) → ActAt m i k does answer m'
    unfolding shipment_in
    rows_changed few only new done =
        let head = heads_kept only i few in
        record {
          answers = sym (ap (λ (outcome : Outcome). outcome.answer) done);
          leaves = rw (head, new, done);
          only = with_heads only;
          orders = rw head;
          flags = λ h. rw head h;
          unmoved = λ still. absurd (not_both (changes_nothing answer) still taken);
        }
