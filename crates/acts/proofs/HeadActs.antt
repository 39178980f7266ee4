-- What storing one field in the head of the shipment at a place does to that shipment.
-- Assumes nothing.
use mathlib.Core.Path.{◌≡◌}
use mathlib.Core.Bool.{false}
use mathlib.Core.List.{List}
use Prim.Native.Nat.{ℕ, ◌+◌, ◌^◌, ◌<◌}
use Rattle.money.specs.declared.Money.{Money}
use Rattle.model.specs.Shipment.{Shipment, accepted, returned}
use Rattle.model.specs.Calls.{Answer, changes_nothing, Outcome, leave, with_stage, with_go_ahead, with_accepted, with_returned}
use Rattle.model.specs.declared.Row.{Row}
use Rattle.model.specs.declared.Stage.{Stage}
use Rattle.memory.specs.Read.{rows_from, orders_at, shipment_at, Sits}
use Rattle.memory.specs.Inner.Stored.{with_stage_at, with_go_ahead_at, with_transfers_at, with_surplus_at}
use Rattle.memory.proofs.HeadStores.{HeadChanged, stage_anew, go_ahead_anew, transfers_anew, surplus_anew}
use Rattle.acts.specs.Inner.Place.{ActAt}
use Rattle.acts.proofs.ShipmentChanged.{head_changed}

module _ {m : List ℕ} {i k : ℕ} (sits : Sits m i k) where
  abbrev s : Shipment
  s = shipment_at m i k

  abbrev rows : List Row
  rows = rows_from m k (orders_at m i)

  module _ {does : Shipment → Outcome} {answer : Answer} (taken : changes_nothing answer ≡ false) where
    changed : {change : Shipment → Shipment} {m' : List ℕ} → HeadChanged change rows i m m' → does s ≡ leave answer (change s) → ActAt m i k does answer m'
    changed anew done = head_changed taken sits.room anew.only anew.shipment done anew.orders anew.flags

    pub stage_changed : (stage : Stage) → does s ≡ leave answer (with_stage stage s) → ActAt m i k does answer (with_stage_at m i stage)
    stage_changed stage = changed (stage_anew m i sits.enough sits.few rows stage)

    pub go_ahead_changed : does s ≡ leave answer (with_go_ahead s) → ActAt m i k does answer (with_go_ahead_at m i)
    go_ahead_changed = changed (go_ahead_anew m i sits.enough sits.few rows)

    pub accepted_changed : (money : Money) (n : ℕ) → accepted money s + n < 2 ^ 64 → does s ≡ leave answer (with_accepted money n s)
        → ActAt m i k does answer (with_transfers_at m i money (accepted money s + n))
    accepted_changed money n fits = changed (transfers_anew m i sits.enough sits.few rows money n fits)

    pub returned_changed : (money : Money) (n : ℕ) → returned money s + n < 2 ^ 64 → does s ≡ leave answer (with_returned money n s)
        → ActAt m i k does answer (with_surplus_at m i money (returned money s + n))
    returned_changed money n fits = changed (surplus_anew m i sits.enough sits.few rows money n fits)
