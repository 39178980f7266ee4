-- `store::load::unpack_orders` stores order after order.
use Prim.Native.Nat.{◌-◌, ◌≤◌}
use Rattle.acts.specs.Inner.Place.{RowsStored}
use Rattle.store.specs.Inner.Unpack.{given_row}
use Rattle.store.proofs.load.unpack_orders.Given as goal

abbrev pub invariant-loop-done : goal.invariant-loop-done
invariant-loop-done l = RowsStored (given_row l.stored l.at l.k) l.k l.done l.initial.memory l.memory × (l.done ≤ l.n)

abbrev pub decreases-loop-done : goal.decreases-loop-done
decreases-loop-done l = l.n - l.done
