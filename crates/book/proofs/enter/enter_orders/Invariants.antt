-- `book::enter::enter_orders` enters order after order of the table.
use Rattle.book.specs.Inner.Entering.{kept_row}
use Rattle.acts.specs.Inner.Place.{RowsStored}
use Prim.Native.Nat.{◌-◌, ◌≤◌}
use Rattle.book.proofs.enter.enter_orders.Given as goal

abbrev pub invariant-loop-done : goal.invariant-loop-done
invariant-loop-done l = RowsStored (kept_row l.terms l.k l.kept) l.k l.done l.initial.memory l.memory × (l.done ≤ l.n)

abbrev pub decreases-loop-done : goal.decreases-loop-done
decreases-loop-done l = l.n - l.done
