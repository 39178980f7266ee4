-- `acts::route::clear` clears row after row, and counts each wait once.
use Prim.Native.Nat.{◌-◌, ◌*◌, ◌^◌, ◌≤◌}
use Rattle.model.specs.declared.Route.{Route}
use Rattle.memory.specs.Inner.Returns.{WaitTable}
use Rattle.acts.proofs.Returns.{Clearing}
use Rattle.acts.proofs.route.clear.Given as goal

abbrev pub invariant-loop-done : goal.invariant-loop-done
invariant-loop-done l =
    ((route : Route) → WaitTable route l.money l.table → Clearing route l.money l.place.row l.done l.initial.memory l.memory l.taken)
    × (l.done ≤ l.n) × (l.taken.worth ≤ l.done * 2 ^ 34) × (l.taken.count ≤ l.done * 2)

abbrev pub decreases-loop-done : goal.decreases-loop-done
decreases-loop-done l = l.n - l.done
