-- `store::put_orders` puts order after order.
use Rattle.store.proofs.Storing.{OrdersPut}
use Rattle.store.proofs.put_orders.Given as goal

abbrev pub invariant-loop-row : goal.invariant-loop-row
invariant-loop-row l = OrdersPut l.memory l.initial.output l.k l.n l.output l.row
