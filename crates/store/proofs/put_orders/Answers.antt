-- `store::put_orders` puts order after order.
use Rattle.store.proofs.Storing.{order_room, orders_on}
use Rattle.store.proofs.put_orders.Goals as goal

pub put_text-requires : goal.put_text-requires
put_text-requires c = order_room c.loop-row.invariant c.loop-row-test.true c.row_bytes.ensures

pub loop-row-preserved : goal.loop-row-preserved
loop-row-preserved c = orders_on c.loop-row.invariant c.loop-row-test.true c.row_bytes.ensures c.put_text.ensures
