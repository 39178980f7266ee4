-- `book::enter::enter` stores the rows, the head and the number.
use Rattle.book.proofs.Entering.{shipment_entered}
use Rattle.book.proofs.enter.enter.Goals as goal

pub returns : goal.returns
returns c =
    rw c.store_shipments.ensures
    (shipment_entered _ _ _ _ _ _ _ _ _ c.requires c.enter_orders.ensures c.enter_head.ensures)
