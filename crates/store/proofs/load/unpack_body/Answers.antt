-- `store::load::unpack_body` puts the head of a body and then its orders.
use Rattle.store.proofs.Unpacking.{body_unpacked}
use Rattle.store.proofs.load.unpack_body.Goals as goal

pub returns : goal.returns
returns c =
    body_unpacked c.args.stored.now c.args.i c.args.k c.args.at c.store_head.ensures c.unpack_orders.ensures c.orders-n.ensures.0 c.of.ensures c.requires.2 c.requires.0
