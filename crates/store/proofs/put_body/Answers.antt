-- `store::put_body`: the head, and the orders behind it.
use mathlib.Core.Path.{◌∙◌, ap}
use Rattle.memory.specs.Heads.{order_count_in}
use Rattle.write.proofs.Pieces.{writes_then}
use Rattle.store.proofs.put_body.Goals as goal

pub returns-clause-output_after : goal.returns-clause-output_after
returns-clause-output_after c =
    let is_count = c.orders-n.ensures.0 ∙ ap order_count_in c.head-head.ensures in
    writes_then (rw (c.bytes.ensures.0, c.head-head.ensures) at c.put_text.ensures) (rw is_count at c.put_orders.ensures)
