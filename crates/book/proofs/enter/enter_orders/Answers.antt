-- `book::enter::enter_orders` enters order after order of the table.
use Rattle.acts.proofs.RowsInTurn.{none_stored}
use Rattle.book.proofs.Entering.{kept_enterable}
use native.Mathlib.Omega.{arith}
use Rattle.book.proofs.enter.enter_orders.Goals as goal

pub loop-done-init : goal.loop-done-init
loop-done-init c = (none_stored, omega arith)

pub enter_order-requires : goal.enter_order-requires
enter_order-requires c =
    let loop = c.loop-done in
    (omega (arith, c.loop-done-test.true, c.requires.0), rw loop.invariant.0.only.as_long c.requires.1, kept_enterable c.args.terms c.args.kept.now c.args.n loop.done c.requires.2 c.requires.3 c.requires.4 c.loop-done-test.true c.order_in.ensures)
