-- `acts::order::handle_at` asks document 01's questions in turn.
use Rattle.std.proofs.Common.{rules}
use Rattle.acts.proofs.Orders.{no_order_at, row_there, unfit_at, handled_at}
use Rattle.acts.proofs.order.handle_at.Goals as goal

pub returns-then-not-contains : goal.returns-then-not-contains
returns-then-not-contains c =
    no_order_at _ _ _ c.args.deed c.args.number _ c.at-shipment.ensures c.is_paired.ensures c.if-not-is_paired.false _ c.rows.ensures c.len.ensures.0 (search rules)
    c.if-not-contains.true

pub returns-then-not-does_fit : goal.returns-then-not-does_fit
returns-then-not-does_fit c =
    unfit_at _ _ _ c.args.deed c.args.number _ c.at-shipment.ensures c.is_paired.ensures c.if-not-is_paired.false _ c.rows.ensures c.len.ensures.0 (search rules)
    c.if-not-contains.false _ c.rows-2.ensures c.row-order.ensures c.state.ensures c.does_fit.ensures c.if-not-does_fit.true

pub store_state-requires : goal.store_state-requires
store_state-requires c = (
  row_there _ _ _ c.args.deed c.args.number _ c.at-shipment.ensures c.is_paired.ensures c.if-not-is_paired.false _ c.rows.ensures c.len.ensures.0 (search rules)
      c.if-not-contains.false c.requires,
  c.requires.enough,
)

pub returns : goal.returns
returns c =
    rw (c.store_state.ensures, c.state_after.ensures)
    (handled_at _ _ _ c.args.deed c.args.number _ c.at-shipment.ensures c.is_paired.ensures c.if-not-is_paired.false _ c.rows.ensures c.len.ensures.0 (search rules)
    c.if-not-contains.false _ c.rows-2.ensures c.row-order.ensures c.state.ensures c.does_fit.ensures c.requires c.fee-fee.ensures.0 c.amount-amount.ensures.0
    c.if-not-does_fit.false)
