-- `report::ope::put_records` puts the records row by row.
use Rattle.report.proofs.OrderPut.{order_room, recording_on}
use Rattle.report.proofs.ope.put_records.Goals as goal

pub put_order-running-requires-clause-room : goal.put_order-running-requires-clause-room
put_order-running-requires-clause-room c =
    order_room c.in-Some.row (rw c.in-Some.ensures.steps at c.loop-row.invariant.0) c.state.ensures

pub loop-row-preserved : goal.loop-row-preserved
loop-row-preserved c =
    let turn = c.loop-row.invariant in (
      recording_on c.in-Some.row (rw c.in-Some.ensures.steps at turn.0) c.state.ensures c.put_order-running.ensures.next
          c.put_order-running.ensures.output_after,
      turn.1,
    )
