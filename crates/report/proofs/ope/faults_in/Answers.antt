-- `report::ope::faults_in` counts the faulty orders row by row.
use Rattle.report.proofs.FaultWalk.{finding_on}
use Rattle.report.proofs.ope.faults_in.Goals as goal

pub loop-row-preserved : goal.loop-row-preserved
loop-row-preserved c =
    let turn = c.loop-row.invariant in (
      finding_on c.in-Some.row (rw c.in-Some.ensures.steps at turn.0) c.state.ensures c.found_order.ensures c.in_ok-found.was turn.1,
      turn.1,
    )
