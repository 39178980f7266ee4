-- `report::ope::faults_in` counts the faulty orders row by row.
use Rattle.std.proofs.Common.{length, ◌≤◌}
use Rattle.report.proofs.FaultWalk.{Finding}
use Rattle.report.proofs.ope.faults_in.Given as goal

abbrev pub invariant-loop-row : goal.invariant-loop-row
invariant-loop-row l = Finding l.codes.table.now l.fn.rows l.row-iterator l.found l.number × (length l.fn.rows ≤ 2_048)
