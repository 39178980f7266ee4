-- `report::ope::put_records` puts the records row by row.
use Rattle.std.proofs.Common.{length, ◌≤◌}
use Rattle.report.proofs.OrderPut.{Recording}
use Rattle.report.proofs.ope.put_records.Given as goal

abbrev pub invariant-loop-row : goal.invariant-loop-row
invariant-loop-row l = Recording l.initial.output l.codes.table.now l.fn.rows l.row-iterator l.running l.number l.output × (length l.fn.rows ≤ 2_048)
