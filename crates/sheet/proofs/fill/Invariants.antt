-- `sheet::fill`: the rows of the shipments that are left are still to put.
use Rattle.sheet.proofs.Filled.{Filling}
use Rattle.sheet.proofs.fill.Given as goal

abbrev pub invariant-loop-i : goal.invariant-loop-i
invariant-loop-i l = Filling l.book l.initial.table l.i-iterator.iter l.i-iterator.count l.table
