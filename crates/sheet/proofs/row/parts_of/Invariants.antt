-- `sheet::row::parts_of` adds order after order: what is added and what are left give the whole.
use Rattle.std.proofs.Common.{length, ◌≤◌}
use Rattle.model.specs.Shipment.{most_rows}
use Rattle.sheet.proofs.Adding.{Going}
use Rattle.sheet.proofs.row.parts_of.Given as goal

abbrev pub invariant-loop-row : goal.invariant-loop-row
invariant-loop-row l = Going l.fn.rows l.row-iterator l.parts × (length l.fn.rows ≤ most_rows)
