-- `sound::charges::products_in` takes row after row.
use Rattle.std.proofs.Common.{length, ◌≤◌}
use Rattle.model.specs.Shipment.{most_rows}
use Rattle.sound.proofs.Tallying.{Multiplying}
use Rattle.sound.proofs.charges.products_in.Given as goal

abbrev pub invariant-loop-row : goal.invariant-loop-row
invariant-loop-row l = Multiplying l.terms l.fn.rows l.row-iterator l.products × (length l.fn.rows ≤ most_rows)
