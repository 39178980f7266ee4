-- `memory::rows::Rows::row` is one of the rows, so that there is room for it.
use Rattle.std.proofs.Common.{arith}
use Rattle.memory.proofs.Columns.{row_room}
use Rattle.memory.proofs.rows.Rows.row.Goals as goal
use Rattle.memory.proofs.rows.Rows.row.Goals.{Start}

pub overflow_add-result : goal.overflow_add-result
overflow_add-result c = let room = row_room _ _ _ _ c.self.invariant.1 (rw (← c.self.view_is) at c.requires) in record { fits = omega (arith, room) }

pub invariant_of-result : goal.invariant_of-result
invariant_of-result c = (c.self.invariant.0, row_room _ _ _ _ c.self.invariant.1 (rw (← c.self.view_is) at c.requires))
