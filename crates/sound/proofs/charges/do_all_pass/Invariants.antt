-- `sound::charges::do_all_pass` asks row after row.
use Rattle.std.proofs.Common.{Bool}
use Rattle.model.specs.declared.Row.{Row}
use Rattle.sound.specs.Inner.Charges.{Tells}
use Rattle.sound.proofs.Tallying.{Asking}
use Rattle.sound.proofs.charges.do_all_pass.Given as goal

abbrev pub invariant-loop-row : goal.invariant-loop-row
invariant-loop-row g l = (asked : Row → Bool) → Tells (goal.F-post g l.test) asked → Asking asked l.fn.rows l.row-iterator l.fit
