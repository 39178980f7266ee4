-- `sound::tally::classes_in` joins class after class.
use Rattle.std.proofs.Common.{◌≡◌}
use Rattle.sound.specs.Inner.Tally.{joined}
use Rattle.sound.proofs.tally.classes_in.Given as goal

abbrev pub invariant-loop-row : goal.invariant-loop-row
invariant-loop-row l = joined l.classes l.row-iterator ≡ joined 0 l.fn.rows
