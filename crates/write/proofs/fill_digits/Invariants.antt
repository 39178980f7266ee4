-- `write::fill_digits`: the digits that are left, before those that are there, are all of them.
use mathlib.Core.Path.{◌≡◌}
use mathlib.Core.List.{◌++◌}
use lib.ListN.{length, drop}
use Rattle.write.specs.Spelled.{digits}
use Rattle.write.proofs.fill_digits.Given as goal

abbrev pub invariant-loop-i : goal.invariant-loop-i
invariant-loop-i l = digits l.i l.rest ++ drop l.i l.places ≡ digits (length l.places) l.n
