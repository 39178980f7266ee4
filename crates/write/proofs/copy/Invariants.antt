-- `write::copy`: the first i bytes are there.
use mathlib.Core.Path.{◌≡◌}
use lib.ListN.{take}
use Rattle.write.proofs.copy.Given as goal

abbrev pub invariant-loop-i : goal.invariant-loop-i
invariant-loop-i l = take l.i l.place ≡ take l.i l.text
