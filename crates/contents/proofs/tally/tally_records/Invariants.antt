-- `contents::tally::tally_records` tallies and keeps the lines passed; with those that are left they give the whole.
use Prim.Native.Nat.{◌+◌, ◌-◌}
use lib.ListN.{length}
use Rattle.epe.specs.Inner.Walk.{lines_from}
use Rattle.contents.proofs.TallyWalk.{Going}
use Rattle.contents.proofs.tally.tally_records.Given as goal

abbrev pub invariant-loop-at : goal.invariant-loop-at
invariant-loop-at l = Going l.fields l.terms (lines_from l.from l.s) (lines_from l.at l.s) l.tally l.initial.kept l.kept

abbrev pub decreases-loop-at : goal.decreases-loop-at
decreases-loop-at l = length l.s + 1 - l.at
