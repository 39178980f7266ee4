-- `text::utf8::is_well_formed` meets its contract: what is left of the text is as well formed as all of it.
use mathlib.Core.Path.{◌≡◌}
use lib.ListN.{length}
use Rattle.text.specs.Utf8.{well_formed}
use Rattle.text.proofs.utf8.is_well_formed.Given as goal

abbrev pub invariant-loop-behind : goal.invariant-loop-behind
invariant-loop-behind l = well_formed l.left ≡ well_formed l.s

abbrev pub decreases-loop-behind : goal.decreases-loop-behind
decreases-loop-behind l = length l.left
