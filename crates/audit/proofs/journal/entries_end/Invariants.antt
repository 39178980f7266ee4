-- `audit::journal::entries_end` takes entry after entry: what is left to take gives the answer.
use mathlib.Core.Path.{◌≡◌}
use Prim.Native.Nat.{◌-◌, ◌≤◌}
use lib.ListN.{length, drop}
use Rattle.audit.specs.Journal.{entries_fit}
use Rattle.audit.proofs.journal.entries_end.Given as goal

abbrev pub invariant-loop-i : goal.invariant-loop-i
invariant-loop-i l = (l.at ≤ length l.bytes) × (entries_fit (l.n - l.i) (drop l.at l.bytes) ≡ entries_fit l.n l.bytes)
