-- `audit::journal::Head::text_start` passes text after text: what it passed ends where the next one starts.
use mathlib.Core.Path.{◌≡◌}
use Prim.Native.Nat.{◌≤◌}
use lib.ListN.{length}
use Rattle.audit.specs.Journal.{text_start}
use Rattle.audit.proofs.journal.Head.text_start.Given as goal

abbrev pub invariant-loop-k : goal.invariant-loop-k
invariant-loop-k l = (l.at ≡ text_start l.self.bytes.now l.k) × (l.at ≤ length l.self.bytes.now)
