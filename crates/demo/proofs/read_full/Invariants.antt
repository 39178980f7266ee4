-- What was read is within the buffer, and each turn reads a byte or more.
use Rattle.std.proofs.Common.{◌-◌, ◌≡◌, ◌≤◌, length}
use Rattle.demo.proofs.read_full.Given as goal

abbrev pub invariant-loop-length : goal.invariant-loop-length
invariant-loop-length l = (l.length ≤ length l.buffer) × (length l.buffer ≡ length l.initial.buffer)

abbrev pub decreases-loop-length : goal.decreases-loop-length
decreases-loop-length l = length l.buffer - l.length
