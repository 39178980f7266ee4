-- `memory::wait::wait_table` tells one byte after the other.
use Rattle.memory.proofs.ReturnLaws.{RepliesBelow}
use Rattle.memory.proofs.wait.wait_table.Given as goal

abbrev pub invariant-loop-code : goal.invariant-loop-code
invariant-loop-code l = RepliesBelow l.route l.money l.code l.taken-items
