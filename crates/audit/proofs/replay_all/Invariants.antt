-- `audit::replay_all`: the calls so far, and what is left of the journal, are the whole.
use Rattle.audit.proofs.CallByCall.{Going}
use Rattle.audit.proofs.replay_all.Given as goal

abbrev pub invariant-loop-answer : goal.invariant-loop-answer
invariant-loop-answer l = Going l.initial.memory l.journal l.fn.answers l.memory l.answer-items l.at l.answer-index l.n
