-- The number of each question that is asked before a replay.
use Rattle.std.specs.Prelude.{ℕ}
use Rattle.audit.specs.declared.refusal.NotReplayed.{NotReplayed}
use Rattle.audit.specs.declared.refusal.NotReplayed.TheVariants.{NotEncoded, TooFewAnswers, NotEmpty}

abbrev pub number_of : NotReplayed → ℕ
number_of NotEncoded = 1
number_of TooFewAnswers = 2
number_of NotEmpty = 3
