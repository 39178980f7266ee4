-- What an intake's answer says, as document 01's book answers.
use Rattle.std.specs.Prelude.{Result}
use Rattle.contents.specs.declared.judge.Accepted.{Accepted as AcceptedOrders}
use Rattle.model.specs.Calls.{Answer, Accepted}
use Rattle.acts.specs.Answers.{answer_of}
use Rattle.book.specs.Refusal.{number_of}
use Rattle.book.specs.declared.refusal.IntakeRefusal.{IntakeRefusal}

abbrev pub acceptance_of : Result AcceptedOrders IntakeRefusal → Answer
acceptance_of = answer_of (λ (accepted : AcceptedOrders). Accepted accepted.orders accepted.faulty) number_of
