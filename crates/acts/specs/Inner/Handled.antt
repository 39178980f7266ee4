-- What is done with an order, before the deed's own answer is made of it: its fee and its amount.
use Rattle.std.specs.Prelude.{Result}
use Rattle.model.specs.Calls.{Answer, Done, FeeEarned, AmountPaid}
use Rattle.model.specs.declared.Deed.{Deed}
use Rattle.model.specs.declared.Deed.TheVariants.{Post, Pay, MarkUndelivered, Withdraw}
use Rattle.acts.specs.Refusal.{number_of}
use Rattle.acts.specs.Answers.{answer_of}
use Rattle.acts.specs.declared.order.Handled.{Handled}
use Rattle.acts.specs.declared.refusal.Refusal.{Refusal}

abbrev pub handled_as : Deed → Handled → Answer
handled_as Post handled = FeeEarned handled.fee.0
handled_as Pay handled = AmountPaid handled.amount.0
handled_as MarkUndelivered handled = Done
handled_as Withdraw handled = Done

abbrev pub handling_of : Deed → Result Handled Refusal → Answer
handling_of deed = answer_of (handled_as deed) number_of
