-- What each answer of the code says, as document 01's book answers.
use Rattle.std.specs.Prelude.{ℕ, Result, Ok, Err}
use Rattle.money.specs.declared.Amount.{Amount}
use Rattle.money.specs.declared.Fee.{Fee}
use Rattle.money.specs.declared.Money.{Money}
use Rattle.money.specs.declared.Money.TheVariants.{K, O}
use Rattle.money.specs.declared.Sum.{Sum}
use Rattle.money.specs.declared.Sum.TheVariants.{Amounts, Fees}
use Rattle.model.specs.Calls.{Answer, Refused, Done, IsPaired, Short, FeeEarned, AmountPaid, Returned as IsReturned}
use Rattle.acts.specs.Refusal.{number_of}
use Rattle.acts.specs.declared.answer.Pairing.{Pairing}
use Rattle.acts.specs.declared.answer.Pairing.TheVariants as pairing
use Rattle.acts.specs.declared.answer.Returned.{Returned}
use Rattle.acts.specs.declared.refusal.Refusal.{Refusal}

-- What an accepted call answers, or the number of the question answered no.
abbrev pub answer_of : {T R : Type 0} → (T → Answer) → (R → ℕ) → Result T R → Answer
answer_of accepted number (Ok answer) = accepted answer
answer_of accepted number (Err refusal) = Refused (number refusal)

abbrev pub completion_of : Result Unit Refusal → Answer
completion_of = answer_of (λ done. Done) number_of

abbrev pub pairing_of : Pairing → Answer
pairing_of pairing.Paired = IsPaired
pairing_of (pairing.Short amount fee) = Short amount.0 fee.0
pairing_of (pairing.Refused number) = Refused number

abbrev pub posting_of : Result Fee Refusal → Answer
posting_of = answer_of (λ (fee : Fee). FeeEarned fee.0) number_of

abbrev pub payment_of : Result Amount Refusal → Answer
payment_of = answer_of (λ (amount : Amount). AmountPaid amount.0) number_of

-- A return of one money in the form of the other would be no answer to a return.
abbrev pub sum_returned : Money → Sum → ℕ → Answer
sum_returned K (Amounts amount) count = IsReturned amount.0 count
sum_returned K (Fees fee) count = Done
sum_returned O (Amounts amount) count = Done
sum_returned O (Fees fee) count = IsReturned fee.0 count

abbrev pub returning_of : Money → Result Returned Refusal → Answer
returning_of money = answer_of (λ (returned : Returned). sum_returned money returned.sum returned.count) number_of
