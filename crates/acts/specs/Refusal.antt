-- The number of each refusal of a call on the book, as document 01 has it beside its question.
use Rattle.std.specs.Prelude.{ℕ}
use Rattle.acts.specs.declared.refusal.Refusal.{Refusal}
use Rattle.acts.specs.declared.refusal.Refusal.TheVariants.{Unsound, Title, TransferAmount, Unknown, TotalAccepted, NotWaiting, NoFaults, SecondGoAhead, Faults, NotPaired, NoSuchOrder, State, UndeliveredFee, NothingToReturn, StillWaiting}

abbrev pub number_of : Refusal → ℕ
number_of Unsound = 10
number_of Title = 11
number_of TransferAmount = 12
number_of Unknown = 13
number_of TotalAccepted = 14
number_of NotWaiting = 15
number_of NoFaults = 16
number_of SecondGoAhead = 17
number_of Faults = 18
number_of NotPaired = 19
number_of NoSuchOrder = 20
number_of State = 21
number_of UndeliveredFee = 22
number_of NothingToReturn = 23
number_of StillWaiting = 24
