-- An answer in three numbers, as the exports and a replay tell it.
use Rattle.std.specs.Prelude.{◌≡◌, List, ℕ, Result, Ok, Err}
use Rattle.model.specs.Calls.{Call, Answer, Refused, Done, Accepted, IsPaired, Short, FeeEarned, AmountPaid, Returned}
use Rattle.book.specs.Does.{Does}
use Rattle.book.specs.declared.reply.Reply.{Reply}

-- 0 done, 1 short, 2 refused; then what the answer says: the number of a refusal; orders and faulty ones; what is missing of K and of O; a fee earned;
-- an amount paid; a sum returned and the number of its orders.
abbrev pub done_with : ℕ → ℕ → Reply
done_with first second = record { status = 0; first = first; second = second }

abbrev pub short_by : ℕ → ℕ → Reply
short_by amount fee = record { status = 1; first = amount; second = fee }

abbrev pub refused_with : ℕ → Reply
refused_with number = record { status = 2; first = number; second = 0 }

abbrev pub reply_of : Answer → Reply
reply_of (Refused number) = refused_with number
reply_of Done = done_with 0 0
reply_of (Accepted orders faulty) = done_with orders faulty
reply_of IsPaired = done_with 0 0
reply_of (Short amount fee) = short_by amount fee
reply_of (FeeEarned fee) = done_with fee 0
reply_of (AmountPaid amount) = done_with amount 0
reply_of (Returned total count) = done_with total count

-- What a call is told by: where it is not refused what it answers, else one of the numbers of its refusal.
abbrev pub Tells : {T R : Type 0} → (T → Reply) → (R → ℕ → Type 0) → Result T R → Reply → Type 0
Tells accepted numbered (Ok answer) reply = reply ≡ accepted answer
Tells accepted numbered (Err refusal) reply = (number : ℕ) × numbered refusal number × (reply ≡ refused_with number)

-- A call was made in the memory, and what it answered is told.
pub record Plays (before : List ℕ) (call : Call) (reply : Reply) (after : List ℕ) : Type 0 where
  pub answer : Answer
  pub does : Does before call answer after
  pub is_reply : reply ≡ reply_of answer
