-- A call that was made and told, under another name for it.
-- Assumes nothing.
use mathlib.Core.Path.{◌≡◌, ap, ◌∙◌}
use mathlib.Core.List.{List}
use Prim.Native.Nat.{ℕ}
use Rattle.std.specs.Prelude.{Result, Ok, Err, IfOk}
use Rattle.money.specs.Money.{grosze_in, money_of_sum}
use Rattle.money.specs.declared.Money.{Money}
use Rattle.epe.specs.declared.ident.Ident.{Ident}
use Rattle.model.specs.Calls.{Call, Act, On, Answer}
use Rattle.acts.specs.Refusal.{number_of}
use Rattle.acts.specs.Answers.{returning_of}
use Rattle.acts.specs.declared.answer.Returned.{Returned}
use Rattle.acts.specs.declared.refusal.Refusal.{Refusal}
use Rattle.acts.proofs.SumsReturned.{returned_as}
use Rattle.book.specs.Does.{Does}
use Rattle.book.specs.Reply.{done_with, refused_with, reply_of, Tells, Plays}
use Rattle.book.specs.declared.reply.Reply.{Reply}

pub plays : {before after : List ℕ} {call same : Call} {answer : Answer} {reply : Reply} → call ≡ same → Does before call answer after
    → reply ≡ reply_of answer → Plays before same reply after
plays {answer = answer} is does is_reply = record { answer = answer; does = rw is at does; is_reply = is_reply }

pub plays_on : {before after : List ℕ} {ident same : Ident} {act : Act} {answer : Answer} {reply : Reply} → ident ≡ same
    → Does before (On ident act) answer after → reply ≡ reply_of answer → Plays before (On same act) reply after
plays_on is does is_reply = plays (rw is) does is_reply

pub plays_same : {before after : List ℕ} {call same : Call} {reply : Reply} → call ≡ same → Plays before call reply after → Plays before same reply after
plays_same is played = rw is at played

-- a return, whose sum is of the money that it is asked for
pub told_return : (money : Money) (result : Result Returned Refusal) {reply : Reply} → IfOk result (λ (returned : Returned). money_of_sum returned.sum ≡ money)
    → Tells (λ (returned : Returned). done_with (grosze_in returned.sum) returned.count) (λ refusal n. n ≡ number_of refusal) result reply
    → reply ≡ reply_of (returning_of money result)
told_return money (Ok returned) of_money told = rw (returned_as returned.sum returned.count of_money) told
told_return money (Err refusal) of_money told = told.2 ∙ ap refused_with told.1
