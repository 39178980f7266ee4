-- What an export tells of an answer whose refusals are converted to their numbers.
-- Assumes nothing.
use mathlib.Core.Path.{◌≡◌, ◌∙◌, ap}
use mathlib.Core.List.{List}
use Prim.Native.Nat.{ℕ}
use Rattle.std.specs.Prelude.{Result, Ok, Err}
use Rattle.epe.specs.Numbered.{numbered}
use Rattle.book.specs.Reply.{done_with, refused_with, Tells}
use Rattle.book.specs.declared.reply.Reply.{Reply}
use Rattle.write.specs.Written.{Wrote}
use Rattle.buntingraft.specs.Exports.{reply_to, TellsWriting}

module _ {E : Type 0} (number_of : E → ℕ) where
  pub tells : (answer : Result ℕ E) {reply : Reply} → Tells (λ n. done_with n 0) (λ refusal number. number ≡ number_of refusal) answer reply → reply ≡ reply_to (numbered number_of answer)
  tells (Ok number) told = told
  tells (Err refusal) told = told.2 ∙ ap refused_with told.1

  pub tells_writing : (answer : Result ℕ E) {wrote : Wrote} {output : List ℕ} {reply : Reply} → record { answer = numbered number_of answer; output = output } ≡ wrote
      → Tells (λ n. done_with n 0) (λ refusal number. number ≡ number_of refusal) answer reply → TellsWriting wrote reply output
  tells_writing answer is told = record { is_reply = tells answer told ∙ ap (λ (w : Wrote). reply_to w.answer) is; text = ap (λ (w : Wrote). w.output) is }
