-- What a writer answers that asks 30 alone, and one that asks a question of its own before it.
-- Assumes nothing.
use mathlib.Core.Path.{◌≡◌, sym, ◌∙◌}
use mathlib.Core.Bool.{Bool, true, false}
use mathlib.Core.List.{List, [], ◌∷◌}
use Prim.Native.Nat.{ℕ, ◌<◌, ◌≤◌}
use borrow.Author.Tests.{le-leb, lt-leb}
use lib.Dec.{leb}
use lib.ListN.{length}
use Rattle.std.specs.Prelude.{Ok}
use Rattle.epe.specs.Questions.{Question, ◌else_no◌}
use Rattle.epe.proofs.QuestionLaws.{asked_no, asked_yes, asked_none}
use Rattle.write.proofs.Pieces.{room_whole, whole_written}
use Rattle.write.specs.Written.{written, wrote, leaving, written_after}

module _ (text output : List ℕ) where
  pub alone_short : length output < length text → leaving output 30 ≡ written_after [] text output
  unfolding written_after
  alone_short short = sym (asked_no 30 [] (leaving output) (wrote text output) (lt-leb (length text) (length output) short))

  pub alone_written : {n : ℕ} {after : List ℕ} → length text ≤ length output → n ≡ length text → after ≡ written text output
      → record { answer = Ok n; output = after } ≡ written_after [] text output
  unfolding written_after
  alone_written long is_long is_after =
      (λ i. record { answer = Ok (is_long i); output = is_after i })
      ∙ sym
      (asked_yes 30 [] (leaving output) (wrote text output) (le-leb (length text) (length output) long)
      ∙ asked_none (leaving output) (wrote text output))

module _ (number : ℕ) (text output : List ℕ) where
  abbrev room : Question
  room = leb (length text) (length output) else_no 30

  pub answers_unfit : {fits : Bool} → fits ≡ false → leaving output number ≡ written_after ((fits else_no number) ∷ []) text output
  unfolding written_after
  answers_unfit unfit = sym (asked_no number (room ∷ []) (leaving output) (wrote text output) unfit)

  behind : {fits : Bool} → fits ≡ true → written_after ((fits else_no number) ∷ []) text output ≡ written_after [] text output
  unfolding written_after
  behind fit = asked_yes number (room ∷ []) (leaving output) (wrote text output) fit

  pub answers_short : {fits : Bool} → fits ≡ true → length output < length text → leaving output 30 ≡ written_after ((fits else_no number) ∷ []) text output
  answers_short fit short = alone_short text output short ∙ sym (behind fit)

  pub answers_written : {fits : Bool} {n : ℕ} {after : List ℕ} → fits ≡ true → length text ≤ length output → n ≡ length text → after ≡ written text output
      → record { answer = Ok n; output = after } ≡ written_after ((fits else_no number) ∷ []) text output
  answers_written fit long is_long is_after = alone_written text output long is_long is_after ∙ sym (behind fit)

-- by which a writer answers that asks 30 alone, and one that asks a question of its own before it
pub ruleset alone = (alone_short, alone_written, room_whole, whole_written)

pub ruleset answers = (answers_unfit, answers_short, answers_written, room_whole, whole_written)
