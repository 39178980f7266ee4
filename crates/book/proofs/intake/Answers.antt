-- `book::intake` asks 905, 907 and 900 before the file.
use mathlib.Core.Path.{sym, ◌∙◌}
use Rattle.acts.proofs.PassedOn.{passed_on}
use Rattle.book.proofs.IntakeActs.{profile_refused, memory_refused}
use Rattle.book.proofs.intake.Goals as goal

pub returns-in_err-judge_profile : goal.returns-in_err-judge_profile
returns-in_err-judge_profile c =
    rw (passed_on c.from_residual.ensures.1) (profile_refused _ _ _ _ (sym c.in_err-judge_profile.ensures))

pub returns-then-not-is_sound : goal.returns-then-not-is_sound
returns-then-not-is_sound c = memory_refused _ _ _ _ (sym c.in_ok-judge_profile.ensures) (sym c.is_sound.ensures ∙ c.if-not-is_sound.true)
