-- `book::enter::take_in` asks the header, then the records.
use mathlib.Core.Path.{refl, sym}
use Rattle.acts.proofs.PassedOn.{passed_on}
use Rattle.contents.proofs.TwoStepsAreContents.{two_steps_are_contents}
use Rattle.book.proofs.IntakeActs.{contents_refused}
use Rattle.book.proofs.enter.take_in.Goals as goal

pub returns-in_err-stated : goal.returns-in_err-stated
returns-in_err-stated c =
    rw (passed_on c.from_residual.ensures.1)
    (contents_refused _ _ c.args.profile c.args.name c.args.file.now c.requires.0 c.requires.1 c.requires.2 c.requires.3 c.requires.4 refl
    (two_steps_are_contents.first_refuses _ _ _ (sym c.in_err-stated.ensures.verdict)))
