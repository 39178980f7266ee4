-- `audit::play::play_intake` takes in the file of the entry, under its name and with its profile; flat parts that are no fees are 905.
use mathlib.Core.Path.{refl, sym, ap, ◌∙◌}
use Rattle.epe.specs.Profile.{as_fees, fees_fit}
use Rattle.book.specs.Reply.{refused_with}
use Rattle.book.proofs.IntakeActs.{profile_refused}
use Rattle.book.proofs.Telling.{plays}
use Rattle.audit.specs.Journal.{profile_in}
use Rattle.audit.proofs.CallOfEntry.{unfit}
use Rattle.audit.proofs.play.play_intake.Goals as goal

pub returns-then-not-are_fees : goal.returns-then-not-are_fees
returns-then-not-are_fees c =
    let none = ap (λ numbers. fees_fit (as_fees numbers)) (sym c.fees.ensures) ∙ sym c.are_fees.ensures ∙ c.if-not-are_fees.true in
    plays refl (profile_refused c.args.memory.now (profile_in c.args.entry.now.head.bytes.now) _ _ (unfit _ none)) (c.refused.ensures ∙ ap refused_with c.from.ensures)
