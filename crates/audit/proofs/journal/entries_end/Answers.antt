-- `audit::journal::entries_end` takes entry after entry: what is left to take gives the answer.
use mathlib.Core.Path.{◌∙◌}
use Rattle.audit.proofs.JournalLaws.{entry_within, entry_passed}
use Rattle.audit.proofs.journal.entries_end.Goals as goal

pub loop-i-preserved : goal.loop-i-preserved
loop-i-preserved c =
    let loop = c.loop-i in
    let is_entry = rw c.in_ok-of.was at c.of.ensures ∙ c.rest.ensures in (
      entry_within _ loop.at c.length.result is_entry loop.invariant.0 c.length.ensures.within,
      entry_passed _ loop.at loop.i _ is_entry c.loop-i-test.true c.in_ok-of.field-0.whole c.length.ensures.value ∙ loop.invariant.1,
    )
