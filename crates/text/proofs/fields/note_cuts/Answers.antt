-- `text::fields::note_cuts`: the places noted, and the cuts of what is left of the text, are all the cuts, as far as the table has room.
use Rattle.std.proofs.Common.{arith}
use Rattle.text.proofs.Cuts.{noted_more, noted_to_the_brim, noted_all}
use Rattle.text.proofs.fields.note_cuts.Goals as goal

pub loop-i-preserved : goal.loop-i-preserved
loop-i-preserved c =
    let at = c.loop-i in
    rw c.from-count.ensures (noted_more _ c.args.s.now at.table at.i at.count at.invariant (omega arith) (omega (arith, at.invariant.fits, c.if-count-table.false)))

pub returns-then-count-table : goal.returns-then-count-table
returns-then-count-table c =
    let at = c.loop-i in
    let told = noted_to_the_brim _ c.args.s.now at.table at.i at.count at.invariant (omega (arith, c.if-count-table.true)) in
    rw (← at.auto.table) record { value = told.0; table_after = told.1 }

pub returns-after-loop-i : goal.returns-after-loop-i
returns-after-loop-i c =
    let end = c.loop-i in
    let told = noted_all _ c.args.s.now end.table end.i end.count end.invariant (omega arith) in
    rw (← end.auto.table) record { value = told.0; table_after = told.1 }
