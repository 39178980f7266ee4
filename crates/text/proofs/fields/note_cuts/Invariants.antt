-- `text::fields::note_cuts`: the places noted, and the cuts of what is left of the text, are all the cuts, as far as the table has room.
use Rattle.text.proofs.Cuts.{Noted}
use Rattle.text.proofs.fields.note_cuts.Given as goal

abbrev pub invariant-loop-i : goal.invariant-loop-i
invariant-loop-i l = Noted l.separator l.s l.table l.i l.count
