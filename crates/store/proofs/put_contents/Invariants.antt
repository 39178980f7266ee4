-- `store::put_contents` puts an entry to a shipment.
use Rattle.store.proofs.Storing.{ContentsPut}
use Rattle.store.proofs.put_contents.Given as goal

abbrev pub invariant-loop-i : goal.invariant-loop-i
invariant-loop-i l = ContentsPut l.memory l.initial.output l.n l.start l.output l.i
