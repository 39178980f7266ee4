-- `store::put_bodies` puts body after body.
use Rattle.store.proofs.Storing.{BodiesPut}
use Rattle.store.proofs.put_bodies.Given as goal

abbrev pub invariant-loop-i : goal.invariant-loop-i
invariant-loop-i l = BodiesPut l.memory l.initial.output l.n l.k l.output l.i
