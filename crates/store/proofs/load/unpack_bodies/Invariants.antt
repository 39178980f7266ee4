-- `store::load::unpack_bodies` unpacks body after body.
use Prim.Native.Nat.{◌-◌}
use Rattle.store.proofs.Unpacking.{Unpacking}
use Rattle.store.proofs.load.unpack_bodies.Given as goal

abbrev pub invariant-loop-i : goal.invariant-loop-i
invariant-loop-i l = Unpacking l.stored l.n l.initial.memory l.memory l.i l.at l.k

abbrev pub decreases-loop-i : goal.decreases-loop-i
decreases-loop-i l = l.n - l.i
