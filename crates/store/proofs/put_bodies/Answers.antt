-- `store::put_bodies` puts body after body.
use native.Mathlib.Omega.{arith}
use Rattle.store.proofs.Storing.{body_rows, body_room, bodies_on}
use Rattle.store.proofs.put_bodies.Goals as goal

pub put_body-k-requires : goal.put_body-k-requires
put_body-k-requires c =
    let so_far = c.loop-i.invariant in
    let few = c.requires.0 in
    (omega arith, body_rows so_far c.loop-i-test.true, body_room so_far c.loop-i-test.true)

pub loop-i-preserved : goal.loop-i-preserved
loop-i-preserved c = bodies_on c.loop-i.invariant c.loop-i-test.true c.put_body-k.ensures.next c.put_body-k.ensures.output_after
