-- `store::load::unpack_bodies` unpacks body after body.
use native.Mathlib.Omega.{arith}
use Rattle.store.proofs.Unpacking.{unpacking_begun, unpacking_on, bodies_unpacked}
use Rattle.store.proofs.load.unpack_bodies.Goals as goal

pub loop-i-init : goal.loop-i-init
loop-i-init c = unpacking_begun c.args.stored.now c.args.n c.args.memory.now c.requires.2 (omega arith)

pub loop-i-preserved : goal.loop-i-preserved
loop-i-preserved c =
    let loop = c.loop-i in
    let body = rw c.in_ok-count.was at c.orders_of_body.ensures in
    let count = body.1 in
    unpacking_on loop.invariant c.loop-i-test.true body.0 c.requires.0 c.unpack_body.ensures (omega arith) (omega arith)

pub returns : goal.returns
returns c =
    let loop = c.loop-i in
    bodies_unpacked loop.invariant (omega (arith, c.loop-i-test.false)) c.if-at-stored.false (rw loop.invariant.as_long c.requires.1) c.store_shipments.ensures
