-- `store::put_contents` puts an entry to a shipment.
use native.Mathlib.Omega.{arith}
use Rattle.store.proofs.Storing.{contents_begun, entry_room, contents_on}
use Rattle.store.proofs.put_contents.Goals as goal

pub loop-i-init : goal.loop-i-init
loop-i-init c = contents_begun (omega arith) c.requires.1

pub put_entry-requires : goal.put_entry-requires
put_entry-requires c = entry_room c.loop-i.invariant c.loop-i-test.true c.body_length-length.ensures.0

pub loop-i-preserved : goal.loop-i-preserved
loop-i-preserved c = contents_on c.loop-i.invariant c.loop-i-test.true c.body_length-length.ensures.0 c.body_length-length.ensures.1 c.put_entry.ensures
