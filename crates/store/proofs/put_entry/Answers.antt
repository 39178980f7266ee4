-- `store::put_entry`: the start, and the length behind it.
use Rattle.write.proofs.Pieces.{writes_then}
use Rattle.store.proofs.Storing.{four_bytes}
use Rattle.store.proofs.put_entry.Goals as goal

pub returns : goal.returns
returns c =
    let first = rw (c.to_le_bytes.ensures, four_bytes c.args.start) at c.put_text.ensures in
    let second = rw (c.to_le_bytes-2.ensures, four_bytes c.args.long) at c.put_text-2.ensures in
    writes_then first second
