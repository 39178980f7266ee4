-- `store::put_book`: the form and the number of shipments, the contents table, the bodies.
use mathlib.Core.Path.{sym}
use mathlib.Core.List.{[], ◌∷◌, ◌++◌}
use Prim.Native.Nat.{◌+◌, ◌*◌}
use Rattle.write.proofs.Pieces.{room_first, room_behind, writes_then}
use Rattle.store.specs.Stored.{form}
use Rattle.store.specs.Inner.Raw.{raw_bodies, raw_contents}
use Rattle.store.proofs.Storing.{raw_is, book_rows, book_few}
use Rattle.store.proofs.put_book.Goals as goal

pub put_text-requires : goal.put_text-requires
put_text-requires c =
    let m = c.args.memory.now in
    let n = c.args.n in
    room_first (form ∷ n ∷ []) (raw_contents m 0 (2 + 8 * n) n ++ raw_bodies m 0 0 n) (rw (sym (raw_is m n c.requires.1)) at c.requires.2)

pub put_contents-requires : goal.put_contents-requires
put_contents-requires c =
    let m = c.args.memory.now in
    let n = c.args.n in
    let behind = room_behind (form ∷ n ∷ []) (raw_contents m 0 (2 + 8 * n) n ++ raw_bodies m 0 0 n) (rw (sym (raw_is m n c.requires.1)) at c.requires.2) c.put_text.ensures in
    (book_few m n c.requires.0 c.requires.1, room_first (raw_contents m 0 (2 + 8 * n) n) (raw_bodies m 0 0 n) behind)

pub put_bodies-requires : goal.put_bodies-requires
put_bodies-requires c =
    let m = c.args.memory.now in
    let n = c.args.n in
    let behind = room_behind (form ∷ n ∷ []) (raw_contents m 0 (2 + 8 * n) n ++ raw_bodies m 0 0 n) (rw (sym (raw_is m n c.requires.1)) at c.requires.2) c.put_text.ensures in
    (book_few m n c.requires.0 c.requires.1, book_rows m n c.requires.0 c.requires.1, room_behind (raw_contents m 0 (2 + 8 * n) n) (raw_bodies m 0 0 n) behind c.put_contents.ensures)

pub returns : goal.returns
returns c = rw (sym (raw_is c.args.memory.now c.args.n c.requires.1)) (writes_then c.put_text.ensures (writes_then c.put_contents.ensures c.put_bodies.ensures))
