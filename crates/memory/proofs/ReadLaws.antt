-- What is read of lent memory.
-- Assumes nothing.
use mathlib.Core.Path.{◌≡◌}
use mathlib.Core.Bool.{true}
use native.Mathlib.Omega.{arith}
use borrow.Author.Tests.{le-leb}
use lib.Dec.{leb}
use lib.ListN.{length, set, length-set}
use lib.Seq.{get_or-set_same}
use Rattle.model.proofs.StaysSound.{stays_sound}
use Rattle.memory.specs.Layout.{size}
use Rattle.memory.specs.Read.{shipments_from, flags_from, book_in, sound_in, read_book, EmptyIsRead}

pub empty_is_read : EmptyIsRead
unfolding shipments_from flags_from book_in sound_in read_book
empty_is_read m enough =
    let long : leb size (length (set m 0 0)) ≡ true = le-leb size (length (set m 0 0)) (omega (arith, length-set m 0 0)) in
    rw (get_or-set_same m 0 0 0 (omega arith), long, stays_sound.begins)
