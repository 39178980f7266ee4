-- `sound::book::Book::len` reads the number of shipments.
use Rattle.sound.proofs.Standing.{book_many}
use Rattle.sound.proofs.book.Book.len.Goals as goal

pub returns : goal.returns
returns c = book_many _ c.self.invariant _ c.self.view_is _ c.lent.ensures c.shipments.ensures.0
