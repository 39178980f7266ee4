-- `book::told::return_money` returns money of the shipment of an identifier.
use Rattle.book.proofs.Telling.{plays_on, told_return}
use Rattle.book.proofs.told.return_money.Goals as goal

pub returns : goal.returns
returns c = plays_on c.ident_of.ensures c.return_money.ensures.does (told_return _ _ c.return_money.ensures.of_money c.tell.ensures)
