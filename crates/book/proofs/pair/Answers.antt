-- `book::pair` pairs the shipment where it is found.
use Rattle.model.specs.Calls.{Pair, acted}
use Rattle.acts.specs.Inner.Place.{called_in}
use Rattle.acts.proofs.PlaceInBook.{sits}
use Rattle.book.proofs.CallDoesStep.{not_called, called_at}
use Rattle.book.proofs.pair.Goals as goal

pub pair_at-requires : goal.pair_at-requires
pair_at-requires c = sits (called_in _) c.in-Ok.ensures

pub returns-in-Ok : goal.returns-in-Ok
unfolding acted
returns-in-Ok c = called_at Pair c.in-Ok.ensures c.pair_at.ensures

pub returns-in-Err : goal.returns-in-Err
returns-in-Err c = rw c.from.ensures (not_called Pair c.in-Err.ensures)
