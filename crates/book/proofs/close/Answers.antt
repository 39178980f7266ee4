-- `book::close` closes the shipment where the shipment is found.
use Rattle.acts.proofs.PassedOn.{passed_on}
use Rattle.model.specs.Calls.{Close, acted}
use Rattle.acts.specs.Inner.Place.{called_in}
use Rattle.acts.proofs.PlaceInBook.{sits}
use Rattle.book.proofs.CallDoesStep.{not_called, called_at}
use Rattle.book.proofs.close.Goals as goal

pub returns-in_err-place : goal.returns-in_err-place
returns-in_err-place c =
    rw (passed_on c.from_residual.ensures.1) (not_called Close c.in_err-place.ensures)

pub close_at-requires : goal.close_at-requires
close_at-requires c = sits (called_in _) c.in_ok-place.ensures

pub returns : goal.returns
unfolding acted
returns c = called_at Close c.in_ok-place.ensures c.close_at.ensures
