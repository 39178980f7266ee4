-- `book::return_money` returns the money where the shipment is found.
use Rattle.acts.proofs.PassedOn.{passed_on}
use Rattle.model.specs.Calls.{Return}
use Rattle.acts.specs.Inner.Place.{called_in}
use Rattle.acts.proofs.PlaceInBook.{sits}
use Rattle.book.proofs.CallDoesStep.{not_called, called_at}
use Rattle.book.proofs.return_money.Goals as goal

pub returns-in_err-place-clause-does : goal.returns-in_err-place-clause-does
returns-in_err-place-clause-does c =
    rw (passed_on c.from_residual.ensures.1) (not_called (Return _ _) c.in_err-place.ensures)

pub return_by_at-requires : goal.return_by_at-requires
return_by_at-requires c = sits (called_in _) c.in_ok-place.ensures

pub returns-clause-does : goal.returns-clause-does
returns-clause-does c = called_at (Return _ _) c.in_ok-place.ensures c.return_by_at.ensures.acts
