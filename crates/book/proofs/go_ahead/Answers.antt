-- `book::go_ahead` takes the go-ahead where the shipment is found.
use Rattle.acts.proofs.PassedOn.{passed_on}
use Rattle.model.specs.Calls.{GoAhead, acted}
use Rattle.acts.specs.Inner.Place.{called_in}
use Rattle.acts.proofs.PlaceInBook.{sits}
use Rattle.book.proofs.CallDoesStep.{not_called, called_at}
use Rattle.book.proofs.go_ahead.Goals as goal

pub returns-in_err-place : goal.returns-in_err-place
returns-in_err-place c =
    rw (passed_on c.from_residual.ensures.1) (not_called GoAhead c.in_err-place.ensures)

pub go_ahead_at-requires : goal.go_ahead_at-requires
go_ahead_at-requires c = sits (called_in _) c.in_ok-place.ensures

pub returns : goal.returns
unfolding acted
returns c = called_at GoAhead c.in_ok-place.ensures c.go_ahead_at.ensures
