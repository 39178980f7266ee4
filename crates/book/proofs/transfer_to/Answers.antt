-- `book::transfer_to` takes the transfer where the shipment of the name is found.
use Rattle.acts.proofs.PassedOn.{passed_on}
use Rattle.acts.specs.Inner.Place.{named_in}
use Rattle.acts.proofs.PlaceInBook.{sits}
use Rattle.book.proofs.CallDoesStep.{not_sought, sought_at}
use Rattle.book.proofs.transfer_to.Goals as goal

pub returns-in_err-place : goal.returns-in_err-place
returns-in_err-place c =
    rw (passed_on c.from_residual.ensures.1) (not_sought c.in_err-place.ensures)

pub transfer_at-requires : goal.transfer_at-requires
transfer_at-requires c = (sits (named_in _) c.in_ok-place.ensures, c.requires.1)

pub returns : goal.returns
returns c = sought_at c.in_ok-place.ensures c.transfer_at.ensures
