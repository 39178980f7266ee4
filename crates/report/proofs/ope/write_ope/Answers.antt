-- `report::ope::write_ope` writes where the shipment is found.
use Rattle.acts.specs.Inner.Place.{called_in}
use Rattle.acts.proofs.PlaceInBook.{sits}
use Rattle.report.proofs.ope.write_ope.Goals as goal

pub at-requires : goal.at-requires
at-requires c = sits (called_in _) c.in_ok-place.ensures
