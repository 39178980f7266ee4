-- `acts::shipment::close_at` asks 15.
use Rattle.acts.proofs.ShipmentActs.{closed_at}
use Rattle.acts.proofs.shipment.close_at.Goals as goal

pub returns : goal.returns
returns c = closed_at _ _ _ c.requires _ c.at.ensures c.is_waiting.ensures c.store_stage.ensures c.if-not-is_waiting.false
