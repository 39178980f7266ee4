-- `acts::shipment::go_ahead_at` asks 15, 16 and 17.
use Rattle.acts.proofs.PairingActs.{gone_ahead_at}
use Rattle.acts.proofs.shipment.go_ahead_at.Goals as goal

pub returns : goal.returns
returns c =
    gone_ahead_at _ _ _ c.requires _ c.at-shipment.ensures c.is_waiting.ensures c.if-not-is_waiting.false _ c.rows.ensures c.has_faulty_in.ensures
    c.if-not-has_faulty_in.false c.has_go_ahead.ensures c.if-has_go_ahead.false c.store_go_ahead.ensures
