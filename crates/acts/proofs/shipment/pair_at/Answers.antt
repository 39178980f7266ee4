-- `acts::shipment::pair_at` asks 15 and 18, and for what is missing.
use Rattle.acts.proofs.PairingActs.{paired_at}
use Rattle.acts.proofs.shipment.pair_at.Goals as goal

pub returns : goal.returns
returns c =
    paired_at _ _ _ c.requires _ c.at-shipment.ensures c.is_waiting.ensures c.if-not-is_waiting.false c.may_pair.ensures c.if-not-may_pair.false _ c.rows-rows.ensures
    c.less-amount.ensures c.less-fee.ensures c.amounts.ensures.0 c.fees.ensures.0 c.amounts_accepted.ensures c.fees_accepted.ensures c.is_short.ensures
    c.if-is_short.false c.store_stage.ensures
