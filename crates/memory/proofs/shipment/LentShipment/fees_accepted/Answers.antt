-- `memory::shipment::LentShipment::fees_accepted` reads a sum of a sound shipment.
use mathlib.Core.Path.{ap, ◌∙◌}
use Rattle.money.specs.Money.{fee}
use Rattle.money.specs.declared.Money.TheVariants.{O}
use Rattle.model.specs.Shipment.{Shipment, accepted}
use Rattle.memory.proofs.HeadFields.{accepted_there, accepted_low}
use Rattle.memory.proofs.shipment.LentShipment.fees_accepted.Goals as goal

pub fees_accepted-requires : goal.fees_accepted-requires
fees_accepted-requires c = accepted_low _ _ c.self.invariant O

pub returns : goal.returns
returns c = c.fees_accepted.ensures ∙ ap fee (accepted_there _ _ O) ∙ ap (λ (s : Shipment). fee (accepted O s)) c.self.view_is
