-- `memory::shipment::LentShipment::amounts_accepted` reads a sum of a sound shipment.
use mathlib.Core.Path.{ap, ◌∙◌}
use Rattle.money.specs.Money.{amount}
use Rattle.money.specs.declared.Money.TheVariants.{K}
use Rattle.model.specs.Shipment.{Shipment, accepted}
use Rattle.memory.proofs.HeadFields.{accepted_there, accepted_low}
use Rattle.memory.proofs.shipment.LentShipment.amounts_accepted.Goals as goal

pub amounts_accepted-requires : goal.amounts_accepted-requires
amounts_accepted-requires c = accepted_low _ _ c.self.invariant K

pub returns : goal.returns
returns c = c.amounts_accepted.ensures ∙ ap amount (accepted_there _ _ K) ∙ ap (λ (s : Shipment). amount (accepted K s)) c.self.view_is
