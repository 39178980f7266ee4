-- `audit::play::play_act` does what the first byte says with the shipment of the identifier.
use mathlib.Core.Path.{sym, ap, ◌∙◌}
use Rattle.book.specs.Numbers.{route_of, money_of}
use Rattle.book.proofs.Telling.{plays_same}
use Rattle.audit.proofs.CallOfEntry.{on_return}
use Rattle.audit.proofs.play.play_act.Goals as goal

pub returns-in-9 : goal.returns-in-9
returns-in-9 c =
    plays_same (on_return _ c.text-id.ensures (c.route_of-route.ensures ∙ ap route_of c.number.ensures)
    (c.money_of-money.ensures ∙ ap money_of c.number-in-9.ensures) (sym c.call.ensures ∙ c.in-9.is)) c.return_money.ensures
