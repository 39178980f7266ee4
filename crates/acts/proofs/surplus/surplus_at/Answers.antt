-- `acts::surplus::surplus_at` asks 24 and 23, then stores what has gone.
use mathlib.Core.Path.{◌∙◌}
use native.Mathlib.Omega.{arith}
use Rattle.money.proofs.Sums.{grosze_is, money_is}
use Rattle.acts.proofs.SumsReturned.{returned_as}
use Rattle.acts.proofs.SurplusActs.{still_waiting_at, no_surplus_at, fits_at, surplus-at}
use Rattle.acts.proofs.surplus.surplus_at.Goals as goal

pub returns-then-is_waiting-clause-acts : goal.returns-then-is_waiting-clause-acts
returns-then-is_waiting-clause-acts c =
    still_waiting_at _ _ _ c.requires _ c.at-shipment.ensures _ c.is_waiting.ensures c.if-is_waiting.true

pub returns-then-grosze-eq0-clause-acts : goal.returns-then-grosze-eq0-clause-acts
returns-then-grosze-eq0-clause-acts c =
    no_surplus_at _ _ _ c.requires _ c.at-shipment.ensures _ c.is_waiting.ensures c.if-is_waiting.false (c.grosze-grosze.ensures ∙ grosze_is _ _ c.free_in-sum.ensures) c.if-grosze-eq0.true

pub overflow_add-grosze : goal.overflow_add-grosze
overflow_add-grosze c =
    let within = fits_at _ _ _ c.requires _ c.at-shipment.ensures c.args.money c.is_waiting.ensures c.if-is_waiting.false (c.grosze-grosze.ensures ∙ grosze_is _ _ c.free_in-sum.ensures) (c.grosze.ensures ∙ grosze_is _ _ c.returned-before.ensures.0) in
    record { fits = omega (arith, within) }

pub of-requires : goal.of-requires
of-requires c =
    fits_at _ _ _ c.requires _ c.at-shipment.ensures c.args.money c.is_waiting.ensures c.if-is_waiting.false (c.grosze-grosze.ensures ∙ grosze_is _ _ c.free_in-sum.ensures) (c.grosze.ensures ∙ grosze_is _ _ c.returned-before.ensures.0)

pub returns-clause-of_money : goal.returns-clause-of_money
returns-clause-of_money c = money_is _ _ c.free_in-sum.ensures

pub returns-clause-acts : goal.returns-clause-acts
returns-clause-acts c =
    rw (returned_as _ _ (money_is c.args.money _ c.free_in-sum.ensures), c.store_returned.ensures, grosze_is _ _ c.of.ensures, money_is _ _ c.of.ensures, ← c.grosze-grosze.ensures)
    (surplus-at _ _ _ c.requires _ c.at-shipment.ensures _ c.is_waiting.ensures c.if-is_waiting.false (c.grosze-grosze.ensures ∙ grosze_is _ _ c.free_in-sum.ensures) (c.grosze.ensures ∙ grosze_is _ _ c.returned-before.ensures.0) (omega (arith, c.if-grosze-eq0.false)))
