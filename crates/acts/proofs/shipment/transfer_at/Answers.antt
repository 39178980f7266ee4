-- `acts::shipment::transfer_at` asks 14, then stores the sum.
use mathlib.Core.Path.{sym, ◌∙◌}
use native.Mathlib.Omega.{arith}
use borrow.Author.Tests.{leb-true}
use Rattle.money.specs.Money.{sum_cap}
use Rattle.money.proofs.Sums.{grosze_is, money_is}
use Rattle.acts.proofs.ShipmentActs.{too_much_at, transferred_at}
use Rattle.acts.proofs.shipment.transfer_at.Goals as goal

pub overflow_add-total : goal.overflow_add-total
overflow_add-total c =
    let first = c.grosze.ensures ∙ grosze_is _ _ c.accepted-before.ensures.0 in
    record { fits = omega (arith, c.accepted-before.ensures.1, first, c.grosze-2.ensures, c.requires.1) }

pub returns-then-not-is_sum : goal.returns-then-not-is_sum
returns-then-not-is_sum c =
    rw (← c.money-money.ensures, ← c.grosze-2.ensures)
    (too_much_at _ _ _ c.requires.0 _ c.at.ensures _ _ (c.grosze.ensures ∙ grosze_is _ _ c.accepted-before.ensures.0) (sym c.is_sum.ensures ∙ c.if-not-is_sum.true))

pub of-requires : goal.of-requires
of-requires c =
    leb-true _ sum_cap (sym c.is_sum.ensures ∙ c.if-not-is_sum.false)

pub returns : goal.returns
returns c =
    rw (c.store_accepted.ensures, grosze_is _ _ c.of.ensures, money_is _ _ c.of.ensures, ← c.money-money.ensures, ← c.grosze-2.ensures)
    (transferred_at _ _ _ c.requires.0 _ c.at.ensures _ _ (c.grosze.ensures ∙ grosze_is _ _ c.accepted-before.ensures.0) (sym c.is_sum.ensures ∙ c.if-not-is_sum.false))
