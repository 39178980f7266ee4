-- `memory::enter::enter_order` stores an amount, a fee, a remainder and a state; a fee above the cap is ruled out.
use mathlib.Core.Path.{sym, ◌∙◌}
use Rattle.fee.proofs.Charged.{charge_is}
use Rattle.memory.proofs.EnterLaws.{order_entered}
use Rattle.memory.proofs.enter.enter_order.Goals as goal

pub returns : goal.returns
returns c =
    let is = charge_is _ _ c.requires.2.fee_fits_holds _ (sym c.in-Some.is ∙ c.charge_on.ensures) in
    rw (c.store_state.ensures, c.entered_state-state.ensures, c.store-3.ensures, c.store-2.ensures, c.store.ensures, is)
    (order_entered c.args.terms c.args.order c.args.k c.args.memory.now c.requires.0 c.requires.1 c.requires.2)
