-- `acts::surplus::free_in` takes need and surplus off.
use mathlib.Core.Path.{◌∙◌}
use native.Mathlib.Omega.{arith}
use Rattle.model.specs.Shipment.{free}
use Rattle.money.proofs.Sums.{grosze_is}
use Rattle.acts.proofs.SurplusActs.{needed_within, gone_within}
use Rattle.acts.proofs.surplus.free_in.Goals as goal

pub overflow_sub-grosze : goal.overflow_sub-grosze
overflow_sub-grosze c =
    rw (c.grosze.ensures ∙ grosze_is _ _ c.accepted-accepted.ensures.0, c.grosze-2.ensures ∙ grosze_is _ _ c.need_in-need.ensures)
    (needed_within _ c.accepted-accepted.ensures.2 c.args.money)

pub overflow_sub-grosze-2 : goal.overflow_sub-grosze-2
overflow_sub-grosze-2 c =
    rw (
      c.grosze.ensures ∙ grosze_is _ _ c.accepted-accepted.ensures.0,
      c.grosze-2.ensures ∙ grosze_is _ _ c.need_in-need.ensures,
      c.grosze-3.ensures ∙ grosze_is _ _ c.returned-returned.ensures.0,
    ) (gone_within _ c.accepted-accepted.ensures.2 c.args.money)

pub of-requires : goal.of-requires
of-requires c =
    omega (arith, c.accepted-accepted.ensures.1, (c.grosze.ensures ∙ grosze_is _ _ c.accepted-accepted.ensures.0))

pub returns : goal.returns
unfolding free
returns c =
    rw (
      c.of.ensures,
      c.grosze.ensures ∙ grosze_is _ _ c.accepted-accepted.ensures.0,
      c.grosze-2.ensures ∙ grosze_is _ _ c.need_in-need.ensures,
      c.grosze-3.ensures ∙ grosze_is _ _ c.returned-returned.ensures.0,
    )
