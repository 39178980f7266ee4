-- `acts::route::return_at` asks document 01's questions in turn.
use Rattle.money.proofs.Sums.{money_is}
use Rattle.acts.proofs.SumsReturned.{returned_as}
use Rattle.acts.proofs.Returns.{waiting_within, unpaired_at, undelivered_fee_at, worthless_at, nothing_at, returned_at}
use mathlib.Core.Path.{sym, ◌∙◌}
use native.Mathlib.Omega.{arith}
use Rattle.acts.proofs.route.return_at.Goals as goal

pub returns-then-not-is_paired-clause-acts : goal.returns-then-not-is_paired-clause-acts
returns-then-not-is_paired-clause-acts c =
    unpaired_at _ _ _ _ c.at-shipment.ensures _ _ c.is_paired.ensures c.if-not-is_paired.true

pub returns-then-is_zpr_with_o-clause-acts : goal.returns-then-is_zpr_with_o-clause-acts
returns-then-is_zpr_with_o-clause-acts c =
    let start = c.args in
    undelivered_fee_at _ _ _ _ c.at-shipment.ensures start.route start.money
    c.is_paired.ensures c.if-not-is_paired.false c.is_zpr_with_o.ensures c.if-is_zpr_with_o.true

pub returns-then-waits_in_vain-clause-acts : goal.returns-then-waits_in_vain-clause-acts
returns-then-waits_in_vain-clause-acts c =
    let start = c.args in
    worthless_at _ _ _ _ c.at-shipment.ensures start.route start.money
    c.is_paired.ensures c.if-not-is_paired.false c.is_zpr_with_o.ensures c.if-is_zpr_with_o.false
    c.waits_in_vain.ensures c.if-waits_in_vain.true

pub clear-waits-requires : goal.clear-waits-requires
clear-waits-requires c = (
  c.requires,
  waiting_within _ _ _ _ c.at-shipment.ensures c.args.route c.args.money
      c.is_paired.ensures c.if-not-is_paired.false c.is_zpr_with_o.ensures c.if-is_zpr_with_o.false c.requires,
)

pub returns-then-grosze-eq0-clause-acts : goal.returns-then-grosze-eq0-clause-acts
returns-then-grosze-eq0-clause-acts c =
    nothing_at _ _ _ _ c.at-shipment.ensures c.args.route c.args.money
    c.is_paired.ensures c.if-not-is_paired.false c.is_zpr_with_o.ensures c.if-is_zpr_with_o.false
    c.waits_in_vain.ensures c.if-waits_in_vain.false
    c.requires c.clear-waits.ensures (sym c.grosze.ensures ∙ c.if-grosze-eq0.true)

pub returns-clause-of_money : goal.returns-clause-of_money
returns-clause-of_money c = money_is _ _ c.clear-waits.ensures.sum

pub returns-clause-acts : goal.returns-clause-acts
returns-clause-acts c =
    rw (returned_as _ _ (money_is c.args.money _ c.clear-waits.ensures.sum))
    (returned_at _ _ _ _ c.at-shipment.ensures c.args.route c.args.money
    c.is_paired.ensures c.if-not-is_paired.false c.is_zpr_with_o.ensures c.if-is_zpr_with_o.false
    c.waits_in_vain.ensures c.if-waits_in_vain.false
    c.requires c.clear-waits.ensures (omega (arith, c.if-grosze-eq0.false, c.grosze.ensures)))
