-- `buntingraft::buntingraft_return` goes by whether the numbers are those of a route and of a money.
use mathlib.Core.Path.{◌∙◌}
use Rattle.buntingraft.proofs.Exporting.{returned, not_returned}
use Rattle.buntingraft.proofs.buntingraft_return.Goals as goal

pub returns-then-not-are_known : goal.returns-then-not-are_known
returns-then-not-are_known c =
    not_returned c.are_known.ensures c.if-not-are_known.true c.ident_of.ensures (c.from.ensures ∙ c.refuse_return-refusal.ensures)
    c.refused.ensures

pub returns : goal.returns
returns c =
    returned c.are_known.ensures c.if-not-are_known.false c.route_of.ensures c.money_of.ensures
    c.return_money.ensures
