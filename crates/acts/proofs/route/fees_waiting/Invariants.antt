-- `acts::route::fees_waiting` adds each fee as often as the table says.
use Rattle.std.proofs.Common.{◌≡◌, ◌+◌, ◌*◌, ◌^◌, ◌≤◌, length}
use Rattle.money.specs.declared.Money.TheVariants.{O}
use Rattle.model.specs.Shipment.{most_rows}
use Rattle.acts.specs.Inner.Waits.{worth_waiting}
use Rattle.acts.proofs.route.fees_waiting.Given as goal

abbrev pub invariant-loop-row : goal.invariant-loop-row
invariant-loop-row l =
    (l.sum + worth_waiting l.fn.route O l.row-iterator * 2 ≡ worth_waiting l.fn.route O l.fn.rows * 2)
    × (l.sum + length l.row-iterator * 2 ^ 34 ≤ length l.fn.rows * 2 ^ 34)
    × (length l.fn.rows ≤ most_rows)
