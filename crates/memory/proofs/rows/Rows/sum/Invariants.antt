-- `memory::rows::Rows::sum` adds row after row.
use Rattle.std.proofs.Common.{◌≡◌, length, ◌≤◌, ◌+◌, ◌*◌, ◌^◌}
use Rattle.money.specs.declared.Money.{Money}
use Rattle.model.specs.Shipment.{most_rows, sum_over, worth}
use Rattle.memory.specs.Inner.Worth.{IsWorth}
use Rattle.memory.proofs.rows.Rows.sum.Given as goal

abbrev pub invariant-loop-row : goal.invariant-loop-row
invariant-loop-row g l =
    ((money : Money) → IsWorth (goal.F-post g l.grosze) money → l.sum + sum_over (worth money) l.row-iterator ≡ sum_over (worth money) l.fn.self)
    × (l.sum + length l.row-iterator * 2 ^ 32 ≤ length l.fn.self * 2 ^ 32)
    × (length l.fn.self ≤ most_rows)
