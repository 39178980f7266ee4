-- `acts::route::fees_waiting` adds each fee as often as the table says.
use native.Mathlib.Omega.{arith}
use Rattle.std.proofs.Common.{◌+◌, ◌*◌, ◌∙◌, ap, sym, length, get_or}
use Rattle.money.specs.declared.Fee.{Fee}
use Rattle.money.specs.declared.Money.TheVariants.{O}
use Rattle.memory.proofs.ReturnLaws.{taken_few, told_of_row}
use Rattle.acts.specs.Inner.Waits.{worth_waiting}
use Rattle.acts.proofs.Returns.{twice_at_most, left_waits}
use Rattle.acts.proofs.route.fees_waiting.Goals as goal

pub overflow_mul-sum : goal.overflow_mul-sum
overflow_mul-sum c =
    let few = taken_few _ _ _ c.wait_table-table.ensures _ c.code-code.ensures.1 in
    omega (arith, c.fee.ensures.1, twice_at_most c.fee.result.0 _ few)

pub overflow_add-sum : goal.overflow_add-sum
overflow_add-sum c =
    let few = taken_few _ _ _ c.wait_table-table.ensures _ c.code-code.ensures.1 in
    omega (arith, c.fee.ensures.1, twice_at_most c.fee.result.0 _ few, c.loop-row.invariant.1, c.loop-row.invariant.2)

pub loop-row-preserved : goal.loop-row-preserved
loop-row-preserved c =
    let few = taken_few _ _ _ c.wait_table-table.ensures _ c.code-code.ensures.1 in
    let took = get_or c.wait_table-table.result c.code-code.result.0 0 in
    let rest = worth_waiting c.args.route O c.next.new.self in
    let told = told_of_row _ _ _ c.wait_table-table.ensures _ c.code-code.ensures.1 c.in-Some.row c.code-code.ensures.0 in (
      ap (λ (fee : Fee). c.loop-row.sum + fee.0 * took + rest * 2) c.fee.ensures.0
          ∙ left_waits c.args.route O c.in-Some.row c.next.new.self c.loop-row.sum
          (ap (λ rows. c.loop-row.sum + worth_waiting c.args.route O rows * 2) (sym c.in-Some.ensures.steps) ∙ c.loop-row.invariant.0) told,
      omega (
        arith,
        c.fee.ensures.1,
        twice_at_most c.fee.result.0 took few,
        ap length c.in-Some.ensures.steps,
        c.loop-row.invariant.1,
      ),
      c.loop-row.invariant.2,
    )
