-- `text::number::digits` is `number_after 0`: the digits passed make the number so far, which is below a power of ten.
use Rattle.std.proofs.Common.{arith, sym, ◌∙◌}
use Rattle.text.proofs.Digits.{digit_said, number_on, number_not, number_end, one_more}
use Rattle.text.proofs.number.digits.Goals as goal

pub overflow_mul-n : goal.overflow_mul-n
overflow_mul-n c = omega (arith, one_more c.loop-b.n c.loop-b.b-index c.loop-b.invariant.0 (omega arith))

pub returns-in_err-n-clause-value : goal.returns-in_err-n-clause-value
returns-in_err-n-clause-value c =
    c.from_residual.ensures ∙ sym (number_not _ c.args.s.now c.loop-b.b-index (omega arith) c.in_err-n.ensures) ∙ c.loop-b.invariant.1

pub overflow_add-n : goal.overflow_add-n
overflow_add-n c =
    omega (arith, one_more c.loop-b.n c.loop-b.b-index c.loop-b.invariant.0 (omega arith), digit_said _ _ c.in_ok-n.ensures)

pub loop-b-preserved : goal.loop-b-preserved
loop-b-preserved c =
    let at = c.loop-b in (
      omega (arith, one_more at.n at.b-index at.invariant.0 (omega arith), digit_said _ _ c.in_ok-n.ensures),
      number_on _ c.args.s.now at.b-index _ (omega arith) c.in_ok-n.ensures ∙ at.invariant.1,
    )

pub returns-clause-value : goal.returns-clause-value
returns-clause-value c = sym (number_end _ c.args.s.now c.loop-b.b-index (omega arith)) ∙ c.loop-b.invariant.1
