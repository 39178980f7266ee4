-- `acts::rows::rows_of` adds up head after head.
use mathlib.Core.Path.{◌∙◌}
use native.Mathlib.Omega.{arith}
use Rattle.acts.proofs.RowsTaken.{rows_on, rows_end}
use Rattle.acts.proofs.rows.rows_of.Goals as goal

pub loop-i-preserved : goal.loop-i-preserved
loop-i-preserved c =
    let loop = c.loop-i in
    (omega arith, rows_on _ loop.i loop.k _ c.head.ensures c.orders.ensures.0 c.loop-i-test.true ∙ loop.invariant.1)

pub returns-clause-value : goal.returns-clause-value
returns-clause-value c = let loop = c.loop-i in omega (arith, rows_end c.args.memory.now loop.i loop.k c.args.n (omega arith))
