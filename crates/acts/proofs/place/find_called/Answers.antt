-- `acts::place::find_called` looks at head after head.
use Rattle.acts.proofs.Finding.{found_here, looked_on, none_left}
use Rattle.acts.specs.Inner.Place.{called_in}
use native.Mathlib.Omega.{arith}
use mathlib.Core.Path.{sym, ◌∙◌}
use Rattle.acts.proofs.place.find_called.Goals as goal

pub returns-then-is_called : goal.returns-then-is_called
returns-then-is_called c =
    let loop = c.loop-i in
    sym (found_here (called_in _) _ loop.i loop.row _ c.head-head.ensures c.is_called.ensures c.loop-i-test.true c.if-is_called.true)
    ∙ loop.invariant.1

pub loop-i-preserved : goal.loop-i-preserved
loop-i-preserved c =
    let loop = c.loop-i in (
      omega arith,
      looked_on (called_in _) _ loop.i loop.row _ c.head-head.ensures c.is_called.ensures c.loop-i-test.true c.orders.ensures.0 c.if-is_called.false
          ∙ loop.invariant.1,
    )

pub returns : goal.returns
returns c = let loop = c.loop-i in sym (none_left (called_in _) _ loop.i loop.row _ (omega arith)) ∙ loop.invariant.1
