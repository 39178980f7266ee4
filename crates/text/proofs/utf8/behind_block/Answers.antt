-- `text::utf8::behind_block` passes a block of ASCII.
use native.Mathlib.Omega.{arith}
use Rattle.text.specs.declared.utf8.TheConstants.{BLOCK}
use Rattle.text.proofs.Utf8Places.{past_ascii}
use Rattle.text.proofs.utf8.behind_block.Goals as goal

pub returns-then-all_ascii : goal.returns-then-all_ascii
returns-then-all_ascii c =
    let cut = c.in-Some.ensures.cases in
    rw cut.1 (past_ascii c.args.s.now BLOCK (omega arith) (omega (arith, cut)) (rw cut.0 at (c.all_ascii.ensures c.if-all_ascii.true)))
