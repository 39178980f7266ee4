-- `contents::tally::tally_records` tallies and keeps the lines passed; with those that are left they give the whole.
use Rattle.std.proofs.Common.{arith}
use Rattle.epe.specs.Inner.Walk.{lines_from}
use Rattle.epe.proofs.LineWalk.{walked_out}
use Rattle.contents.proofs.TallyWalk.{going_end, Turn, turn_of, tallied_misshaped}
use Rattle.contents.proofs.tally.tally_records.Goals as goal
use Rattle.contents.proofs.tally.tally_records.Goals.{In_ok-order}

turn : (c : In_ok-order)
    → let start = c.args in
    let here = c.loop-at in
    Turn start.fields start.terms start.s.now start.from here.at here.tally start.kept.now here.kept c.in_ok-order.order c.line_end-end.result
turn c =
    let here = c.loop-at in
    turn_of _ _ _ _ here.at here.tally _ _ _ _ (omega arith) (omega arith) here.invariant c.line_end-end.ensures c.slice.ensures c.in_ok-order.order c.read_record.ensures.value c.in_ok-order.ensures.value

pub returns-in_err-order : goal.returns-in_err-order
returns-in_err-order c =
    let here = c.loop-at in
    rw c.from_residual.ensures
    (tallied_misshaped _ _ _ _ here.at here.tally _ _ _ _ (omega arith) (omega arith) here.invariant c.line_end-end.ensures c.slice.ensures c.read_record.ensures.value c.in_err-order.ensures.value)

pub keep-requires : goal.keep-requires
keep-requires c = (turn (goal.at.keep-requires c).In_ok-order).keepable

pub with_order-tally-requires : goal.with_order-tally-requires
with_order-tally-requires c = ((turn (goal.at.with_order-tally-requires c).In_ok-order).small, c.requires.1)

pub loop-at-smaller : goal.loop-at-smaller
loop-at-smaller c =
    let this = turn (goal.at.loop-at-smaller c).In_ok-order in
    omega (arith, (this.on _ _ _ c.with_order-tally.ensures c.keep.ensures c.after_line-at.ensures).1)

pub loop-at-preserved : goal.loop-at-preserved
loop-at-preserved c =
    let this = turn (goal.at.loop-at-preserved c).In_ok-order in
    (this.on _ _ _ c.with_order-tally.ensures c.keep.ensures c.after_line-at.ensures).0

pub returns : goal.returns
returns c =
    let end = c.loop-at in
    let start = c.args in
    going_end start.fields start.terms (lines_from start.from start.s.now) end.tally _ _
    (rw (walked_out start.s.now end.at (omega arith)) at end.invariant)
