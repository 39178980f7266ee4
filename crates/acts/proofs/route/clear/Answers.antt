-- `acts::route::clear` clears row after row, and counts each wait once.
use mathlib.Core.Path.{◌≡◌, ◌∙◌}
use native.Mathlib.Omega.{arith}
use Rattle.memory.proofs.HeadFields.{orders_are}
use Rattle.acts.proofs.Returns.{none_cleared, one_more_cleared, worth_is, all_cleared}
use Rattle.acts.proofs.route.clear.Goals as goal

pub loop-done-init : goal.loop-done-init
loop-done-init c = (λ route is. none_cleared, omega arith, omega arith, omega arith)

pub clear_row-taken-requires : goal.clear_row-taken-requires
clear_row-taken-requires c =
    let m = c.args.memory.now in
    let is_head = c.at.ensures in
    let count_is = orders_are m c.args.place.head c.args.place.row _ is_head _ c.rows.ensures c.len-n.ensures.0 in
    let cleared = c.loop-done.invariant.0 c.args.route c.wait_table-table.ensures in (
      omega (arith, count_is, c.requires.0.room),
      rw cleared.returned.only.as_long c.requires.0.enough,
      record { route = c.args.route; money = c.args.money; is = c.wait_table-table.ensures },
      omega arith,
      omega arith,
    )

pub loop-done-preserved : goal.loop-done-preserved
loop-done-preserved c =
    let row = c.clear_row-taken in
    let count_is = orders_are c.args.memory.now c.args.place.head c.args.place.row _ c.at.ensures _ c.rows.ensures c.len-n.ensures.0 in (
      λ route is. one_more_cleared (omega (arith, count_is, c.requires.0.room, c.loop-done-test.true)) (c.loop-done.invariant.0 route is) (row.ensures.0 route is),
      omega (arith, c.loop-done-test.true),
      omega (arith, row.ensures.1, c.loop-done.invariant.2),
      omega (arith, row.ensures.2, c.loop-done.invariant.3),
    )

pub of-sum-requires : goal.of-sum-requires
of-sum-requires c =
    let m = c.args.memory.now in
    let is_head = c.at.ensures in
    let count_is = orders_are m c.args.place.head c.args.place.row _ is_head _ c.rows.ensures c.len-n.ensures.0 in
    let cleared = c.loop-done.invariant.0 c.args.route c.wait_table-table.ensures in
    let all : c.loop-done.done ≡ c.len-n.result = omega (arith, c.loop-done-test.false) in
    rw (worth_is m c.args.place.head c.args.place.row (rw (all ∙ count_is) at cleared) c.wait_of-wait.ensures.0) c.requires.1

pub shape_of-memory : goal.shape_of-memory
shape_of-memory c =
    (c.loop-done.invariant.0 c.args.route c.wait_table-table.ensures).returned.only.as_long

pub returns : goal.returns
returns c =
    let m = c.args.memory.now in
    let is_head = c.at.ensures in
    let count_is = orders_are m c.args.place.head c.args.place.row _ is_head _ c.rows.ensures c.len-n.ensures.0 in
    let cleared = c.loop-done.invariant.0 c.args.route c.wait_table-table.ensures in
    let all : c.loop-done.done ≡ c.len-n.result = omega (arith, c.loop-done-test.false) in
    all_cleared m c.args.place.head c.args.place.row (rw (all ∙ count_is) at cleared) c.wait_of-wait.ensures.0 c.of-sum.ensures
