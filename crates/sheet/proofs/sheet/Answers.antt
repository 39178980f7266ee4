-- `sheet::sheet` fills the table where every question is answered yes, and leaves it where one is answered no.
use borrow.Author.Rules.{rules}
use mathlib.Core.Path.{sym, ap, ◌∙◌}
use Rattle.std.specs.Result.{result_ok}
use Rattle.sound.proofs.Standing.{is_book}
use Rattle.sound.proofs.Standing as book
use Rattle.sheet.proofs.Filled.{no_book, no_room, above_cap, is_filled}
use Rattle.sheet.proofs.sheet.Goals as goal

pub returns-in_err-book : goal.returns-in_err-book
returns-in_err-book c =
    let left = no_book c.args.book.now c.args.table.now c.args.totals.now
    (book.no_book _ (sym (c.ok_or.ensures.ok_part ∙ ap result_ok c.in_err-book.was) ∙ c.of.ensures)) in
    search (rules, left)

pub returns-then-table-n : goal.returns-then-table-n
returns-then-table-n c =
    no_room _ _ _ (is_book _ (sym (c.ok_or.ensures.ok_part ∙ ap result_ok c.in_ok-book.was) ∙ c.of.ensures)) c.len-n.ensures.0 c.if-table-n.true

pub returns-in_err-sums : goal.returns-in_err-sums
returns-in_err-sums c =
    let found = is_book _ (sym (c.ok_or.ensures.ok_part ∙ ap result_ok c.in_ok-book.was) ∙ c.of.ensures) in
    let left = above_cap c.args.book.now c.args.table.now c.args.totals.now found c.len-n.ensures.0 c.if-table-n.false c.add.ensures
    (c.ok_or-2.ensures.ok_part ∙ ap result_ok c.in_err-sums.was) in
    search (rules, left)

pub returns : goal.returns
returns c =
    let found = is_book _ (sym (c.ok_or.ensures.ok_part ∙ ap result_ok c.in_ok-book.was) ∙ c.of.ensures) in
    is_filled _ _ _ found c.len-n.ensures.0 c.if-table-n.false c.add.ensures c.ok_or-2.ensures.ok_part c.in_ok-sums.was c.fill.ensures
