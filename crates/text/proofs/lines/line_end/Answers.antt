-- `text::lines::line_end`: of the places of CR the first with an LF behind it.
use Rattle.std.proofs.Common.{rules, ap, ◌+◌, ◌∙◌}
use borrow.Author.Tests.{tests}
use Rattle.std.proofs.lemmas.Iterator.{first_from_find}
use Rattle.text.proofs.LineEnds.{LfBehind, NoLfBehind, line_found, each_in_turn}
use Rattle.text.proofs.lines.line_end.Goals as goal

pub returns : goal.returns
returns c =
    let behind = c.rest-behind.result.now in
    let found = first_from_find _ _ c.find.result (LfBehind behind) (NoLfBehind behind) c.find.ensures.ran (each_in_turn _) (λ x q k. search (rules, tests)) (λ x q k. search (rules, tests)) in
    ap (λ n. c.args.from + n) (c.unwrap_or.ensures ∙ line_found behind c.find.result (rw c.memchr_iter.ensures.value at found)) ∙ rw c.rest-behind.ensures
