-- `contents::judge::judge_records` is `records_of`: the records are tallied and kept, the tally judged, and the table cleared where it refuses.
use Rattle.std.proofs.Common.{arith, ap, ◌∙◌}
use Rattle.contents.specs.Contents.{NotAccepted, orders_read}
use Rattle.contents.specs.Kept.{kept_from}
use Rattle.contents.specs.Steps.{kept_where}
use Rattle.contents.proofs.TallyJudges.{records_judged, records_kept, records_beyond, records_within}
use Rattle.contents.proofs.judge.judge_records.Goals as goal

pub returns-then-fields-gt32 : goal.returns-then-fields-gt32
returns-then-fields-gt32 c =
    (λ t. record { judged = NotAccepted 901; kept = c.requires.0 t }) ∙ records_beyond c.args.fields _ _ _ _ c.if-fields-gt32.true

pub returns : goal.returns
returns c =
    let kept = records_kept c.args.file.now _ c.args.fields c.args.stated.terms c.body_of-s.ensures c.line_end.ensures c.after_line.ensures c.tally_records-tally.ensures ∙ ap (λ table. kept_from table 0 (orders_read c.args.fields c.args.file.now)) c.requires.0 in
    records_within c.args.fields c.args.stated.count c.args.stated.sum c.args.stated.terms c.args.file.now (omega arith)
    (c.judge_tally-judged.ensures ∙ records_judged c.args.file.now _ c.args.fields c.args.stated.terms c.body_of-s.ensures c.line_end.ensures c.after_line.ensures c.tally_records-tally.ensures _ _) (c.keep_accepted.ensures ∙ ap (kept_where _) kept)
