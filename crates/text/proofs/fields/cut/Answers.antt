-- `text::fields::cut`: the cuts noted, then zeros.
use Rattle.std.proofs.Common.{rules, ◌≡◌, ◌-◌, arith, length}
use Rattle.text.specs.Fields.{cuts, cut_table, cut_count}
use Rattle.text.proofs.Cuts.{padded}
use Rattle.text.proofs.fields.cut.Goals as goal

pub returns-clause-table_after : goal.returns-clause-table_after
unfolding cut_table cut_count
returns-clause-table_after c =
    let noted = c.note_cuts-count.ensures in
    let parts = c.split_at_mut-behind.ensures in
    let filled = c.fill.ensures.after (λ y k. search rules) in
    let behind : length c.split_at_mut-behind.result.1.now ≡ length c.args.table.now - c.note_cuts-count.result = omega arith in
    rw (parts.front, filled, noted.table_after, behind, noted.value) (padded (length c.args.table.now) (cuts c.args.separator c.args.s.now))
