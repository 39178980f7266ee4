-- `report::rkf::put_rkf`: the opening, and behind it the result, and of a refusal its record.
use mathlib.Core.List.{◌++◌}
use borrow.Author.Tests.{eq-eqb, ne_eqb}
use Rattle.text.specs.Quoted.{bytes}
use Rattle.write.proofs.Pieces.{room_first, room_behind, writes_then}
use Rattle.report.specs.Inner.Pieces.{start_text, record_text}
use Rattle.report.proofs.Texts.{rkf_accepted, rkf_refused, opening_room}
use Rattle.report.proofs.rkf.put_rkf.Goals as goal

pub put_opening-requires : goal.put_opening-requires
unfolding start_text
put_opening-requires c = opening_room _ _ _ _ c.requires

pub put_text-requires : goal.put_text-requires
unfolding start_text
put_text-requires c =
    let text = rkf_accepted c.args.header.now.own.now c.args.header.now.created c.args.header.now.source.now c.args.refusal (eq-eqb c.args.refusal 0 c.if-refusal-eq0.true) in
    room_behind _ (bytes "1") (rw text at c.requires) c.put_opening.ensures

pub returns-then-refusal-eq0 : goal.returns-then-refusal-eq0
unfolding start_text
returns-then-refusal-eq0 c =
    rw (rkf_accepted c.args.header.now.own.now c.args.header.now.created c.args.header.now.source.now c.args.refusal (eq-eqb c.args.refusal 0 c.if-refusal-eq0.true)) (writes_then c.put_opening.ensures c.put_text.ensures)

pub put_text-requires-2 : goal.put_text-requires-2
unfolding start_text
put_text-requires-2 c =
    let text = rkf_refused c.args.header.now.own.now c.args.header.now.created c.args.header.now.source.now c.args.refusal (ne_eqb c.args.refusal 0 c.if-refusal-eq0.false) in
    room_first (bytes "0") (record_text 1 0 c.args.refusal) (room_behind _ (bytes "0" ++ record_text 1 0 c.args.refusal) (rw text at c.requires) c.put_opening.ensures)

pub put_record-requires : goal.put_record-requires
unfolding start_text
put_record-requires c =
    let text = rkf_refused c.args.header.now.own.now c.args.header.now.created c.args.header.now.source.now c.args.refusal (ne_eqb c.args.refusal 0 c.if-refusal-eq0.false) in
    room_behind (bytes "0") (record_text 1 0 c.args.refusal)
    (room_behind _ (bytes "0" ++ record_text 1 0 c.args.refusal) (rw text at c.requires) c.put_opening.ensures) c.put_text-2.ensures

pub returns : goal.returns
unfolding start_text
returns c =
    rw (rkf_refused c.args.header.now.own.now c.args.header.now.created c.args.header.now.source.now c.args.refusal (ne_eqb c.args.refusal 0 c.if-refusal-eq0.false)) (writes_then c.put_opening.ensures (writes_then c.put_text-2.ensures c.put_record.ensures))
