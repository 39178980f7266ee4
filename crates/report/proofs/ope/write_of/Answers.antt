-- `report::ope::write_of` asks 31 and 30 of what a pass over the rows found, and then writes.
use native.Mathlib.Omega.{arith}
use mathlib.Core.Path.{sym, ap, ◌∙◌}
use mathlib.Core.List.{List}
use Prim.Native.Nat.{ℕ}
use lib.ListN.{length}
use Rattle.std.specs.Result.{result_ok}
use Rattle.report.specs.Ope.{faulty_from}
use Rattle.write.proofs.Pieces.{room_whole}
use Rattle.report.proofs.OpeAnswers.{ope_fits, ope_own, ope_found, ope_measured}
use Rattle.report.proofs.ope.write_of.Goals as goal

pub ope_length-length-requires : goal.ope_length-length-requires
ope_length-length-requires c =
    let given = c.args in
    let header = given.header.now in
    let rows = given.rows.now in
    let is_found = c.ok_or.ensures.ok_part ∙ ap result_ok c.in_ok-found.was in
    let fitting = ope_fits header.own.now header.created given.codes.now.table.now header.source.now rows c.faults_in.ensures.value is_found in (
      ope_own header.own.now header.created given.codes.now.table.now (faulty_from 1 rows) (fitting (sym c.is_header.ensures ∙ c.if-not-is_header.false)),
      c.requires,
      rw is_found at c.faults_in.ensures.short,
    )

pub put_ope-requires : goal.put_ope-requires
put_ope-requires c =
    let given = c.args in
    let header = given.header.now in
    let rows = given.rows.now in
    let is_found = c.ok_or.ensures.ok_part ∙ ap result_ok c.in_ok-found.was in
    let measured = ope_measured header.own.now header.created given.codes.now.table.now header.source.now rows c.faults_in.ensures.value is_found in
    let same = ap (λ (t : List ℕ). length t) (ope_found header.own.now header.created given.codes.now.table.now header.source.now rows c.faults_in.ensures.value is_found) in
    let asked = c.ope_length-length.ensures in
    room_whole c.new.ensures.place c.new.ensures.output_after (omega arith)
