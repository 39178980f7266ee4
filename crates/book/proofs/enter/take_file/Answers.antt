-- `book::enter::take_file` asks the opening and 101, then takes it in.
use mathlib.Core.Path.{sym}
use Rattle.acts.proofs.PassedOn.{passed_on}
use Rattle.book.proofs.IntakeActs.{opening_refused, terms_of_name, name_in_form_lem, known_at, taken_at}
use Rattle.book.proofs.enter.take_file.Goals as goal

pub returns-in_err-parts : goal.returns-in_err-parts
returns-in_err-parts c =
    rw (passed_on c.from_residual.ensures.1) (opening_refused _ _ _ _ c.requires.0 c.requires.1 (sym c.in_err-parts.ensures.verdict))

pub returns-then-is_some : goal.returns-then-is_some
returns-then-is_some c =
    let opened = c.in_ok-parts.ensures in
    known_at c.args.memory.now c.args.profile c.args.name.now c.args.file.now c.requires.0 c.requires.1 (sym opened.verdict) opened.parts
    (rw c.lent-lent.ensures at c.shipments-i.ensures.0) (rw c.lent-lent.ensures at c.find_called.ensures) c.is_some.ensures c.if-is_some.true

pub take_in-requires : goal.take_in-requires
take_in-requires c =
    let opened = c.in_ok-parts.ensures in (
      c.requires.0,
      c.requires.1,
      rw c.lent-lent.ensures at c.shipments-i.ensures.0,
      name_in_form_lem c.args.memory.now c.args.profile c.args.name.now c.args.file.now c.requires.0 c.requires.1 (sym opened.verdict) opened.parts,
      terms_of_name c.args.memory.now c.args.profile c.args.name.now c.args.file.now c.requires.0 c.requires.1 (sym opened.verdict) opened.parts,
    )

pub returns : goal.returns
returns c =
    let opened = c.in_ok-parts.ensures in
    taken_at c.args.memory.now c.args.profile c.args.name.now c.args.file.now c.requires.0 c.requires.1 (sym opened.verdict) opened.parts
    (rw c.lent-lent.ensures at c.shipments-i.ensures.0) (rw c.lent-lent.ensures at c.find_called.ensures) c.is_some.ensures c.if-is_some.false c.take_in.ensures
