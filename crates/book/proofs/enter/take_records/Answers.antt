-- `book::enter::take_records` goes by the records, and enters the orders that were kept.
use mathlib.Core.Path.{◌≡◌, refl, ap, ◌∙◌}
use Rattle.acts.proofs.PassedOn.{passed_on}
use Rattle.epe.specs.Profile.{terms_for}
use Rattle.contents.specs.Steps.{Records, records_of, records_behind}
use Rattle.contents.specs.declared.stated.Stated.{Stated}
use Rattle.book.proofs.IntakeActs.{stated_as_set, opened, counted, contents_accepted, records_refused}
use Rattle.book.proofs.enter.take_records.Goals as goal
use Rattle.book.proofs.enter.take_records.Goals.{Start}

-- the terms that the header states are those of the name's kind
is_terms : (c : Start) → c.args.stated.terms ≡ terms_for c.args.profile c.args.name.kind
is_terms c = stated_as_set c.args.profile c.args.file.now c.requires.6 c.requires.4

-- what the records come to is what they come to behind the header
are_behind : (c : Start) {records : Records}
    → records ≡ records_of c.args.profile.fields c.args.stated.count c.args.stated.sum c.args.stated.terms c.args.file.now
    → records ≡ records_behind c.args.profile c.args.file.now
are_behind c told =
    told ∙ ap (λ (stated : Stated). records_of c.args.profile.fields stated.count stated.sum stated.terms c.args.file.now) c.requires.6

pub enter_behind-requires : goal.enter_behind-requires
enter_behind-requires c =
    let start = (goal.at.enter_behind-requires c).Start in (
      opened _ _ c.args.profile c.args.name c.args.file.now c.requires.0 c.requires.1 c.requires.2 c.requires.3 c.requires.4 (is_terms start),
      counted _ _ c.args.profile c.args.name c.args.file.now c.requires.0 c.requires.1 c.requires.2 c.requires.3 c.requires.4 (is_terms start) c.requires.5
          (are_behind start c.in_ok-accepted.ensures) refl,
    )

pub returns : goal.returns
returns c =
    let start = (goal.at.returns c).Start in
    contents_accepted _ _ c.args.profile c.args.name c.args.file.now c.requires.0 c.requires.1 c.requires.2 c.requires.3 c.requires.4 (is_terms start)
    c.requires.5 (are_behind start c.in_ok-accepted.ensures) refl c.enter_behind.ensures

pub returns-in_err-accepted : goal.returns-in_err-accepted
returns-in_err-accepted c =
    let start = (goal.at.returns-in_err-accepted c).Start in
    rw (passed_on c.from_residual.ensures.1)
    (records_refused _ _ c.args.profile c.args.name c.args.file.now c.requires.0 c.requires.1 c.requires.2 c.requires.3 c.requires.4 (is_terms start)
    c.requires.5 (are_behind start c.in_err-accepted.ensures) refl)
