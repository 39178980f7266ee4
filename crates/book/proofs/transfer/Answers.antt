-- `book::transfer` asks 10, 11 and 12 before the shipment is looked for.
use Rattle.std.proofs.Common.{refl, sym, ◌∙◌}
use Rattle.money.proofs.Sums.{no_transfer, a_transfer, transfer_within, grosze_is, money_is}
use Rattle.acts.proofs.PassedOn.{none_of, some_of, passed_on}
use Rattle.book.proofs.ShipmentOfCall.{untitled, titled, title_refused, amount_refused, seeks_named}
use Rattle.book.proofs.CallDoesStep.{does_no_book, does_refused}
use Rattle.book.proofs.transfer.Goals as goal

pub returns-then-not-is_sound : goal.returns-then-not-is_sound
returns-then-not-is_sound c = does_no_book refl (sym c.is_sound.ensures ∙ c.if-not-is_sound.true)

pub returns-in_err-title : goal.returns-in_err-title
returns-in_err-title c =
    let none = untitled _ _ c.in_err-title.ensures in
    rw (passed_on c.from_residual.ensures.1, none.1)
    (does_refused (sym c.is_sound.ensures ∙ c.if-not-is_sound.false) (title_refused c.args.title.now c.args.amount (sym c.read_title.ensures.verdict ∙ none.0)))

pub returns-in_err-sum : goal.returns-in_err-sum
returns-in_err-sum c =
    let title = titled _ _ c.in_ok-title.ensures in
    let none = none_of _ _ c.in_err-sum.ensures.value in
    rw (passed_on c.from_residual-in_err-sum.ensures.1, none.1)
    (does_refused (sym c.is_sound.ensures ∙ c.if-not-is_sound.false)
    (amount_refused c.args.title.now c.args.amount (sym c.read_title.ensures.verdict ∙ title.0)
    (no_transfer _ _ (sym none.0 ∙ c.of_transfer.ensures))))

pub transfer_to-requires : goal.transfer_to-requires
transfer_to-requires c =
    let one = a_transfer _ _ (sym (some_of _ _ c.in_ok-sum.ensures.value) ∙ c.of_transfer.ensures) in
    (sym c.is_sound.ensures ∙ c.if-not-is_sound.false, rw (grosze_is _ _ one.1) (transfer_within c.in_ok-title.title.money _ one.0))

pub returns : goal.returns
returns c =
    let title = titled _ _ c.in_ok-title.ensures in
    let one = a_transfer _ _ (sym (some_of _ _ c.in_ok-sum.ensures.value) ∙ c.of_transfer.ensures) in
    c.transfer_to.ensures.by_call _
    (rw (money_is _ _ one.1, grosze_is _ _ one.1)
    (seeks_named c.args.title.now c.args.amount (sym c.read_title.ensures.verdict ∙ title.0) (title.1 ∙ c.read_title.ensures.said) one.0))
