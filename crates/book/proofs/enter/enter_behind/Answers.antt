-- `book::enter::enter_behind` asks 903 and 904, then enters.
use Rattle.book.proofs.IntakeActs.{no_shipment_left, from_within, entered_behind}
use Rattle.book.proofs.enter.enter_behind.Goals as goal

pub returns-then-i-ge-MOST_SHIPMENTS : goal.returns-then-i-ge-MOST_SHIPMENTS
returns-then-i-ge-MOST_SHIPMENTS c = no_shipment_left _ _ _ _ _ _ _ c.requires.0 c.if-i-ge-MOST_SHIPMENTS.true

pub overflow_sub-k : goal.overflow_sub-k
overflow_sub-k c =
    from_within _ _ c.args.name c.args.terms c.args.accepted.orders c.args.accepted.faulty c.args.kept.now c.requires.0 c.if-i-ge-MOST_SHIPMENTS.false (rw c.lent.ensures at c.rows_of-k.ensures.value)

pub returns : goal.returns
returns c =
    entered_behind _ _ _ _ _ _ _ c.requires.0 c.if-i-ge-MOST_SHIPMENTS.false (rw c.lent.ensures at c.rows_of-k.ensures.value) c.requires.1 c.if-k-n.false c.enter.ensures
