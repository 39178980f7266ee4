-- `sheet::total::add` adds the row of the first shipment that is left.
use Rattle.sheet.proofs.Totalling.{summing_on}
use Rattle.sheet.proofs.total.add.Goals as goal

pub loop-shipment-preserved : goal.loop-shipment-preserved
loop-shipment-preserved c =
    summing_on (rw c.in-Some.ensures.steps at c.loop-shipment.invariant) c.row_for.ensures.value c.plus.ensures c.in_ok-sums.was
