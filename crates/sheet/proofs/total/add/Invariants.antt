-- `sheet::total::add` adds row after row: with those still to add they are all, and a total past the cap stays past it.
use Rattle.sheet.proofs.Totalling.{Summing}
use Rattle.sheet.proofs.total.add.Given as goal

abbrev pub invariant-loop-shipment : goal.invariant-loop-shipment
invariant-loop-shipment l = Summing l.initial.sums l.book l.shipment-iterator l.sums
