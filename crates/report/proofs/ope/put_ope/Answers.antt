-- `report::ope::put_ope`: the opening, how many orders there are, and their records.
use Rattle.write.proofs.Pieces.{writes_then}
use Rattle.report.specs.Inner.Pieces.{start_text}
use Rattle.report.specs.Inner.Faults.{ope_text}
use Rattle.report.proofs.ope.put_ope.Goals as goal

pub returns : goal.returns
unfolding start_text ope_text
returns c = writes_then c.put_opening.ensures (writes_then c.put_number.ensures c.put_records.ensures)
