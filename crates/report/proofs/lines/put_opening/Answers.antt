-- `report::lines::put_opening`: four pieces, one behind the other.
use Rattle.write.proofs.Pieces.{writes_then}
use Rattle.report.specs.Inner.Pieces.{opening_text}
use Rattle.report.proofs.lines.put_opening.Goals as goal

pub returns : goal.returns
unfolding opening_text
returns c = writes_then c.put_text.ensures (writes_then c.put_field.ensures (writes_then c.put_moment.ensures c.put_field-2.ensures))
