-- `report::lines::put_record`: four pieces, one behind the other.
use Rattle.write.proofs.Pieces.{writes_then}
use Rattle.report.specs.Inner.Pieces.{record_text}
use Rattle.report.proofs.lines.put_record.Goals as goal

pub returns : goal.returns
unfolding record_text
returns c = writes_then c.put_text.ensures (writes_then c.put_number_field.ensures (writes_then c.put_number_field-2.ensures c.put_digits.ensures))
