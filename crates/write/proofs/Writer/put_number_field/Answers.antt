-- `write::Writer::put_number_field`: the number, and a bar behind it.
use Rattle.write.proofs.Pieces.{writes_then}
use Rattle.write.proofs.Writer.put_number_field.Goals as goal

pub returns : goal.returns
returns c = writes_then c.put_number.ensures c.put_byte.ensures
