-- `write::Writer::put_field`: the text, and a bar behind it.
use Rattle.write.proofs.Pieces.{writes_then}
use Rattle.write.proofs.Writer.put_field.Goals as goal

pub returns : goal.returns
returns c = writes_then c.put_bytes.ensures c.put_byte.ensures
