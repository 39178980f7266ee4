-- `write::grosze::put_money`: zlote, the point, two digits of grosze.
use Rattle.write.specs.Money.{money_text}
use Rattle.write.proofs.Pieces.{writes_then}
use Rattle.write.proofs.grosze.put_money.Goals as goal

pub returns : goal.returns
unfolding money_text
returns c = writes_then c.put_number.ensures (writes_then c.put_byte.ensures c.put_digits.ensures)
