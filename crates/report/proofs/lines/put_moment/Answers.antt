-- `report::lines::put_moment`: the digits, and what stands behind them.
use Rattle.write.proofs.Pieces.{writes_then}
use Rattle.report.specs.Inner.Pieces.{moment_text}
use Rattle.report.proofs.lines.put_moment.Goals as goal

pub returns : goal.returns
unfolding moment_text
returns c = writes_then c.put_digits.ensures c.put_text.ensures
