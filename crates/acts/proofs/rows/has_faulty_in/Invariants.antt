-- `acts::rows::has_faulty_in` joins the bytes of state.
use Rattle.acts.proofs.RowWalks.{Looking}
use Rattle.acts.proofs.rows.has_faulty_in.Given as goal

abbrev pub invariant-loop-row : goal.invariant-loop-row
invariant-loop-row l = Looking l.fn.rows l.row-iterator l.bits
