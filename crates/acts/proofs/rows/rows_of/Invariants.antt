-- `acts::rows::rows_of` adds up head after head.
use mathlib.Core.Path.{◌≡◌}
use Prim.Native.Nat.{◌+◌, ◌-◌, ◌*◌, ◌≤◌}
use Rattle.model.specs.Book.{rows_in}
use Rattle.memory.specs.Read.{shipments_from}
use Rattle.acts.proofs.rows.rows_of.Given as goal

abbrev pub invariant-loop-i : goal.invariant-loop-i
invariant-loop-i l =
    (l.k ≤ l.i * 65_536) × (l.k + rows_in (shipments_from l.memory l.i l.k (l.n - l.i)) ≡ rows_in (shipments_from l.memory 0 0 l.n))
