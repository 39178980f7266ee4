-- `acts::place::find_called` looks at head after head.
use Rattle.acts.specs.Inner.Place.{called_in, place_from}
use Prim.Native.Nat.{◌-◌, ◌*◌, ◌≤◌}
use mathlib.Core.Path.{◌≡◌}
use Rattle.acts.proofs.place.find_called.Given as goal

abbrev pub invariant-loop-i : goal.invariant-loop-i
invariant-loop-i l = (l.row ≤ l.i * 65_536) × (place_from (called_in l.ident) l.memory l.i l.row (l.n - l.i) ≡ place_from (called_in l.ident) l.memory 0 0 l.n)
