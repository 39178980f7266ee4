-- `sound::shipment::are_sound` asks shipment after shipment, each where the rows of the one before end.
use mathlib.Core.Path.{◌≡◌}
use Prim.Native.Nat.{◌-◌, ◌≤◌}
use Rattle.model.specs.Shipment.{most_rows}
use Rattle.sound.specs.Inner.Walk.{sound_from}
use Rattle.sound.proofs.shipment.are_sound.Given as goal

abbrev pub invariant-loop-i : goal.invariant-loop-i
invariant-loop-i l = (l.k ≤ most_rows) × (sound_from l.memory l.i l.k (l.n - l.i) ≡ sound_from l.memory 0 0 l.n)
