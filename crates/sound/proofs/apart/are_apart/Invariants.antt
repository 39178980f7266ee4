-- `sound::apart::are_apart` asks of head after head whether those behind it are of others.
use mathlib.Core.Path.{◌≡◌}
use Prim.Native.Nat.{◌-◌}
use Rattle.sound.specs.Inner.Walk.{apart_from}
use Rattle.sound.proofs.apart.are_apart.Given as goal

abbrev pub invariant-loop-i : goal.invariant-loop-i
invariant-loop-i l = apart_from l.memory l.i (l.n - l.i) ≡ apart_from l.memory 0 l.n
