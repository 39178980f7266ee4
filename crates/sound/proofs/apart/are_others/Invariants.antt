-- `sound::apart::are_others` asks head after head.
use mathlib.Core.Path.{◌≡◌}
use Prim.Native.Nat.{◌+◌, ◌-◌}
use Rattle.memory.specs.Layout.{head_bytes}
use Rattle.sound.specs.Inner.Walk.{others_from}
use Rattle.sound.proofs.apart.are_others.Given as goal

abbrev pub invariant-loop-j : goal.invariant-loop-j
invariant-loop-j l = others_from (head_bytes l.memory l.i) l.memory l.j (l.from + l.n - l.j) ≡ others_from (head_bytes l.memory l.i) l.memory l.from l.n
