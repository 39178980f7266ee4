-- `epe::ident::padded` copies byte by byte: the first i are those of the text with zeros behind it.
use mathlib.Core.Path.{◌≡◌}
use mathlib.Core.List.{◌++◌}
use lib.ListN.{length, take, replicate}
use Rattle.epe.proofs.ident.padded.Given as goal

abbrev pub invariant-loop-i : goal.invariant-loop-i
invariant-loop-i l = (length l.bytes ≡ 17) × (take l.i l.bytes ≡ take l.i (l.s ++ replicate 17 0))
