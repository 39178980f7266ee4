-- `text::utf8::all_ascii` meets its contract: bits that are joined are ASCII only where each octet was.
use mathlib.Core.Bool.{true}
use mathlib.Core.Path.{◌≡◌}
use Prim.Native.Nat.{ℕ, ◌<◌}
use lib.ListN.{get_or}
use Rattle.text.specs.Utf8.{ascii}
use Rattle.text.proofs.utf8.all_ascii.Given as goal

abbrev pub invariant-loop-b : goal.invariant-loop-b
invariant-loop-b l = ascii l.bits ≡ true → (k : ℕ) → k < l.b-index → ascii (get_or l.s k 0) ≡ true
