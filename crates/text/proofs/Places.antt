-- A list from a place on, as a loop that reads `s[i]` and goes on to `i + 1` meets it, and parts of a list that reach past its end.
-- Assumes nothing.
use mathlib.Core.Path.{◌≡◌}
use mathlib.Core.List.{List, ◌∷◌}
use Prim.Native.Nat.{ℕ, ◌+◌, ◌-◌, ◌<◌}
use native.Mathlib.Nat.{sub-zero}
use native.Mathlib.Numerals.{add-one}
use native.Mathlib.Omega.{arith}
use lib.ListN.{length, get_or, take, drop, length-drop}
use lib.Seq.{drop-cons, take_all}
use Rattle.text.specs.Bytes.{part}

pub from_here : (s : List ℕ) (i : ℕ) → i < length s → drop i s ≡ get_or s i 0 ∷ drop (i + 1) s
from_here s i h = rw (add-one, drop-cons s i 0)

pub part_from_start : (s : List ℕ) (n : ℕ) → part 0 n s ≡ take n s
part_from_start s n = rw (sub-zero n)

pub part_to_end : (s : List ℕ) (n : ℕ) → part n (length s) s ≡ drop n s
part_to_end s n = take_all (length s - n) (drop n s) (omega (arith, length-drop n s))
