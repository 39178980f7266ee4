-- An empty book is made by its first byte.
-- Assumes nothing.
use mathlib.Core.Path.{refl}
use mathlib.Core.List.{List}
use Prim.Native.Nat.{ℕ, ◌≤◌, ◌<◌}
use native.Mathlib.Omega.{arith}
use lib.ListN.{length, set, length-set}
use lib.Seq.{get_or-set_other}
use Rattle.model.specs.Calls.{Refused, Done}
use Rattle.memory.specs.Layout.{size}
use Rattle.memory.proofs.ReadLaws.{empty_is_read}
use Rattle.book.specs.Does.{MakesEmpty}

module _ (m : List ℕ) where
  pub none_made : length m < size → MakesEmpty m (Refused 10) m
  none_made short = record {
    too_short = λ h. (refl, refl);
    makes = λ enough. absurd (omega arith);
    elsewhere = λ j h. refl;
    as_long = refl;
  }

  pub made : size ≤ length m → MakesEmpty m Done (set m 0 0)
  made enough = record {
    too_short = λ short. absurd (omega arith);
    makes = λ h. (refl, empty_is_read m enough);
    elsewhere = λ j h. get_or-set_other m 0 j 0 0 (omega arith);
    as_long = length-set m 0 0;
  }
