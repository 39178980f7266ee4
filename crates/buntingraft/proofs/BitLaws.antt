-- What is said of an extra field is read again in its bits.
-- Assumes nothing.
use mathlib.Core.Path.{◌≡◌, refl}
use mathlib.Core.Bool.{Bool, true, false}
use Rattle.buntingraft.specs.Exports.{bits_of, said_in, BitsSayIt}

pub bits_say_it : BitsSayIt
unfolding bits_of said_in
bits_say_it said = go said.empty said.fails said.spaced
  where
    go : (none failing wide : Bool) → said_in (bits_of (record { empty = none; fails = failing; spaced = wide })) ≡ record { empty = none; fails = failing; spaced = wide }
    go true true true = refl
    go true true false = refl
    go true false true = refl
    go true false false = refl
    go false true true = refl
    go false true false = refl
    go false false true = refl
    go false false false = refl
