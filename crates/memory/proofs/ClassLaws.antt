-- What soundness asks of a state, by its byte alone, computed at each of the 256.
-- Assumes nothing.
use mathlib.Core.Path.{◌≡◌, refl}
use mathlib.Core.Bool.{Bool, not, ◌&&◌, ◌||◌}
use mir.Val.{bool_byte}
use Prim.Native.Nat.{ℕ, ◌+◌, ◌*◌, ◌%◌, ◌<◌}
use borrow.Author.Tests.{eqb-true}
use lib.Dec.{eqb, leb, ltb}
use Rattle.text.specs.Bytes.{between}
use Rattle.calendar.proofs.Computed.{each}
use Rattle.memory.specs.States.{last_code, state_of}
use Rattle.memory.specs.Inner.Classes.{class_of}

-- the three questions, as code asks them
abbrev pub says_none : ℕ → Bool
says_none code = ltb last_code code || (eqb code 3 || (eqb code 6 || eqb code 7))

abbrev pub says_fault : ℕ → Bool
says_fault code = says_none code || leb 12 code

abbrev pub says_early : ℕ → Bool
says_early code = eqb code 0 || (between 12 last_code code && eqb (code % 4) 3)

abbrev pub class_by : ℕ → ℕ
class_by code = bool_byte (says_fault code) + (2 * bool_byte (not (says_early code)) + 4 * bool_byte (says_none code))

class_right : ℕ → Bool
class_right code = eqb (class_by code) (class_of (state_of code))

pub class_by_code : (code : ℕ) → code < 256 → class_by code ≡ class_of (state_of code)
unfolding class_right state_of
class_by_code code byte = eqb-true (class_by code) (class_of (state_of code)) (each class_right 256 refl code byte)
