-- What an order holds, by the table of the bytes of state.
-- Assumes nothing.
use mathlib.Core.Path.{◌≡◌, refl, ap, ◌∙◌}
use mathlib.Core.Bool.{Bool}
use mathlib.Core.List.{List}
use Prim.Native.Nat.{ℕ, min, ◌+◌, ◌<◌}
use borrow.Author.Tests.{eqb-true}
use lib.Dec.{eqb}
use lib.ListN.{length, get_or}
use Rattle.calendar.proofs.Computed.{each}
use Rattle.memory.specs.States.{last_code, state_of}
use Rattle.memory.specs.Inner.Holdings.{holding_of, holding_table}

-- what an order holds, at each byte
held_right : ℕ → Bool
held_right code = eqb (get_or holding_table (min code (last_code + 1)) 0) (holding_of (state_of code))

module _ (table : List ℕ) (table_is : table ≡ holding_table) where
  pub holdings_long : length table ≡ last_code + 2
  unfolding holding_table
  holdings_long = ap length table_is

  pub holding_there : (code : ℕ) → code < 256 → get_or table (min code (last_code + 1)) 0 ≡ holding_of (state_of code)
  unfolding held_right holding_table state_of
  holding_there code byte = ap (λ t. get_or t (min code (last_code + 1)) 0) table_is ∙ eqb-true _ _ (each held_right 256 refl code byte)
