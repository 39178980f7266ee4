-- Which moneys a row's state holds, as the sheet takes it. Only the contracts below the sheet need these.
use Rattle.std.specs.Prelude.{List, ℕ, ◌+◌}
use Rattle.money.specs.declared.Money.TheVariants.{K, O}
use Rattle.model.specs.Shipment.{only_if, holds}
use Rattle.model.specs.declared.State.{State}
use Rattle.memory.specs.States.{last_code, state_of}
use Rattle.memory.specs.Inner.Table.{listed}

-- Which moneys an order in a state holds in a Paired shipment, as one number: 1 for K, and 2 more for O.
abbrev pub holding_of : State → ℕ
holding_of state = only_if (holds K state) 1 + only_if (holds O state) 2

-- That of the state that each byte says, up to the last, and one entry for all bytes behind it, which say none.
unfoldable pub holding_table : List ℕ
holding_table = listed (λ code. holding_of (state_of code)) 0 (last_code + 2)
