-- A return in a row, by its byte of state alone. Only the contracts below the routes need these.
use Rattle.std.specs.Prelude.{◌≡◌, Bool, false, cond, ◌&&◌, List, ℕ, ◌-◌, ◌<◌, length, get_or}
use Rattle.money.specs.declared.Money.{Money}
use Rattle.model.specs.Shipment.{by_money, only_if, waits}
use Rattle.model.specs.Calls.{takes, waits_on, cleared, after_return}
use Rattle.model.specs.declared.Route.{Route}
use Rattle.model.specs.declared.Route.TheVariants.{Zwr, Opr, Zpr, Zzr}
use Rattle.model.specs.declared.State.{State}
use Rattle.memory.specs.Layout.{row_bytes, OnlyRow}
use Rattle.memory.specs.States.{k_waits, o_waits, says_undelivered, says_withdrawn, says_faulty}
use Rattle.memory.specs.Rows.{row_of}

-- A return by a route of what waits of a money, as far as one state goes; and by its byte alone.
abbrev pub waits_in : Route → Money → State → Bool
waits_in route money state = takes route state && waits money state

abbrev pub state_after : Route → Money → State → State
state_after route money state = cond (waits_in route money state) (cleared money state) state

abbrev pub route_has : Route → ℕ → Bool
route_has Zwr code = false
route_has Opr code = says_faulty code
route_has Zpr code = says_undelivered code
route_has Zzr code = says_withdrawn code

abbrev pub code_waits : Route → Money → ℕ → Bool
code_waits route money code = route_has route code && by_money money (k_waits code) (o_waits code)

abbrev pub wait_in : Route → Money → ℕ → ℕ
wait_in route money code = only_if (code_waits route money code) (by_money money 1 2)

abbrev pub code_after : Route → Money → ℕ → ℕ
code_after route money code = code - wait_in route money code

-- The table of a route and a money: what the wait of the money on the route adds to each byte, 0 where there is none.
pub record WaitTable (route : Route) (money : Money) (table : List ℕ) : Type 0 where
  pub long : length table ≡ 256
  pub told : (code : ℕ) → code < 256 → get_or table code 0 ≡ wait_in route money code

-- The table of some route and some money.
pub record IsWaitTable (table : List ℕ) : Type 0 where
  pub route : Route
  pub money : Money
  pub is : WaitTable route money table

-- Row k is as a return leaves it, and nothing else moves. Where nothing was taken from its byte of state, no byte moves.
pub record RowReturned (route : Route) (money : Money) (k : ℕ) (m m' : List ℕ) (taken : ℕ) : Type 0 where
  pub row : row_of (row_bytes m' k) ≡ after_return route money (row_of (row_bytes m k))
  pub only : OnlyRow k m m'
  pub took : taken ≡ only_if (waits_on route money (row_of (row_bytes m k))) (by_money money 1 2)
  pub still : taken ≡ 0 → m' ≡ m
