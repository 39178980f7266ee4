-- What waits in a shipment, as code adds it up; and rows as a return leaves them.
use Rattle.std.specs.Prelude.{◌≡◌, Bool, false, ◌&&◌, List, ℕ, ◌+◌, ◌*◌, eqb}
use Rattle.money.specs.Money.{sum_of}
use Rattle.money.specs.declared.Money.{Money}
use Rattle.money.specs.declared.Money.TheVariants.{O}
use Rattle.model.specs.Shipment.{by_money, Shipment, only_if, sum_over, worth}
use Rattle.model.specs.Calls.{waits_on, after_return, waiting, waiting_orders}
use Rattle.model.specs.declared.Route.{Route}
use Rattle.model.specs.declared.Row.{Row}
use Rattle.memory.specs.Layout.{row_bytes}
use Rattle.memory.specs.Rows.{row_of}
use Rattle.memory.specs.Read.{orders_at, shipment_at}
use Rattle.memory.specs.Inner.Returns.{RowReturned}
use Rattle.acts.specs.declared.answer.Returned.{Returned}
use Rattle.acts.specs.declared.route.Taken.{Taken}
use Rattle.acts.specs.Inner.Place.{RowsStored}

-- What waits in some rows.
abbrev pub worth_waiting : Route → Money → List Row → ℕ
worth_waiting route money rows = sum_over (λ (row : Row). only_if (waits_on route money row) (worth money row)) rows

-- Where the flat part is 0 an order that waits may be worth nothing in O: whether all that wait on a route are.
abbrev pub fees_wait_in_vain : Route → Shipment → Bool
fees_wait_in_vain route s = eqb s.agreed.terms.flat.0 0 && eqb (waiting route O s) 0

abbrev pub waits_in_vain : Route → Money → Shipment → Bool
waits_in_vain route money s = by_money money false (fees_wait_in_vain route s)

-- Row k is as a return leaves it. What was taken from its byte of state is counted, and as many times the order's worth added up.
pub record RowCleared (route : Route) (money : Money) (k : ℕ) (before : Taken) (m m' : List ℕ) (after : Taken) : Type 0 where
  pub taken : ℕ
  pub row : RowReturned route money k m m' taken
  pub added : after.worth ≡ before.worth + worth money (row_of (row_bytes m k)) * taken
  pub counted : after.count ≡ before.count + taken

-- Each of n rows from the k-th on is as a return leaves it, and nothing else moves.
abbrev pub RowsReturned : Route → Money → ℕ → ℕ → List ℕ → List ℕ → Type 0
RowsReturned route money k n m m' = RowsStored (λ r. after_return route money (row_of (row_bytes m r))) k n m m'

-- So are all rows of the shipment at a place, and what waited in them is found. Where it was of no order, no byte moves.
pub record Cleared (route : Route) (money : Money) (i k : ℕ) (m m' : List ℕ) (waited : Returned) : Type 0 where
  pub sum : waited.sum ≡ sum_of money (waiting route money (shipment_at m i k))
  pub count : waited.count ≡ waiting_orders route money (shipment_at m i k)
  pub returned : RowsReturned route money k (orders_at m i) m m'
  pub still : waited.count ≡ 0 → m' ≡ m
