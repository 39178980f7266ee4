-- Orders kept in a table of numbers, one to an entry: those that a file was found to have while it was judged.
use Rattle.std.specs.Prelude.{◌≡◌, cond, List, [], ◌∷◌, ℕ, zero, suc, ◌+◌, ◌*◌, ◌/◌, ◌%◌, ◌≤◌, length, get_or, set}
use Rattle.money.specs.Money.{amount, is_order_amount, WithinOrder}
use Rattle.contents.specs.Accepted.{EachInRange}
use Rattle.contents.specs.declared.record.Order.{Order}

-- An order that an entry of 64 bits has room for.
pub record Keepable (order : Order) : Type 0 where
  pub to_the_cap : WithinOrder order.amount.0
  pub fault_known : order.fault ≤ 10

-- An order as one number: sixteen times its amount, and its fault.
abbrev pub kept_code : Order → ℕ
kept_code order = order.amount.0 * 16 + order.fault

-- The order that a number says. What is above an order's amount is none, and reads 0.
unfoldable pub order_from : ℕ → Order
order_from code = record { amount = amount (cond (is_order_amount (code / 16)) (code / 16) 0); fault = code % 16 }

-- The order that entry j of a table keeps, and those that n entries from the j-th on keep. Past the table's end it is as of an entry of 0.
abbrev pub order_in : List ℕ → ℕ → Order
order_in table j = order_from (get_or table j 0)

unfoldable pub orders_in : List ℕ → ℕ → ℕ → List Order
orders_in table j zero = []
orders_in table j (suc n) = order_in table j ∷ orders_in table (j + 1) n

-- The table after some orders were kept in it, one after the other from entry j on. An order that it has no entry for is not kept,
-- and the entries before j and behind the last order are as they were.
unfoldable pub kept_from : List ℕ → ℕ → List Order → List ℕ
kept_from table j [] = table
kept_from table j (order ∷ orders) = kept_from (set table j (kept_code order)) (j + 1) orders

-- Where a table has room for all of them, the orders that were kept are there, in their order.
abbrev pub KeptInOrder : Type 0
KeptInOrder = (table : List ℕ) (orders : List Order) → EachInRange orders → length orders ≤ length table
    → orders_in (kept_from table 0 orders) 0 (length orders) ≡ orders
