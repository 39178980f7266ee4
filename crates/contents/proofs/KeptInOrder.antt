-- Orders that were kept in a table are there, each in its place, and an order is read from its number.
-- Assumes nothing.
use mathlib.Core.Path.{◌≡◌, refl, sym, ◌∙◌}
use mathlib.Core.Bool.{true, false, cond}
use mathlib.Core.List.{List, [], ◌∷◌}
use Prim.Native.Nat.{ℕ, ◌+◌, ◌/◌, ◌%◌, ◌<◌, ◌≤◌}
use native.Mathlib.Omega.{arith}
use borrow.Author.Tests.{le-leb}
use lib.ListN.{length, get_or, set, length-set}
use lib.Seq.{get_or-set_same, get_or-set_other, set_out}
use Rattle.money.specs.Money.{amount, order_cap, is_order_amount}
use Rattle.contents.specs.Accepted.{OrderInRange, EachInRange}
use Rattle.contents.specs.Kept.{kept_code, order_from, order_in, orders_in, kept_from, KeptInOrder}
use Rattle.contents.specs.declared.record.Order.{Order}

-- what is no order's amount reads 0
module _ (n : ℕ) where
  pub no_amount : is_order_amount n ≡ false → amount 0 ≡ amount (cond (is_order_amount n) n 0)
  no_amount h = rw h

-- an order for which the table has no entry
pub kept_beyond : (table : List ℕ) (j n : ℕ) → length table ≤ j → table ≡ set table j n
kept_beyond table j n h = sym (set_out table j n h)

-- an order comes back from its number
decoded : (order : Order) (table : List ℕ) (j : ℕ) → OrderInRange order → get_or table j 0 ≡ kept_code order → order_in table j ≡ order
unfolding order_from
decoded order table j range e =
    let amount : get_or table j 0 / 16 ≡ order.amount.0 = omega (arith, e, range.fault_known) in
    let fault : get_or table j 0 % 16 ≡ order.fault = omega (arith, e, range.fault_known) in
    let held : is_order_amount (get_or table j 0 / 16) ≡ true =
    rw amount (rw (le-leb 1 order.amount.0 range.from_one, le-leb order.amount.0 order_cap range.to_the_cap)) in
    rw held (λ t. record { amount = record { 0 = amount t }; fault = fault t })

-- entries before the first that is stored
before_kept : (table : List ℕ) (j i : ℕ) (orders : List Order) → i < j → get_or (kept_from table j orders) i 0 ≡ get_or table i 0
unfolding kept_from
before_kept table j i [] h = refl
before_kept table j i (order ∷ orders) h =
    before_kept (set table j (kept_code order)) (j + 1) i orders (omega arith) ∙ get_or-set_other table j i (kept_code order) 0 (λ same. omega arith)

kept_from_lem : (table : List ℕ) (j : ℕ) (orders : List Order) → EachInRange orders → j + length orders ≤ length table
    → orders_in (kept_from table j orders) j (length orders) ≡ orders
unfolding kept_from orders_in
kept_from_lem table j [] all room = refl
kept_from_lem table j (order ∷ orders) all room =
    let stored = set table j (kept_code order) in
    let here =
    decoded order (kept_from stored (j + 1) orders) j all.0
    (before_kept stored (j + 1) j orders (omega arith) ∙ get_or-set_same table j (kept_code order) 0 (omega arith)) in
    let rest = kept_from_lem stored (j + 1) orders all.1 (simp length-set (omega arith)) in
    λ t. here t ∷ rest t

pub kept_in_order : KeptInOrder
kept_in_order table orders all room = kept_from_lem table 0 orders all (omega arith)
