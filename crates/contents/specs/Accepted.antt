-- What holds of every file whose contents are accepted, as a book needs it.
use Rattle.std.specs.Prelude.{◌≡◌, List, [], ◌∷◌, ℕ, ◌+◌, ◌≤◌, length}
use Rattle.money.specs.Money.{WithinOrder}
use Rattle.fee.specs.Fee.{fee_of}
use Rattle.fee.specs.declared.Terms.{Terms}
use Rattle.epe.specs.File.{header}
use Rattle.epe.specs.declared.profile.Profile.{Profile}
use Rattle.epe.specs.Questions.{Passed}
use Rattle.contents.specs.Contents.{stated_count, stated_sum, stated_terms, contents, orders}
use Rattle.contents.specs.declared.record.Order.{Order}

-- The amounts of some orders, added up.
unfoldable pub sum_of_amounts : List Order → ℕ
sum_of_amounts [] = 0
sum_of_amounts (order ∷ orders) = order.amount.0 + sum_of_amounts orders

-- "An order's amount is 1 to 999,999,999", and a fault is one of 1 to 10, or none.
pub record OrderInRange (order : Order) : Type 0 where
  pub from_one : 1 ≤ order.amount.0
  pub to_the_cap : WithinOrder order.amount.0
  pub fault_known : order.fault ≤ 10

abbrev pub EachInRange : List Order → Type 0
EachInRange [] = Unit {0}
EachInRange (order ∷ orders) = OrderInRange order × EachInRange orders

-- Each order's fee on some terms is one that an order can hold.
abbrev pub EachCharged : Terms → List Order → Type 0
EachCharged terms [] = Unit {0}
EachCharged terms (order ∷ orders) = WithinOrder (fee_of terms order.amount.0) × EachCharged terms orders

-- Its orders are as many as field 11 says and at least one, each is in range, their amounts add up to field 12, and each has a fee on the terms of its
-- kind.
pub record OrdersAsStated (profile : Profile) (file : List ℕ) : Type 0 where
  pub as_many : length (orders file) ≡ stated_count (header file)
  pub at_least_one : 1 ≤ length (orders file)
  pub in_range : EachInRange (orders file)
  pub add_up : sum_of_amounts (orders file) ≡ stated_sum (header file)
  pub charged : EachCharged (stated_terms profile (header file)) (orders file)

abbrev pub AcceptedAsStated : Type 0
AcceptedAsStated = (profile : Profile) (file : List ℕ) → contents profile file ≡ Passed → OrdersAsStated profile file
