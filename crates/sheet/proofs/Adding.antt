-- A shipment's orders are added up one after the other: what is added, with what is still to add, is the whole.
-- Assumes nothing.
use mathlib.Core.Path.{◌≡◌, sym, ap, ◌∙◌}
use mathlib.Core.Bool.{Bool, true, false}
use mathlib.Core.List.{List, [], ◌∷◌}
use Prim.Native.Nat.{ℕ, zero, suc, ◌+◌, ◌*◌, ◌/◌, ◌%◌, ◌^◌, ◌≤◌, ◌<◌}
use native.Mathlib.Omega.{arith}
use lib.ListN.{length}
use Rattle.money.specs.Money.{amount, fee, WithinSum}
use Rattle.money.specs.declared.Amount.{Amount}
use Rattle.money.specs.declared.Fee.{Fee}
use Rattle.money.specs.declared.Money.{Money}
use Rattle.money.specs.declared.Money.TheVariants.{K, O}
use Rattle.model.specs.Shipment.{Shipment, most_rows, by_money, is_paired, only_if, sum_over, worth, holds}
use Rattle.model.specs.declared.Row.{Row}
use Rattle.memory.specs.Inner.Holdings.{holding_of}
use Rattle.memory.proofs.Columns.{Adding, adding_begun, adding_on, adding_done}
use Rattle.sheet.specs.declared.row.Parts.{Parts}
use Rattle.sheet.specs.Inner.Parts.{held_by, no_parts, with_order, parts_of, whole_in, held_in, parts_once_paired, SmallParts}

at_most : (t : Bool) (n : ℕ) → only_if t n ≤ n
at_most true n = omega arith
at_most false n = omega arith

-- what an order holds of a money, as code takes it
abbrev share : Money → ℕ → ℕ
share money holding = by_money money (holding % 2) (holding / 2)

shared_in : (money : Money) (k o : Bool) (n : ℕ) → n * share money (only_if k 1 + only_if o 2) ≡ only_if (by_money money k o) n
shared_in K true true n = omega arith
shared_in K true false n = omega arith
shared_in K false true n = omega arith
shared_in K false false n = omega arith
shared_in O true true n = omega arith
shared_in O true false n = omega arith
shared_in O false true n = omega arith
shared_in O false false n = omega arith

module _ (money : Money) (row : Row) {own holding : ℕ} (own_is : own ≡ worth money row) (holding_is : holding ≡ holding_of row.state) where
  held_in_lem : own * share money holding ≡ held_by money row
  held_in_lem = (λ t. own_is t * share money (holding_is t)) ∙ by money
    where
      by : (money : Money) → worth money row * share money (holding_of row.state) ≡ held_by money row
      by K = shared_in K (holds K row.state) (holds O row.state) (worth K row)
      by O = shared_in O (holds K row.state) (holds O row.state) (worth O row)

-- whatever the share: at most the whole, so that a sum stays one
pub holding_most : (row : Row) {holding : ℕ} → holding ≡ holding_of row.state → holding ≤ 3
holding_most row is = omega (arith, is, at_most (holds K row.state) 1, at_most (holds O row.state) 2)

product_small : (own part : ℕ) → own < 2 ^ 32 → part ≤ 1 → own * part < 2 ^ 32
product_small own part small at_most_once = by part at_most_once
  where
    by : (part : ℕ) → part ≤ 1 → own * part < 2 ^ 32
    by zero h = omega arith
    by (suc zero) h = omega arith
    by (suc (suc n)) h = absurd (omega arith)

pub part_fits : (own part : ℕ) → own < 2 ^ 32 → part ≤ 1 → own * part < 2 ^ 64
part_fits own part small once = omega (arith, product_small own part small once)

pub with_part_fits : (sum own part : ℕ) → WithinSum (sum + 2 ^ 32) → own < 2 ^ 32 → part ≤ 1 → sum + own * part < 2 ^ 64
with_part_fits sum own part room small once = omega (arith, room, product_small own part small once)

pub with_part_within : (sum own part : ℕ) → WithinSum (sum + 2 ^ 32) → own < 2 ^ 32 → part ≤ 1 → WithinSum (sum + own * part)
with_part_within sum own part room small once = omega (arith, room, product_small own part small once)

module _ (parts : Parts) (row : Row) {own : Amount} {its_fee : Fee} {holding : ℕ} (own_is : own ≡ row.amount) (fee_is : its_fee ≡ row.fee)
    (holding_is : holding ≡ holding_of row.state) {amounts held : Amount} {fees fees_held : Fee} (amounts_are : amounts ≡ amount (parts.amounts.0 + own.0))
    (held_are : held ≡ amount (parts.held.0 + own.0 * (holding % 2))) (fees_are : fees ≡ fee (parts.fees.0 + its_fee.0))
    (fees_held_are : fees_held ≡ fee (parts.fees_held.0 + its_fee.0 * (holding / 2))) where
  amounts_sum : amounts ≡ amount (parts.amounts.0 + worth K row)
  amounts_sum = amounts_are ∙ (λ t. amount (parts.amounts.0 + (own_is t).0))

  held_sum : held ≡ amount (parts.held.0 + held_by K row)
  held_sum = held_are ∙ ap (λ n. amount (parts.held.0 + n)) (held_in_lem K row (ap (λ (a : Amount). a.0) own_is) holding_is)

  fees_sum : fees ≡ fee (parts.fees.0 + worth O row)
  fees_sum = fees_are ∙ (λ t. fee (parts.fees.0 + (fee_is t).0))

  fees_held_sum : fees_held ≡ fee (parts.fees_held.0 + held_by O row)
  fees_held_sum = fees_held_are ∙ ap (λ n. fee (parts.fees_held.0 + n)) (held_in_lem O row (ap (λ (a : Fee). a.0) fee_is) holding_is)

  pub order_added : record { amounts = amounts; held = held; fees = fees; fees_held = fees_held } ≡ with_order parts row
  order_added = λ t. record { amounts = amounts_sum t; held = held_sum t; fees = fees_sum t; fees_held = fees_held_sum t }

-- Rows are left of some.
pub record Going (rows left : List Row) (parts : Parts) : Type 0 where
  pub whole : (money : Money) → Adding money rows left (whole_in money parts)
  pub held : (money : Money) → held_in money parts + sum_over (held_by money) left ≡ sum_over (held_by money) rows
  pub held_low : (money : Money) → held_in money parts ≤ whole_in money parts

module _ {rows : List Row} where
  pub begun : Going rows rows no_parts
  begun = record { whole = whole_begun; held = held_begun; held_low = low_begun }
    where
      whole_begun : (money : Money) → Adding money rows rows (whole_in money no_parts)
      whole_begun K = adding_begun
      whole_begun O = adding_begun

      held_begun : (money : Money) → held_in money no_parts + sum_over (held_by money) rows ≡ sum_over (held_by money) rows
      held_begun K = omega arith
      held_begun O = omega arith

      low_begun : (money : Money) → held_in money no_parts ≤ whole_in money no_parts
      low_begun K = omega arith
      low_begun O = omega arith

  pub still_small : {row : Row} {left : List Row} {parts : Parts} → Going rows (row ∷ left) parts → length rows ≤ most_rows → SmallParts parts
  still_small going few = record {
    amounts = omega (arith, (going.whole K).low);
    held = omega (arith, (going.whole K).low, going.held_low K);
    fees = omega (arith, (going.whole O).low);
    fees_held = omega (arith, (going.whole O).low, going.held_low O);
  }

  pub one_more : {row : Row} {left : List Row} {parts next : Parts} → Going rows (row ∷ left) parts → next ≡ with_order parts row
      → next.amounts.0 < parts.amounts.0 + 2 ^ 32 → next.fees.0 < parts.fees.0 + 2 ^ 32 → Going rows left next
  one_more {row} {left} {parts} {next} going next_is amount_small fee_small = record { whole = whole_on; held = held_on; held_low = low_on }
    where
      whole_next : (money : Money) → whole_in money next ≡ whole_in money parts + worth money row
      whole_next K = ap (whole_in K) next_is
      whole_next O = ap (whole_in O) next_is

      held_next : (money : Money) → held_in money next ≡ held_in money parts + held_by money row
      held_next K = ap (held_in K) next_is
      held_next O = ap (held_in O) next_is

      small : (money : Money) → whole_in money next < whole_in money parts + 2 ^ 32
      small K = amount_small
      small O = fee_small

      whole_on : (money : Money) → Adding money rows left (whole_in money next)
      whole_on money = adding_on (going.whole money) (omega (arith, whole_next money, small money)) (whole_next money)

      held_on : (money : Money) → held_in money next + sum_over (held_by money) left ≡ sum_over (held_by money) rows
      held_on money = omega (arith, going.held money, held_next money)

      low_on : (money : Money) → held_in money next ≤ whole_in money next
      low_on money = omega (arith, going.held_low money, held_next money, whole_next money, at_most (holds money row.state) (worth money row))

  pub all_added : {parts : Parts} → Going rows [] parts → parts ≡ parts_of rows
  all_added {parts} going =
      let held_are : (money : Money) → held_in money parts ≡ sum_over (held_by money) rows = λ money. omega (arith, going.held money) in
      λ t. record {
        amounts = amount (adding_done (going.whole K) t);
        held = amount (held_are K t);
        fees = fee (adding_done (going.whole O) t);
        fees_held = fee (held_are O t);
      }

-- a shipment's parts, by its stage
module _ (s : Shipment) {paired : Bool} (is-paired : paired ≡ is_paired s.stage) where
  pub none_unpaired : paired ≡ false → no_parts ≡ parts_once_paired s
  unfolding parts_once_paired
  none_unpaired unpaired = rw (sym is-paired ∙ unpaired)

  pub parts_paired : (rows : List Row) → rows ≡ s.rows → {parts : Parts} → paired ≡ true → parts ≡ parts_of rows → parts ≡ parts_once_paired s
  unfolding parts_once_paired
  parts_paired rows are together told = rw (sym is-paired ∙ together) (told ∙ ap parts_of are)

-- by which an order is added
pub ruleset order_sums = (holding_most, part_fits, with_part_fits, with_part_within, order_added)

-- and order after order
pub ruleset going = (begun, still_small, one_more, all_added)

-- and by the stage
pub ruleset by_stage = (none_unpaired, parts_paired)
