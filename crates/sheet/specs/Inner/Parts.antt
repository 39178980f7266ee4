-- What code adds up of a shipment's orders, and how it divides what was accepted. Only the contracts below `sheet` need these.
use Rattle.std.specs.Prelude.{cond, List, ℕ, ◌+◌, ◌-◌, ◌^◌}
use Rattle.money.specs.Money.{amount, fee, WithinSum}
use Rattle.money.specs.declared.Money.{Money}
use Rattle.money.specs.declared.Money.TheVariants.{K, O}
use Rattle.model.specs.Shipment.{Shipment, accepted, by_money, is_paired, only_if, sum_over, worth, free, holds, held}
use Rattle.model.specs.declared.Row.{Row}
use Rattle.sheet.specs.declared.Amounts.{Amounts}
use Rattle.sheet.specs.declared.Fees.{Fees}
use Rattle.sheet.specs.declared.row.Parts.{Parts}
use Rattle.sheet.specs.declared.division.Division.{Division}
use Rattle.sheet.specs.Sheet.{left}

-- What an order of a Paired shipment holds of a money.
abbrev pub held_by : Money → Row → ℕ
held_by money row = only_if (holds money row.state) (worth money row)

-- The orders of a Paired shipment: all amounts, the amounts held, all fees, and the fees held.
abbrev pub no_parts : Parts
no_parts = record { amounts = amount 0; held = amount 0; fees = fee 0; fees_held = fee 0 }

abbrev pub with_order : Parts → Row → Parts
with_order parts row = record {
  amounts = amount (parts.amounts.0 + worth K row);
  held = amount (parts.held.0 + held_by K row);
  fees = fee (parts.fees.0 + worth O row);
  fees_held = fee (parts.fees_held.0 + held_by O row);
}

abbrev pub parts_of : List Row → Parts
parts_of rows = record {
  amounts = amount (sum_over (worth K) rows);
  held = amount (sum_over (held_by K) rows);
  fees = fee (sum_over (worth O) rows);
  fees_held = fee (sum_over (held_by O) rows);
}

-- All of a money, and what is held of it.
abbrev pub whole_in : Money → Parts → ℕ
whole_in money parts = by_money money parts.amounts.0 parts.fees.0

abbrev pub held_in : Money → Parts → ℕ
held_in money parts = by_money money parts.held.0 parts.fees_held.0

-- In other stages nothing is needed or held.
unfoldable pub parts_once_paired : Shipment → Parts
parts_once_paired s = cond (is_paired s.stage) (parts_of s.rows) no_parts

-- Parts that one order more keeps within the cap of a sum: its amount is four bytes, and so is its fee.
pub record SmallParts (parts : Parts) : Type 0 where
  pub amounts : WithinSum (parts.amounts.0 + 2 ^ 32)
  pub held : WithinSum (parts.held.0 + 2 ^ 32)
  pub fees : WithinSum (parts.fees.0 + 2 ^ 32)
  pub fees_held : WithinSum (parts.fees_held.0 + 2 ^ 32)

-- How code divides what was accepted of a money.
abbrev pub divided : ℕ → ℕ → ℕ → ℕ → Division
divided accepted returned need held = record {
  accepted = accepted;
  held = held;
  free = accepted - need - returned;
  left = accepted - held - (accepted - need - returned);
}

abbrev pub division_of : Money → Shipment → Division
division_of money s = record { accepted = accepted money s; held = held money s; free = free money s; left = left money s }

abbrev pub amounts_from : Division → Amounts
amounts_from d = record { accepted = amount d.accepted; held = amount d.held; free = amount d.free; left = amount d.left }

abbrev pub fees_from : Division → Fees
fees_from d = record { accepted = fee d.accepted; held = fee d.held; free = fee d.free; left = fee d.left }

abbrev pub amounts_in : Amounts → Division
amounts_in a = record { accepted = a.accepted.0; held = a.held.0; free = a.free.0; left = a.left.0 }

abbrev pub fees_in : Fees → Division
fees_in a = record { accepted = a.accepted.0; held = a.held.0; free = a.free.0; left = a.left.0 }
