-- How code goes from shipment to shipment, fills rows and adds them up. Only the contracts below `sheet` need these.
use Rattle.std.specs.Prelude.{Bool, cond, ℕ, ◌+◌, Option, Some, None}
use Rattle.money.specs.Money.{WithinTotal}
use Rattle.sheet.specs.declared.division.Division.{Division}
use Rattle.sheet.specs.declared.SheetRow.{SheetRow}
use Rattle.sheet.specs.declared.Totals.{Totals}
use Rattle.sheet.specs.Sheet.{four_within, within_cap}
use Rattle.sheet.specs.Inner.Parts.{amounts_in, fees_in}

-- Four sums within the cap of a total.
pub record Within (a b c d : ℕ) : Type 0 where
  pub first : WithinTotal a
  pub second : WithinTotal b
  pub third : WithinTotal c
  pub fourth : WithinTotal d

abbrev pub DivisionWithin : Division → Type 0
DivisionWithin d = Within d.accepted d.held d.free d.left

abbrev pub TotalsWithin : Totals → Type 0
TotalsWithin totals = DivisionWithin (amounts_in totals.amounts) × DivisionWithin (fees_in totals.fees)

abbrev pub RowWithin : SheetRow → Type 0
RowWithin row = DivisionWithin (amounts_in row.amounts) × DivisionWithin (fees_in row.fees)

abbrev pub division_within : Division → Bool
division_within d = four_within d.accepted d.held d.free d.left

-- The sums of two divisions, each added to its own.
abbrev pub plus_division : Division → Division → Division
plus_division a b = record { accepted = a.accepted + b.accepted; held = a.held + b.held; free = a.free + b.free; left = a.left + b.left }

-- Totals, if none of them is above the cap.
unfoldable pub if_within : Totals → Option Totals
if_within totals = cond (within_cap totals) (Some totals) None
