-- What rows are worth, taken one after the other by code that is told how.
use Rattle.std.specs.Prelude.{◌≡◌, ℕ}
use Rattle.money.specs.declared.Money.{Money}
use Rattle.model.specs.Shipment.{worth}
use Rattle.model.specs.declared.Row.{Row}

-- What code answers of a row is what it is worth in a money.
abbrev pub IsWorth : (Row → ℕ → Type 0) → Money → Type 0
IsWorth answers money = (row : Row) (n : ℕ) → answers row n → n ≡ worth money row
