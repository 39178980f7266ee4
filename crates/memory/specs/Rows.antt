-- An order's row: its amount in the first four bytes, its byte of state, its fee in the next four, and the remainder in two.
use Rattle.std.specs.Prelude.{List, ℕ, get_or}
use Rattle.money.specs.Money.{amount, fee}
use Rattle.model.specs.declared.Row.{Row}
use Rattle.memory.specs.Number.{number_at}
use Rattle.memory.specs.States.{state_of}

abbrev pub code_in : List ℕ → ℕ
code_in row = get_or row 4 0

unfoldable pub row_of : List ℕ → Row
row_of row = record {
  amount = amount (number_at 4 row 0);
  fee = fee (number_at 4 row 5);
  remainder = number_at 2 row 9;
  state = state_of (code_in row);
}
