-- The sheet and demand 3 over the same bytes: each row of the sheet says of its shipment what demand 3 counts.
--
-- "The sheet fills a lent table, one row per shipment: identifier; accepted, held, free, left, for K and for O."
use Rattle.std.specs.Prelude.{◌≡◌, List, [], ℕ, ◌+◌, ◌<◌, get_or, Ok}
use Rattle.std.proofs.Math.Option.{some}
use Rattle.money.specs.declared.Money.{Money}
use Rattle.money.specs.declared.Money.TheVariants.{K, O}
use Rattle.model.specs.Shipment.{sum_over}
use Rattle.model.specs.Book.{Book}
use Rattle.model.specs.Demand.{Event, accepted_for, left_for, held_in, free_in}
use Rattle.memory.specs.Read.{read_book}
use Rattle.sheet.specs.Sheet.{Sheet, sheet_of}
use Rattle.sheet.specs.declared.division.Division.{Division}
use Rattle.sheet.specs.declared.SheetRow.{SheetRow}
use Rattle.sheet.specs.declared.Totals.{Totals}
use Rattle.audit.specs.Listed.{Made, Chain, memory_at, made_between, book_in_bytes}

-- A row's four sums in one money.
abbrev pub sums : Money → SheetRow → Division
sums K row = record {
  accepted = row.amounts.accepted.0;
  held = row.amounts.held.0;
  free = row.amounts.free.0;
  left = row.amounts.left.0;
}
sums O row = record { accepted = row.fees.accepted.0; held = row.fees.held.0; free = row.fees.free.0; left = row.fees.left.0 }

-- A row, the book that it is of, and the calls up to then with their answers.
pub record RowAsAnswered (money : Money) (row : SheetRow) (book : Book) (answered : List Event) : Type 0 where
  -- ".. the amounts of the transfer calls answered as done as transfers accepted."
  pub accepted : (sums money row).accepted ≡ sum_over (accepted_for money row.ident) answered
  pub held : (sums money row).held ≡ held_in money row.ident book
  pub free : (sums money row).free ≡ free_in money row.ident book
  -- "An accepted post answers F, pay the order's amount, a return its sum and count; demand 3 counts these answers as what left .."
  -- "Earned and returned fees are each order's own from here on, .." (document 02, A5).
  pub left : (sums money row).left ≡ sum_over (left_for money row.ident) answered
  pub balances : (sums money row).accepted ≡ (sums money row).held + (sums money row).free + (sums money row).left

-- The claim: of every list of calls from an empty book, at every point, each row that a sheet of the bytes fills is so, in either money.
abbrev pub SheetAsAnswered : Type 0
SheetAsAnswered = (start : List ℕ) (made : List Made) → read_book start ≡ some [] → Chain start made
    → (p : ℕ) (table : List SheetRow) (totals : Totals) (sheet : Sheet) → sheet ≡ sheet_of (read_book (memory_at start made p)) table totals
    → (n i : ℕ) → sheet.answer ≡ Ok n → i < n
    → (money : Money) (outside : SheetRow)
    → RowAsAnswered money (get_or sheet.table i outside) (book_in_bytes (memory_at start made p)) (made_between made 0 p)
