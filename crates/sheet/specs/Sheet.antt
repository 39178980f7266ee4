-- The balance sheet: a row to a shipment, and totals. Document 01, "The balance sheet". Since document 02's A5 ("Earned and returned fees are each
-- order's own from here on, ..") F is each order's own fee.
use Rattle.std.specs.Prelude.{◌≡◌, Bool, true, false, not, ◌&&◌, ◌||◌, List, [], ◌∷◌, ◌++◌, map, ℕ, ◌+◌, leb, length, drop, Result, Ok, Err}
use Rattle.std.proofs.Math.Option.{Option, some, none}
use Rattle.money.specs.Money.{amount, fee, is_total}
use Rattle.money.specs.declared.Money.{Money}
use Rattle.money.specs.declared.Money.TheVariants.{K, O}
use Rattle.epe.specs.Questions.{◌else_no◌, asked}
use Rattle.epe.specs.declared.ident.Ident.{Ident}
use Rattle.model.specs.Shipment.{Shipment, accepted, returned, is_paired, only_if, sum_over, is_posted, is_faulty, is_undelivered, is_withdrawn}
use Rattle.model.specs.Shipment.{waits, worth, free, held}
use Rattle.model.specs.Calls.{Call}
use Rattle.model.specs.Book.{Book, find}
use Rattle.model.specs.Sound.{shipment_sound}
use Rattle.model.specs.Demand.{book_at, events_between, left_for, of_shipment}
use Rattle.model.specs.declared.Row.{Row}
use Rattle.model.specs.declared.State.{State}
use Rattle.model.specs.declared.State.TheVariants.{Open, Posted, Paid, Faulty, Undelivered, Withdrawn}
use Rattle.sheet.specs.declared.Amounts.{Amounts}
use Rattle.sheet.specs.declared.Fees.{Fees}
use Rattle.sheet.specs.declared.SheetRow.{SheetRow}
use Rattle.sheet.specs.declared.Totals.{Totals}

abbrev pub is_paid : State → Bool
is_paid Open = false
is_paid Posted = false
is_paid Paid = true
is_paid (Faulty fault k o) = false
is_paid (Undelivered k) = false
is_paid (Withdrawn k o) = false

-- "K left is the amounts of Paid orders, plus .. . O left is F for each Posted, Paid or Undelivered order, plus ..": the order's own F.
abbrev pub is_out : Money → State → Bool
is_out K state = is_paid state
is_out O state = is_posted state || (is_paid state || is_undelivered state)

-- ".. those of Faulty, Undelivered and Withdrawn orders .. whose K no longer waits .. F for each Faulty or Withdrawn one .. whose O no longer waits .."
abbrev pub can_wait : Money → State → Bool
can_wait K state = is_faulty state || (is_undelivered state || is_withdrawn state)
can_wait O state = is_faulty state || is_withdrawn state

abbrev pub waits_no_more : Money → State → Bool
waits_no_more money state = can_wait money state && not (waits money state)

-- What the orders that pass a test are worth.
abbrev pub worth_where : (State → Bool) → Money → Shipment → ℕ
worth_where test money s = sum_over (λ (row : Row). only_if (test row.state) (worth money row)) s.rows

-- ".. in a Paired shipment .., plus K surplus returned .., plus O surplus returned."
unfoldable pub left : Money → Shipment → ℕ
left money s = worth_where (is_out money) money s + only_if (is_paired s.stage) (worth_where (waits_no_more money) money s) + returned money s

-- "The sheet fills a lent table, one row per shipment: identifier; accepted, held, free, left, for K and for O."
abbrev pub amounts_of : Shipment → Amounts
amounts_of s = record { accepted = amount (accepted K s); held = amount (held K s); free = amount (free K s); left = amount (left K s) }

abbrev pub fees_of : Shipment → Fees
fees_of s = record { accepted = fee (accepted O s); held = fee (held O s); free = fee (free O s); left = fee (left O s) }

unfoldable pub row_for : Shipment → SheetRow
row_for s = record { ident = s.agreed.name.ident; amounts = amounts_of s; fees = fees_of s }

-- "It adds each row's eight sums to a lent record of totals."
abbrev pub plus_amounts : Amounts → Amounts → Amounts
plus_amounts a b = record {
  accepted = amount (a.accepted.0 + b.accepted.0);
  held = amount (a.held.0 + b.held.0);
  free = amount (a.free.0 + b.free.0);
  left = amount (a.left.0 + b.left.0);
}

abbrev pub plus_fees : Fees → Fees → Fees
plus_fees a b = record {
  accepted = fee (a.accepted.0 + b.accepted.0);
  held = fee (a.held.0 + b.held.0);
  free = fee (a.free.0 + b.free.0);
  left = fee (a.left.0 + b.left.0);
}

abbrev pub plus : Totals → SheetRow → Totals
plus totals row = record { amounts = plus_amounts totals.amounts row.amounts; fees = plus_fees totals.fees row.fees }

unfoldable pub plus_all : Totals → List SheetRow → Totals
plus_all totals [] = totals
plus_all totals (row ∷ rows) = plus_all (plus totals row) rows

-- "After adding, no total above 999,999,999,999,999?"
abbrev pub four_within : ℕ → ℕ → ℕ → ℕ → Bool
four_within a b c d = is_total a && (is_total b && (is_total c && is_total d))

abbrev pub amounts_within : Amounts → Bool
amounts_within a = four_within a.accepted.0 a.held.0 a.free.0 a.left.0

abbrev pub fees_within : Fees → Bool
fees_within a = four_within a.accepted.0 a.held.0 a.free.0 a.left.0

unfoldable pub within_cap : Totals → Bool
within_cap totals = amounts_within totals.amounts && fees_within totals.fees

-- What a sheet answers, so many rows or the number of the question answered no, and what it leaves of the table and the totals.
pub record Sheet : Type 0 where
  pub answer : Result ℕ ℕ
  pub table : List SheetRow
  pub totals : Totals

-- A question answered no: its number is the answer, and the table and the totals are as they were.
abbrev pub no_sheet : List SheetRow → Totals → ℕ → Sheet
no_sheet table totals number = record { answer = Err number; table = table; totals = totals }

-- "After 10: table has a row for each shipment? 25. After adding, no total above 999,999,999,999,999? 26. Rows past the last are untouched."
unfoldable pub sheet_of : Option Book → List SheetRow → Totals → Sheet
sheet_of none table totals = no_sheet table totals 10
sheet_of (some book) table totals =
    asked ((leb (length book) (length table) else_no 25) ∷ (within_cap (plus_all totals (map row_for book)) else_no 26) ∷ []) (no_sheet table totals)
    (record {
      answer = Ok (length book);
      table = map row_for book ++ drop (length book) table;
      totals = plus_all totals (map row_for book);
    })

-- The sheet that a clerk reads always balances: of a sound shipment, accepted is held, free and left together, in either money.
abbrev pub Balances : Type 0
Balances = (money : Money) (s : Shipment) → shipment_sound s ≡ true → accepted money s ≡ held money s + free money s + left money s

-- What the sheet says has left of a shipment is what demand 3 counts as left: all that the answers given so far say went out, at every point of every
-- list of calls from an empty book. Of the bytes of a list of calls, crates/audit/specs/SheetAsAnswered.antt says it.
abbrev pub LeftAsAnswered : Type 0
LeftAsAnswered = (calls : List Call) (p : ℕ) (ident : Ident) (money : Money)
    → of_shipment (left money) (find ident (book_at calls p)) ≡ sum_over (left_for money ident) (events_between calls 0 p)
