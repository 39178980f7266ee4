-- OPE, the report on the faulty orders of a shipment. "OPE asks 10 and 13 first and has one record per faulty order, rising, with the published code, 308 to
-- 336, taken from a lent table of ten codes, one per fault; only codes used are judged. Counts and numbers have no leading zeros, .." (document 02, A2)
use Rattle.std.specs.Prelude.{◌≡◌, Bool, true, false, ◌&&◌, ◌||◌, List, [], ◌∷◌, ℕ, ◌+◌, ◌-◌, eqb, ltb, length, get_or, take}
use Rattle.std.proofs.Math.Option.{Option, some, none}
use Rattle.text.specs.Bytes.{between}
use Rattle.text.specs.Quoted.{bytes}
use Rattle.epe.specs.Ident.{identifier}
use Rattle.epe.specs.Questions.{◌else_no◌}
use Rattle.epe.specs.declared.ident.Ident.{Ident}
use Rattle.model.specs.Shipment.{Shipment}
use Rattle.model.specs.Calls.{order_at}
use Rattle.model.specs.Book.{Book, find}
use Rattle.model.specs.declared.Row.{Row}
use Rattle.model.specs.declared.State.{State}
use Rattle.model.specs.declared.State.TheVariants.{Open, Posted, Paid, Faulty, Undelivered, Withdrawn}
use Rattle.write.specs.Files.{file}
use Rattle.write.specs.Spelled.{spelled}
use Rattle.write.specs.Written.{Wrote, leaving, written_after}
use Rattle.report.specs.Lines.{is_moment, header_of, record_of}

-- A faulty order: its number in the shipment, counted from 1, and its fault.
pub record FaultyOrder : Type 0 where
  pub number : ℕ
  pub fault : ℕ

-- An order with a number in a state, before other faulty ones.
abbrev pub before_faulty : ℕ → State → List FaultyOrder → List FaultyOrder
before_faulty number Open orders = orders
before_faulty number Posted orders = orders
before_faulty number Paid orders = orders
before_faulty number (Faulty fault k o) orders = record { number = number; fault = fault } ∷ orders
before_faulty number (Undelivered k) orders = orders
before_faulty number (Withdrawn k o) orders = orders

-- The faulty ones of some orders, the first of which has this number; and of a shipment, in any stage.
unfoldable pub faulty_from : ℕ → List Row → List FaultyOrder
faulty_from number [] = []
faulty_from number (row ∷ rows) = before_faulty number row.state (faulty_from (number + 1) rows)

abbrev pub faulty_orders : Shipment → List FaultyOrder
faulty_orders s = faulty_from 1 s.rows

-- The code of a fault: the table's entry for it, counted from 1; 0 where it has none.
abbrev pub code_for : List ℕ → ℕ → ℕ
code_for codes fault = get_or codes (fault - 1) 0

-- A record to an order, from a running number on.
unfoldable pub ope_records : List ℕ → ℕ → List FaultyOrder → List (List (List ℕ))
ope_records codes running [] = []
ope_records codes running (order ∷ orders) =
    record_of running order.number (code_for codes order.fault) ∷ ope_records codes (running + 1) orders

-- The report on faulty orders of the shipment with an identifier: the header says how many they are.
unfoldable pub ope_lines : List ℕ → ℕ → List ℕ → List ℕ → List FaultyOrder → List (List (List ℕ))
ope_lines own created codes source orders = header_of (bytes "OPE") own created source (spelled (length orders)) ∷ ope_records codes 1 orders

unfoldable pub ope : List ℕ → ℕ → List ℕ → List ℕ → List FaultyOrder → List ℕ
ope own created codes source orders = file (ope_lines own created codes source orders)

-- Every fault that an order has has a code, 308 to 336.
unfoldable pub are_coded : List ℕ → List FaultyOrder → Bool
are_coded codes [] = true
are_coded codes (order ∷ orders) = between 308 336 (code_for codes order.fault) && are_coded codes orders

-- ".. 31 when a code or value is missing or can't stand in its field, asked just before" 30.
unfoldable pub fits_ope : List ℕ → ℕ → List ℕ → List FaultyOrder → Bool
fits_ope own created codes orders = identifier own && (is_moment created && are_coded codes orders)

unfoldable pub ope_on : List ℕ → ℕ → List ℕ → List ℕ → List ℕ → List FaultyOrder → Wrote
ope_on own created codes output source orders =
    written_after ((fits_ope own created codes orders else_no 31) ∷ []) (ope own created codes source orders) output

-- An identifier's text, and a shipment's.
abbrev pub text_of_ident : Ident → List ℕ
text_of_ident ident = take ident.len ident.bytes

abbrev pub source_of : Shipment → List ℕ
source_of s = text_of_ident s.agreed.name.ident

unfoldable pub ope_of : List ℕ → ℕ → List ℕ → List ℕ → Option Shipment → Wrote
ope_of own created codes output none = leaving output 13
ope_of own created codes output (some s) = ope_on own created codes output (source_of s) (faulty_orders s)

unfoldable pub ope_written : Option Book → Ident → List ℕ → ℕ → List ℕ → List ℕ → Wrote
ope_written none ident own created codes output = leaving output 10
ope_written (some book) ident own created codes output = ope_of own created codes output (find ident book)

-- "one record per faulty order, rising": an order with a fault is among them just where the shipment has that order in that fault, and each has a number
-- above the one before it, so that none is there twice.
unfoldable pub has_fault : ℕ → State → Bool
has_fault fault Open = false
has_fault fault Posted = false
has_fault fault Paid = false
has_fault fault (Faulty its k o) = eqb its fault
has_fault fault (Undelivered k) = false
has_fault fault (Withdrawn k o) = false

unfoldable pub is_among : ℕ → ℕ → List FaultyOrder → Bool
is_among number fault [] = false
is_among number fault (order ∷ orders) = (eqb order.number number && eqb order.fault fault) || is_among number fault orders

unfoldable pub are_rising : ℕ → List FaultyOrder → Bool
are_rising before [] = true
are_rising before (order ∷ orders) = ltb before order.number && are_rising order.number orders

pub record AllFaulty (s : Shipment) : Type 0 where
  pub exactly : (number fault : ℕ) → is_among number fault (faulty_orders s) ≡ (between 1 (length s.rows) number && has_fault fault (order_at number s).state)
  pub rising : are_rising 0 (faulty_orders s) ≡ true
