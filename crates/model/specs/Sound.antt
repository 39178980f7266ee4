-- "Sound means: .. every name part in its form, every number in its range, an order in each shipment, identifiers all different, .. states other
-- than Open and Faulty only when Paired, both moneys of a Faulty order waiting unless Paired, go-ahead only with faults, Paired with faults only
-- after a go-ahead, and transfers accepted are at least surplus returned plus, when Paired, the need. Surplus returned is zero while Waiting."
-- That the memory is long enough and the orders' parts follow one another are matters of lent memory; a plain book has them by its form.
use Rattle.std.specs.Prelude.{◌≡◌, Bool, true, false, not, ◌&&◌, ◌||◌, List, [], ◌∷◌, ℕ, ◌+◌, ◌*◌, ◌-◌, leb, eqb, length}
use Rattle.text.specs.Bytes.{between}
use Rattle.money.specs.Money.{is_order_amount, is_order_fee, is_sum}
use Rattle.money.specs.declared.Money.{Money}
use Rattle.money.specs.declared.Money.TheVariants.{K, O}
use Rattle.fee.specs.Fee.{terms_fit, divides, rate_cap}
use Rattle.fee.specs.declared.Terms.{Terms}
use Rattle.epe.specs.Name.{name_in_form}
use Rattle.model.specs.Shipment.{most_shipments, most_rows, Shipment, accepted, returned, is_waiting, is_paired, sum_over, need, need_once_paired, any_faulty}
use Rattle.model.specs.Calls.{Call}
use Rattle.model.specs.Book.{Book, is_unknown, rows_in, step}
use Rattle.model.specs.Demand.{book_at}
use Rattle.model.specs.declared.Row.{Row}
use Rattle.model.specs.declared.Stage.{Stage}
use Rattle.model.specs.declared.State.{State}
use Rattle.model.specs.declared.State.TheVariants.{Open, Posted, Paid, Faulty, Undelivered, Withdrawn}

-- A fault is 1 to 10.
abbrev pub fault_in_range : State → Bool
fault_in_range Open = true
fault_in_range Posted = true
fault_in_range Paid = true
fault_in_range (Faulty fault k o) = between 1 10 fault
fault_in_range (Undelivered k) = true
fault_in_range (Withdrawn k o) = true

-- ".. states other than Open and Faulty only when Paired, both moneys of a Faulty order waiting unless Paired, .."
abbrev pub before_pairing : State → Bool
before_pairing Open = true
before_pairing Posted = false
before_pairing Paid = false
before_pairing (Faulty fault k o) = k && o
before_pairing (Undelivered k) = false
before_pairing (Withdrawn k o) = false

-- ".. its soundness (the division holds) .." (document 02, A5): a row's amount, fee and remainder, on the terms of its shipment.
abbrev pub row_charged : Terms → Row → Bool
row_charged terms row =
    is_order_amount row.amount.0
    && (is_order_fee row.fee.0 && divides terms row.amount.0 row.fee.0 row.remainder)

unfoldable pub row_sound : Terms → Stage → Row → Bool
row_sound terms stage row = row_charged terms row && (fault_in_range row.state && (is_paired stage || before_pairing row.state))

unfoldable pub rows_sound : Terms → Stage → List Row → Bool
rows_sound terms stage [] = true
rows_sound terms stage (row ∷ rows) = row_sound terms stage row && rows_sound terms stage rows

-- Accepted and returned are sums, and ".. transfers accepted are at least surplus returned plus, when Paired, the need."
unfoldable pub money_sound : Money → Shipment → Bool
money_sound money s =
    is_sum (accepted money s)
    && (is_sum (returned money s)
    && (leb (returned money s + need_once_paired money s) (accepted money s)
    && (not (is_waiting s.stage) || eqb (returned money s) 0)))

unfoldable pub shipment_sound : Shipment → Bool
shipment_sound s =
    name_in_form s.agreed.name
    && (terms_fit s.agreed.terms
    && (leb 1 (length s.rows)
    && (rows_sound s.agreed.terms s.stage s.rows
    && ((not s.go_ahead || any_faulty s.rows)
    && ((not (is_paired s.stage && any_faulty s.rows) || s.go_ahead)
    && (money_sound K s && money_sound O s))))))

unfoldable pub shipments_sound : Book → Bool
shipments_sound [] = true
shipments_sound (s ∷ book) = shipment_sound s && (is_unknown s.agreed.name.ident book && shipments_sound book)

-- ".. up to 32 shipments ..", and 2,048 rows in all.
unfoldable pub sound : Book → Bool
sound book = leb (length book) most_shipments && (leb (rows_in book) most_rows && shipments_sound book)

-- The empty book is sound, and every step from a sound book leaves a sound one.
pub record StaysSound : Type 0 where
  pub begins : sound [] ≡ true
  pub keeps : (book : Book) (call : Call) → sound book ≡ true → sound (step book call).book ≡ true

-- So a book begun empty is always sound: for every list of calls from the empty book, the book at every point of the list is sound.
abbrev pub AlwaysSound : Type 0
AlwaysSound = (calls : List Call) (point : ℕ) → sound (book_at calls point) ≡ true

-- "For every shipment, 10,000 times the sum of the rated parts plus the sum of the remainders equals the rate times the sum of the amounts." (document
-- 02, A5): of every sound shipment, and so of every one in every list.
abbrev pub rated_parts : Shipment → ℕ
rated_parts s = sum_over (λ (row : Row). row.fee.0 - s.agreed.terms.flat.0) s.rows

abbrev pub remainders : Shipment → ℕ
remainders s = sum_over (λ (row : Row). row.remainder) s.rows

abbrev pub Divided : Shipment → Type 0
Divided s = rate_cap * rated_parts s + remainders s ≡ s.agreed.terms.rate.0 * need K s

abbrev pub SoundIsDivided : Type 0
SoundIsDivided = (s : Shipment) → shipment_sound s ≡ true → Divided s

abbrev pub AllDivided : Book → Type 0
AllDivided [] = Unit {0}
AllDivided (s ∷ book) = Divided s × AllDivided book

abbrev pub AlwaysDivided : Type 0
AlwaysDivided = (calls : List Call) (point : ℕ) → AllDivided (book_at calls point)
