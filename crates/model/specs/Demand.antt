-- Demand 3: one claim over one list of calls on a book that starts empty.
--
-- "Take any two points of the list, any shipment (all zero before its intake), and amounts or fees alone. Transfers accepted between the points equal
-- the rise in money its orders hold, plus the rise in its free money, plus all that left by payout, earned fee and the four returns. No free money is
-- ever below zero, and no order's money leaves twice or in part. Refused calls and calls for other shipments move none of these numbers."
use Rattle.std.specs.Prelude.{◌≡◌, Bool, true, false, ◌&&◌, List, [], ◌∷◌, ℕ, zero, suc, ◌+◌, ◌≤◌, length, get_or, take, drop}
use Rattle.std.proofs.Math.Option.{Option, some, none}
use Rattle.money.specs.declared.Money.{Money}
use Rattle.epe.specs.Ident.{same_ident}
use Rattle.epe.specs.Name.{name_of, title_of}
use Rattle.epe.specs.declared.ident.Ident.{Ident}
use Rattle.model.specs.Shipment.{Shipment, accepted, returned, only_if, sum_over, worth, need_once_paired, free, held}
use Rattle.model.specs.Calls.{Return, Call, Intake, Transfer, On, Answer, is_refusal, no_order, waiting}
use Rattle.model.specs.Moved.{moved}
use Rattle.model.specs.Book.{Book, find, step}
use Rattle.model.specs.declared.Route.{Route}
use Rattle.model.specs.declared.Row.{Row}

-- "A call is for the shipment that its identifier, title or file name names."
unfoldable pub is_for : Ident → Call → Bool
is_for ident (Intake profile name file) = same_ident ident (name_of name).ident
is_for ident (Transfer title amount) = same_ident ident (title_of title).name.ident
is_for ident (On other act) = same_ident ident other

-- A call and its answer, and those of a list of calls from a book.
pub record Event : Type 0 where
  pub call : Call
  pub answer : Answer

abbrev pub run : Book → List Call → Book
run book [] = book
run book (call ∷ calls) = run (step book call).book calls

abbrev pub events : Book → List Call → List Event
events book [] = []
events book (call ∷ calls) = record { call = call; answer = (step book call).answer } ∷ events (step book call).book calls

-- ".. its points are the start and the end of each call.": the book at point p, and the events between the points p and p + n.
abbrev pub book_at : List Call → ℕ → Book
book_at calls p = run [] (take p calls)

abbrev pub events_between : List Call → ℕ → ℕ → List Event
events_between calls p n = take n (drop p (events [] calls))

-- What was accepted and what left for a shipment, by the events alone.
abbrev pub accepted_for : Money → Ident → Event → ℕ
accepted_for money ident event = only_if (is_for ident event.call) ((moved event.call event.answer).comes_in money)

abbrev pub left_for : Money → Ident → Event → ℕ
left_for money ident event = only_if (is_for ident event.call) ((moved event.call event.answer).goes_out money)

-- ".. any shipment (all zero before its intake) .."
abbrev pub of_shipment : (Shipment → ℕ) → Option Shipment → ℕ
of_shipment f none = 0
of_shipment f (some s) = f s

abbrev pub held_in : Money → Ident → Book → ℕ
held_in money ident book = of_shipment (held money) (find ident book)

abbrev pub free_in : Money → Ident → Book → ℕ
free_in money ident book = of_shipment (free money) (find ident book)

abbrev pub accepted_in : Money → Ident → Book → ℕ
accepted_in money ident book = of_shipment (accepted money) (find ident book)

-- "No free money is ever below zero, ..": what is taken from the transfers accepted never exceeds them.
abbrev pub Covered : Money → Option Shipment → Type 0
Covered money none = Unit {0}
Covered money (some s) = need_once_paired money s + returned money s ≤ accepted money s

-- Order j of a shipment, counted from 0.
abbrev pub order_by_index : ℕ → Option Shipment → Row
order_by_index j none = no_order
order_by_index j (some s) = get_or s.rows j no_order

-- Whether order j's money leaves the shipment by a step from a book.
abbrev pub leaves : Money → Ident → ℕ → Book → Call → Bool
leaves money ident j book call =
    is_for ident call
    && (moved call (step book call).answer).takes_from money j (order_by_index j (find ident book)) (order_by_index j (find ident (step book call).book))

-- How often it does in a list.
abbrev pub times_left : Money → Ident → ℕ → Book → List Call → ℕ
times_left money ident j book [] = 0
times_left money ident j book (call ∷ calls) = only_if (leaves money ident j book call) 1 + times_left money ident j (step book call).book calls

-- The sum of f over the numbers below n.
abbrev pub below : ℕ → (ℕ → ℕ) → ℕ
below zero f = 0
below (suc n) f = f 0 + below n (λ j. f (suc j))

-- What leaves with the orders of a shipment by a step, each with its whole worth; and how many they are.
abbrev pub orders_of : Option Shipment → ℕ
orders_of none = 0
orders_of (some s) = length s.rows

abbrev pub worth_of_order : Money → ℕ → Option Shipment → ℕ
worth_of_order money j none = 0
worth_of_order money j (some s) = worth money (order_by_index j (some s))

abbrev pub left_with_orders : Money → Ident → Book → Call → ℕ
left_with_orders money ident book call =
    below (orders_of (find ident book))
    (λ j. only_if (leaves money ident j book call) (worth_of_order money j (find ident book)))

abbrev pub orders_leaving : Money → Ident → Book → Call → ℕ
orders_leaving money ident book call = below (orders_of (find ident book)) (λ j. only_if (leaves money ident j book call) 1)

-- One call at a point of the list.
pub record AtCall (book : Book) (call : Call) : Type 0 where
  -- "Refused calls .. move none of these numbers."
  pub refused : is_refusal (step book call).answer ≡ true → (step book call).book ≡ book
  -- ".. calls for other shipments move none of these numbers."
  pub others : (ident : Ident) → is_for ident call ≡ false → find ident (step book call).book ≡ find ident book
  -- ".. no order's money leaves .. in part.": an answer's sum is the whole worth of each order that leaves by it and, for ZWR, the surplus.
  pub entire : (ident : Ident) (money : Money) → is_for ident call ≡ true
      → (moved call (step book call).answer).goes_out money ≡ left_with_orders money ident book call + (moved call (step book call).answer).surplus money
  -- A return's count.
  pub counted : (ident : Ident) (route : Route) (money : Money) → call ≡ On ident (Return route money)
      → (n : ℕ) → (moved call (step book call).answer).count ≡ some n → n ≡ orders_leaving money ident book call
  -- ".. nothing of that money waits there after."
  pub emptied : (ident : Ident) (route : Route) (money : Money) → call ≡ On ident (Return route money) → is_refusal (step book call).answer ≡ false
      → of_shipment (waiting route money) (find ident (step book call).book) ≡ 0

abbrev pub AtEachCall : Book → List Call → Type 0
AtEachCall book [] = Unit {0}
AtEachCall book (call ∷ calls) = AtCall book call × AtEachCall (step book call).book calls

pub record Demand3 (calls : List Call) : Type 0 where
  -- between the points p and p + n: held and free before, with what was accepted, are held and free after, with what left
  pub conserves : (p n : ℕ) (ident : Ident) (money : Money)
      → held_in money ident (book_at calls p) + free_in money ident (book_at calls p) + sum_over (accepted_for money ident) (events_between calls p n)
      ≡ held_in money ident (book_at calls (p + n)) + free_in money ident (book_at calls (p + n)) + sum_over (left_for money ident) (events_between calls p n)
  pub never_below_zero : (p : ℕ) (ident : Ident) (money : Money) → Covered money (find ident (book_at calls p))
  pub never_twice : (money : Money) (ident : Ident) (j : ℕ) → times_left money ident j [] calls ≤ 1
  pub at_each_call : AtEachCall [] calls

-- What a shipment has accepted is what its transfers that were answered as done come to, at every point.
abbrev pub AcceptedAsAnswered : Type 0
AcceptedAsAnswered = (calls : List Call) (p : ℕ) (ident : Ident) (money : Money)
    → accepted_in money ident (book_at calls p) ≡ sum_over (accepted_for money ident) (events_between calls 0 p)
