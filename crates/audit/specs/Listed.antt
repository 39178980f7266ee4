-- Demand 3 over the lent memory: one claim over one list of calls, made of exactly the record that every call's contract is (`Does`).
--
-- "This holds for every list of the following calls on a book that starts empty, refused ones included: intake, transfer, go-ahead, pair, close, post,
-- pay, mark undelivered, withdraw one, return. Each call gets the book as the last one left it, and nobody else writes it."
use Rattle.std.specs.Prelude.{◌≡◌, Bool, true, false, ◌&&◌, List, [], ◌∷◌, map, ℕ, zero, suc, ◌+◌, ◌≤◌, take, drop}
use Rattle.std.proofs.Math.Option.{Option, some, none}
use Rattle.money.specs.declared.Money.{Money}
use Rattle.epe.specs.declared.ident.Ident.{Ident}
use Rattle.model.specs.Shipment.{only_if, sum_over}
use Rattle.model.specs.Calls.{Call, Intake, Transfer, On, Return, Answer, Refused, is_refusal, waiting}
use Rattle.model.specs.Book.{Book, find}
use Rattle.model.specs.Moved.{moved}
use Rattle.model.specs.Sound.{AllDivided}
use Rattle.model.specs.Demand.{Event, is_for, accepted_for, left_for, events, book_at, of_shipment, held_in, free_in, Covered}
use Rattle.model.specs.Demand.{order_by_index, orders_of, worth_of_order, below}
use Rattle.model.specs.declared.Route.{Route}
use Rattle.memory.specs.Read.{read_book}
use Rattle.book.specs.Does.{Does}

-- A call that was made: what was passed, what was answered, and the memory as it left it.
pub record Made : Type 0 where
  pub call : Call
  pub answer : Answer
  pub memory : List ℕ

-- Each call got the memory as the last one left it, and did what its contract says.
abbrev pub Chain : List ℕ → List Made → Type 0
Chain start [] = Unit {0}
Chain start (made ∷ later) = Does start made.call made.answer made.memory × Chain made.memory later

-- ".. its points are the start and the end of each call": the memory at point p, and the calls with their answers between the points p and p + n.
abbrev pub memory_at : List ℕ → List Made → ℕ → List ℕ
memory_at start made zero = start
memory_at start [] (suc p) = start
memory_at start (made ∷ later) (suc p) = memory_at made.memory later p

abbrev pub event_of : Made → Event
event_of made = record { call = made.call; answer = made.answer }

abbrev pub made_between : List Made → ℕ → ℕ → List Event
made_between made p n = take n (drop p (map event_of made))

abbrev pub calls_of : List Made → List Call
calls_of made = map (λ (one : Made). one.call) made

-- The book that bytes hold; where they hold none, no shipment.
abbrev pub book_of : Option Book → Book
book_of none = []
book_of (some book) = book

abbrev pub book_in_bytes : List ℕ → Book
book_in_bytes m = book_of (read_book m)

-- Whether order j's money leaves the shipment by a call that was made, by the bytes before and after it and its answer; and how often in a list.
abbrev pub leaves_bytes : Money → Ident → ℕ → List ℕ → Made → Bool
leaves_bytes money ident j before made =
    is_for ident made.call
    && (moved made.call made.answer).takes_from money j (order_by_index j (find ident (book_in_bytes before))) (order_by_index j (find ident (book_in_bytes made.memory)))

abbrev pub times_left_bytes : Money → Ident → ℕ → List ℕ → List Made → ℕ
times_left_bytes money ident j start [] = 0
times_left_bytes money ident j start (made ∷ later) =
    only_if (leaves_bytes money ident j start made) 1 + times_left_bytes money ident j made.memory later

-- One call of the list, from the bytes before it.
pub record AtMade (before : List ℕ) (made : Made) : Type 0 where
  -- "Refused calls .. move none of these numbers": they move no byte.
  pub refused : is_refusal made.answer ≡ true → made.memory ≡ before
  -- ".. calls for other shipments move none of these numbers."
  pub others : (ident : Ident) → is_for ident made.call ≡ false → find ident (book_in_bytes made.memory) ≡ find ident (book_in_bytes before)
  -- ".. no order's money leaves .. in part."
  pub entire : (ident : Ident) (money : Money) → is_for ident made.call ≡ true
      → (moved made.call made.answer).goes_out money
      ≡ below (orders_of (find ident (book_in_bytes before)))
      (λ j. only_if (leaves_bytes money ident j before made) (worth_of_order money j (find ident (book_in_bytes before))))
      + (moved made.call made.answer).surplus money
  -- A return's count, and ".. nothing of that money waits there after."
  pub counted : (ident : Ident) (route : Route) (money : Money) → made.call ≡ On ident (Return route money)
      → (n : ℕ) → (moved made.call made.answer).count ≡ some n
      → n ≡ below (orders_of (find ident (book_in_bytes before))) (λ j. only_if (leaves_bytes money ident j before made) 1)
  pub emptied : (ident : Ident) (route : Route) (money : Money) → made.call ≡ On ident (Return route money) → is_refusal made.answer ≡ false
      → of_shipment (waiting route money) (find ident (book_in_bytes made.memory)) ≡ 0

abbrev pub AtEachMade : List ℕ → List Made → Type 0
AtEachMade start [] = Unit {0}
AtEachMade start (made ∷ later) = AtMade start made × AtEachMade made.memory later

-- No answer says that the memory could not be read.
abbrev pub is_intake : Call → Bool
is_intake (Intake profile name file) = true
is_intake (Transfer title amount) = false
is_intake (On ident act) = false

abbrev pub AnsweredAsRead : List Made → Type 0
AnsweredAsRead [] = Unit {0}
AnsweredAsRead (made ∷ later) =
    (is_intake made.call ≡ false → made.answer ≡ Refused 10 → ⊥)
    × ((is_intake made.call ≡ true → made.answer ≡ Refused 900 → ⊥) × AnsweredAsRead later)

pub record Listed (start : List ℕ) (made : List Made) : Type 0 where
  -- "Held, free and every answer in the list are those of document 01's book, given the same calls": at every point the bytes hold that book, whole.
  pub books : (p : ℕ) → read_book (memory_at start made p) ≡ some (book_at (calls_of made) p)
  pub answers : map event_of made ≡ events [] (calls_of made)
  -- "Take any two points of the list, any shipment (all zero before its intake), and amounts or fees alone. Transfers accepted between the points equal
  -- the rise in money its orders hold, plus the rise in its free money, plus all that left ..": held and free in the bytes at the points, accepted and
  -- left by the answers given between them.
  pub conserves : (p n : ℕ) (ident : Ident) (money : Money)
      → held_in money ident (book_in_bytes (memory_at start made p)) + free_in money ident (book_in_bytes (memory_at start made p))
      + sum_over (accepted_for money ident) (made_between made p n)
      ≡ held_in money ident (book_in_bytes (memory_at start made (p + n))) + free_in money ident (book_in_bytes (memory_at start made (p + n)))
      + sum_over (left_for money ident) (made_between made p n)
  -- "No free money is ever below zero .."
  pub never_below_zero : (p : ℕ) (ident : Ident) (money : Money) → Covered money (find ident (book_in_bytes (memory_at start made p)))
  -- ".. and no order's money leaves twice or in part."
  pub never_twice : (money : Money) (ident : Ident) (j : ℕ) → times_left_bytes money ident j start made ≤ 1
  pub at_each_call : AtEachMade start made
  -- "For every shipment, 10,000 times the sum of the rated parts plus the sum of the remainders equals the rate times the sum of the amounts." (document
  -- 02, A5): of every shipment in the bytes, at every point.
  pub divided : (p : ℕ) → AllDivided (book_in_bytes (memory_at start made p))
  -- Memory that only these calls write is always a sound book, so that no call but an intake ever answers 10 (of an intake it is document 01's 010),
  -- and no intake ever answers 900.
  pub never_unread : AnsweredAsRead made

-- The claim.
abbrev pub ListedFromEmpty : Type 0
ListedFromEmpty = (start : List ℕ) (made : List Made) → read_book start ≡ some [] → Chain start made → Listed start made
