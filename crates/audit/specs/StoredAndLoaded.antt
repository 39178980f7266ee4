-- Demand 3 of a list in which books are stored and loaded too.
--
-- "A list of calls with an accepted store and an accepted load of its bytes into any memory, back to back, anywhere in it moves money as the list
-- without them." (document 02, A4)
use Rattle.std.specs.Prelude.{◌≡◌, List, [], ◌∷◌, map, ℕ, zero, suc, ◌+◌, ◌≤◌, length, take, drop, Ok}
use Rattle.std.proofs.Math.Option.{some}
use Rattle.money.specs.declared.Money.{Money}
use Rattle.epe.specs.declared.ident.Ident.{Ident}
use Rattle.model.specs.Shipment.{only_if, sum_over}
use Rattle.model.specs.Book.{Book, find}
use Rattle.model.specs.Sound.{AllDivided}
use Rattle.model.specs.Demand.{Event, accepted_for, left_for, events, book_at, held_in, free_in, Covered}
use Rattle.memory.specs.Read.{read_book}
use Rattle.book.specs.Does.{Does}
use Rattle.store.specs.Stored.{stored_into}
use Rattle.store.specs.Unstored.{Loads}
use Rattle.audit.specs.Listed.{Made, Chain, memory_at, event_of, calls_of, book_in_bytes, leaves_bytes, AtMade, AnsweredAsRead}

-- An accepted store of the book in memory, and an accepted load of its bytes into any memory, the same or another: what was lent to store, how many bytes
-- it answered and what it left there; and what was lent to load, which took exactly those bytes and left `after`.
pub record Reloaded (before after : List ℕ) : Type 0 where
  pub output : List ℕ
  pub n : ℕ
  pub stored : List ℕ
  pub lent : List ℕ
  pub store_accepted : record { answer = Ok n; output = stored } ≡ stored_into (read_book before) output
  pub load_accepted : Loads lent (take n stored) (Ok tt) after

-- One of the list: a call that was made, or a store and a load back to back, with the memory that they left.
pub data Link : Type 0 where
  Called : Made → Link
  Carried : List ℕ → Link

-- Each call and each store got the memory as the last one left it, and did what its contract says.
abbrev pub ChainWithPairs : List ℕ → List Link → Type 0
ChainWithPairs start [] = Unit {0}
ChainWithPairs start (Called made ∷ later) = Does start made.call made.answer made.memory × ChainWithPairs made.memory later
ChainWithPairs start (Carried memory ∷ later) = Reloaded start memory × ChainWithPairs memory later

-- The list without them.
abbrev pub without : List Link → List Made
without [] = []
without (Called made ∷ later) = made ∷ without later
without (Carried memory ∷ later) = without later

-- Its points are the start and the end of each call and of each pair: the memory at point p, how many calls were made up to it, and the calls with their
-- answers between the points p and p + n.
abbrev pub memory_at_point : List ℕ → List Link → ℕ → List ℕ
memory_at_point start list zero = start
memory_at_point start [] (suc p) = start
memory_at_point start (Called made ∷ later) (suc p) = memory_at_point made.memory later p
memory_at_point start (Carried memory ∷ later) (suc p) = memory_at_point memory later p

abbrev pub calls_before : List Link → ℕ → ℕ
calls_before list p = length (without (take p list))

abbrev pub called_between : List Link → ℕ → ℕ → List Event
called_between list p n = map event_of (without (take n (drop p list)))

-- How often order j's money leaves the shipment, by the bytes before and after each call.
abbrev pub times_left_with_pairs : Money → Ident → ℕ → List ℕ → List Link → ℕ
times_left_with_pairs money ident j start [] = 0
times_left_with_pairs money ident j start (Called made ∷ later) =
    only_if (leaves_bytes money ident j start made) 1 + times_left_with_pairs money ident j made.memory later
times_left_with_pairs money ident j start (Carried memory ∷ later) = times_left_with_pairs money ident j memory later

-- Each call does to the bytes that it got what it does in a list of calls alone, and a pair moves nothing: its memory holds the same book.
abbrev pub AtEachLink : List ℕ → List Link → Type 0
AtEachLink start [] = Unit {0}
AtEachLink start (Called made ∷ later) = AtMade start made × AtEachLink made.memory later
AtEachLink start (Carried memory ∷ later) = (read_book memory ≡ read_book start) × AtEachLink memory later

-- Demand 3, as `Listed` says it, at every point of the list with the pairs.
pub record ListedWithPairs (start : List ℕ) (list : List Link) : Type 0 where
  pub books : (p : ℕ) → read_book (memory_at_point start list p) ≡ some (book_at (calls_of (without list)) (calls_before list p))
  pub answers : map event_of (without list) ≡ events [] (calls_of (without list))
  pub conserves : (p n : ℕ) (ident : Ident) (money : Money)
      → held_in money ident (book_in_bytes (memory_at_point start list p)) + free_in money ident (book_in_bytes (memory_at_point start list p))
      + sum_over (accepted_for money ident) (called_between list p n)
      ≡ held_in money ident (book_in_bytes (memory_at_point start list (p + n))) + free_in money ident (book_in_bytes (memory_at_point start list (p + n)))
      + sum_over (left_for money ident) (called_between list p n)
  pub never_below_zero : (p : ℕ) (ident : Ident) (money : Money) → Covered money (find ident (book_in_bytes (memory_at_point start list p)))
  pub never_twice : (money : Money) (ident : Ident) (j : ℕ) → times_left_with_pairs money ident j start list ≤ 1
  pub at_each_link : AtEachLink start list
  pub divided : (p : ℕ) → AllDivided (book_in_bytes (memory_at_point start list p))
  pub never_unread : AnsweredAsRead (without list)

abbrev pub ListedWithPairsFromEmpty : Type 0
ListedWithPairsFromEmpty = (start : List ℕ) (list : List Link) → read_book start ≡ some [] → ChainWithPairs start list → ListedWithPairs start list

-- ".. as the list without them": the same calls made alone, on memory that holds the same book, whichever, are answered alike, and at every point of the
-- list with the pairs the bytes hold the book that those of the list without them hold after as many calls.
pub record AsWithout (start : List ℕ) (list : List Link) (alone : List ℕ) (made : List Made) : Type 0 where
  pub answers : map event_of (without list) ≡ map event_of made
  pub books : (p : ℕ) → read_book (memory_at_point start list p) ≡ read_book (memory_at alone made (calls_before list p))

abbrev pub MovesAsWithout : Type 0
MovesAsWithout = (book : Book) (start : List ℕ) (list : List Link) (alone : List ℕ) (made : List Made)
    → read_book start ≡ some book → read_book alone ≡ some book → ChainWithPairs start list → Chain alone made
    → calls_of made ≡ calls_of (without list) → AsWithout start list alone made
