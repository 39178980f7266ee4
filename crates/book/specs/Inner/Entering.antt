-- A shipment entered behind the last.
use Rattle.std.specs.Prelude.{◌≡◌, true, List, [], ◌∷◌, ◌++◌, ℕ, ◌+◌, ◌-◌, ◌≤◌, ◌<◌, length, get_or}
use Rattle.fee.specs.Fee.{TermsFit}
use Rattle.fee.specs.declared.Terms.{Terms}
use Rattle.epe.specs.Questions.{Question, asked}
use Rattle.epe.specs.Name.{name_in_form}
use Rattle.contents.specs.Accepted.{EachInRange, EachCharged}
use Rattle.contents.specs.Kept.{order_in, orders_in}
use Rattle.epe.specs.declared.name.Name.{Name}
use Rattle.model.specs.Shipment.{most_shipments, most_rows, Shipment}
use Rattle.model.specs.Calls.{Call, Answer, Accepted}
use Rattle.model.specs.Book.{Book, Step, stay, refusing_in, rows_in, entered_row, room_questions, step}
use Rattle.model.specs.declared.Row.{Row}
use Rattle.memory.specs.Layout.{size}
use Rattle.memory.specs.Read.{flags_from, shipments_in, book_in, sound_in}
use Rattle.book.specs.Does.{Does}

-- The row of the order that a table keeps for it, where the first is row k.
abbrev pub kept_row : Terms → ℕ → List ℕ → ℕ → Row
kept_row terms k kept r = entered_row terms (order_in kept (r - k))

-- There is room for a shipment as the i-th, its rows from the k-th on, and all that is to be entered is in its form.
pub record Fits (m : List ℕ) (i k : ℕ) (name : Name) (terms : Terms) (n : ℕ) (kept : List ℕ) : Type 0 where
  pub enough : size ≤ length m
  pub last : i ≡ shipments_in m
  pub few : i < most_shipments
  pub from : k ≡ rows_in (book_in m)
  pub room : k + n ≤ most_rows
  pub in_range : EachInRange (orders_in kept 0 n)
  pub charged : EachCharged terms (orders_in kept 0 n)
  pub in_form : name_in_form name ≡ true
  pub terms_fit_holds : TermsFit terms

-- The book then has it behind the last, and the memory behind the book is as it was.
pub record ShipmentEntered (s : Shipment) (m m' : List ℕ) : Type 0 where
  pub book : book_in m' ≡ book_in m ++ (s ∷ [])
  pub flags : flags_from m 0 (shipments_in m) ≡ true → flags_from m' 0 (shipments_in m') ≡ true
  pub behind : (j : ℕ) → size ≤ j → get_or m' j 0 ≡ get_or m j 0
  pub as_long : length m' ≡ length m

-- Questions that are left, the room for n orders, and then the shipment is entered.
abbrev pub entered_in : List Question → Shipment → ℕ → ℕ → Book → Step
entered_in left s n faulty book = asked (left ++ room_questions n book) (refusing_in book) (stay (Accepted n faulty) (book ++ (s ∷ [])))

-- A file for a book of i shipments: the book is sound, and the name and the terms are in form.
pub record Opened (m : List ℕ) (i : ℕ) (name : Name) (terms : Terms) : Type 0 where
  pub sound : sound_in m ≡ true
  pub last : i ≡ shipments_in m
  pub in_form : name_in_form name ≡ true
  pub terms_fit_holds : TermsFit terms

-- Its contents passed: a table keeps its n orders, each in range and with a fee, unless they are more than a book has rows.
pub record Counted (terms : Terms) (n : ℕ) (kept : List ℕ) : Type 0 where
  pub in_range : n ≤ most_rows → EachInRange (orders_in kept 0 n)
  pub charged : n ≤ most_rows → EachCharged terms (orders_in kept 0 n)

-- What an intake promises of which only these questions and the room are left.
pub record DoesEnter (left : List Question) (s : Shipment) (n faulty : ℕ) (before : List ℕ) (answer : Answer) (after : List ℕ) : Type 0 where
  pub by_call : (call : Call) → step (book_in before) call ≡ entered_in left s n faulty (book_in before) → Does before call answer after
