-- The book and one step of it: the questions in order, the next book, the answer. Document 01, "The book".
use Rattle.std.specs.Prelude.{Bool, true, false, cond, ◌&&◌, List, [], ◌∷◌, ◌++◌, map, ℕ, ◌+◌, leb, ltb, eqb, length}
use Rattle.std.proofs.Math.Option.{Option, some, none}
use Rattle.money.specs.Money.{fee, is_transfer}
use Rattle.fee.specs.Fee.{remainder_of, fee_of}
use Rattle.fee.specs.declared.Terms.{Terms}
use Rattle.epe.specs.Questions.{Question, ◌else_no◌, asked}
use Rattle.epe.specs.Ident.{same_ident}
use Rattle.epe.specs.Name.{name_of, title_questions, title_of}
use Rattle.epe.specs.Opening.{opening_questions}
use Rattle.contents.specs.Contents.{contents_questions, orders, faulty_count}
use Rattle.epe.specs.Profile.{profile_questions, terms_for}
use Rattle.epe.specs.declared.ident.Ident.{Ident}
use Rattle.epe.specs.declared.name.Name.{Name}
use Rattle.epe.specs.declared.profile.Profile.{Profile}
use Rattle.contents.specs.declared.record.Order.{Order}
use Rattle.model.specs.Shipment.{most_shipments, most_rows, no_sums, Shipment, sum_over}
use Rattle.model.specs.Calls.{Call, Intake, Transfer, On, Answer, Refused, Accepted, Outcome, transferred, acted}
use Rattle.model.specs.declared.Row.{Row}
use Rattle.model.specs.declared.Stage.TheVariants.{Waiting}
use Rattle.model.specs.declared.State.{State}
use Rattle.model.specs.declared.State.TheVariants.{Open, Faulty}

-- "Lent memory with up to 32 shipments in order of intake."
abbrev pub Book : Type 0
Book = List Shipment

-- What a call leaves of the book, and its answer.
pub record Step : Type 0 where
  pub book : Book
  pub answer : Answer

abbrev pub stay : Answer → Book → Step
stay answer book = record { book = book; answer = answer }

-- A question answered no: its number is the answer, and the book is as it was.
abbrev pub refusing_in : Book → ℕ → Step
refusing_in book number = stay (Refused number) book

-- The first shipment that fits takes the call; where none does, 13.
abbrev pub on_first : (Shipment → Bool) → (Shipment → Outcome) → Book → Step
on_first is does [] = stay (Refused 13) []
on_first is does (s ∷ book) =
    cond (is s) (record { book = (does s).shipment ∷ book; answer = (does s).answer })
    (record { book = s ∷ (on_first is does book).book; answer = (on_first is does book).answer })

abbrev pub is_called : Ident → Shipment → Bool
is_called ident s = same_ident ident s.agreed.name.ident

-- "Name in the book" compares the whole name: identifier, date, A or B, and kind.
unfoldable pub same_name : Name → Name → Bool
same_name a b =
    same_ident a.ident b.ident
    && (eqb a.date.0 b.date.0 && (eqb a.payment b.payment && eqb a.kind b.kind))

abbrev pub find : Ident → Book → Option Shipment
find ident [] = none
find ident (s ∷ book) = cond (is_called ident s) (some s) (find ident book)

abbrev pub is_unknown : Ident → Book → Bool
is_unknown ident [] = true
is_unknown ident (s ∷ book) = cond (is_called ident s) false (is_unknown ident book)

abbrev pub rows_in : Book → ℕ
rows_in book = sum_over (λ (s : Shipment). length s.rows) book

-- "Intake adds a shipment that is Waiting, without go-ahead or money, its orders Open or Faulty with both moneys waiting."
-- ".. and rows their fee and remainder .." (document 02, A5).
abbrev pub entered_state : Order → State
entered_state order = cond (eqb order.fault 0) Open (Faulty order.fault true true)

abbrev pub entered_row : Terms → Order → Row
entered_row terms order = record {
  amount = order.amount;
  fee = fee (fee_of terms order.amount.0);
  remainder = remainder_of terms order.amount.0;
  state = entered_state order;
}

abbrev pub new_shipment : Name → Terms → List Row → Shipment
new_shipment name terms rows = record {
  agreed = record { name = name; terms = terms };
  stage = Waiting;
  go_ahead = false;
  accepted_sums = no_sums;
  returned_sums = no_sums;
  rows = rows;
}

-- ".. fee F (the profile's for its kind) .."
unfoldable pub entered : Profile → Name → List Order → Shipment
entered profile name orders = new_shipment name (terms_for profile name.kind) (map (entered_row (terms_for profile name.kind)) orders)

-- "Fewer than 32 shipments in the book? 903. Its orders fit with those present in 2,048 rows? 904"
abbrev pub room_questions : ℕ → Book → List Question
room_questions n book = (ltb (length book) most_shipments else_no 903) ∷ (leb (rows_in book + n) most_rows else_no 904) ∷ []

-- "Profile within the ranges above? 905", 907, the opening, "Identifier not yet in the book? 101", the contents, and the room.
unfoldable pub intake_questions : Profile → List ℕ → List ℕ → Book → List Question
intake_questions profile name file book =
    profile_questions profile
    ++ (opening_questions name file
    ++ ((is_unknown (name_of name).ident book else_no 101)
    ∷ (contents_questions profile file
    ++ room_questions (length (orders file)) book)))

unfoldable pub taken_in : Profile → List ℕ → List ℕ → Book → Step
taken_in profile name file book =
    asked (intake_questions profile name file book) (refusing_in book)
    (stay (Accepted (length (orders file)) (faulty_count (orders file))) (book ++ (entered profile (name_of name) (orders file) ∷ [])))

-- "Transfer (title, amount): title is a shipment name in the form above, then `-K` or `-O`? 11. Amount 1 to 9,999,999,999,999? 12.
-- Name in the book? 13. Total accepted for that money still at most 9,999,999,999,999? 14. .."
unfoldable pub transferred_in : List ℕ → ℕ → Book → Step
transferred_in title amount book =
    asked (title_questions title ++ ((is_transfer amount else_no 12) ∷ [])) (refusing_in book)
    (on_first (λ (s : Shipment). same_name (title_of title).name s.agreed.name) (transferred (title_of title).money amount) book)

unfoldable pub step : Book → Call → Step
step book (Intake profile name file) = taken_in profile name file book
step book (Transfer title amount) = transferred_in title amount book
step book (On ident act) = on_first (is_called ident) (acted act) book
