-- Demand 3 over the lent memory. From memory that holds an empty book, a chain of calls goes as document 01's book goes: so all that is proved of
-- that book holds of the bytes at every point and of every answer.
-- Assumes nothing.
use mathlib.Core.Path.{◌≡◌, refl, sym, ◌∙◌}
use mathlib.Core.List.{List, [], ◌∷◌, map}
use mathlib.Core.Option.{some}
use Prim.Native.Nat.{ℕ, zero, suc, ◌+◌}
use lib.ListN.{take}
use Rattle.money.specs.declared.Money.{Money}
use Rattle.epe.specs.declared.ident.Ident.{Ident}
use Rattle.model.specs.Book.{Book, step}
use Rattle.model.specs.Demand.{run, events, leaves, times_left, AtCall, AtEachCall}
use Rattle.model.proofs.Demand3.{demand3}
use Rattle.model.proofs.Divided.{always_divided}
use Rattle.memory.specs.Read.{read_book}
use Rattle.model.proofs.Asking.{refusal_moves_nothing}
use Rattle.book.specs.Does.{Does}
use Rattle.audit.specs.Listed.{Made, Chain, memory_at, event_of, calls_of, leaves_bytes, times_left_bytes}
use Rattle.audit.specs.Listed.{AtMade, AtEachMade, AnsweredAsRead, ListedFromEmpty}
use Rattle.audit.proofs.NeverUnread.{never_10, never_900}

-- one call, on memory that holds a book
module _ {book : Book} {before : List ℕ} {made : Made} (held : read_book before ≡ some book)
    (does : Does before made.call made.answer made.memory) where
  pub left : read_book made.memory ≡ some (step book made.call).book
  left = does.leaves book held

  pub answered : made.answer ≡ (step book made.call).answer
  answered = does.answers book held

  pub leaves_alike : (money : Money) (ident : Ident) (j : ℕ) → leaves_bytes money ident j before made ≡ leaves money ident j book made.call
  leaves_alike money ident j = rw (held, left, answered)

  pub at_made : AtCall book made.call → AtMade before made
  at_made at = record {
    refused = λ refusal. does.unmoved (refusal_moves_nothing made.answer refusal);
    others = λ ident other. rw (held, left) (at.others ident other);
    entire = λ ident money own. rw (held, left, answered) (at.entire ident money own);
    counted = λ ident route money return n. rw (held, left, answered) (at.counted ident route money return n);
    emptied = λ ident route money return accepted. rw left (at.emptied ident route money return (rw answered at accepted));
  }

-- a chain of calls, and the book that each of them found
pub data Follows : Book → List ℕ → List Made → Type 0 where
  ends : {book : Book} {start : List ℕ} → read_book start ≡ some book → Follows book start []
  goes : {book : Book} {start : List ℕ} {made : Made} {later : List Made} → read_book start ≡ some book
      → Does start made.call made.answer made.memory → Follows (step book made.call).book made.memory later
      → Follows book start (made ∷ later)

pub follows : (book : Book) (start : List ℕ) (made : List Made) → read_book start ≡ some book → Chain start made → Follows book start made
follows book start [] held chain = ends held
follows book start (made ∷ later) held chain =
    goes held chain.0 (follows (step book made.call).book made.memory later (left held chain.0) chain.1)

pub points : {book : Book} {start : List ℕ} {made : List Made} → Follows book start made → (p : ℕ)
    → read_book (memory_at start made p) ≡ some (run book (take p (calls_of made)))
points (ends held) zero = held
points (ends held) (suc p) = held
points (goes held does later) zero = held
points (goes held does later) (suc p) = points later p

pub answers : {book : Book} {start : List ℕ} {made : List Made} → Follows book start made → map event_of made ≡ events book (calls_of made)
answers (ends held) = refl
answers (goes held does later) = rw (answered held does, answers later)

times_left_lem : {book : Book} {start : List ℕ} {made : List Made} → Follows book start made → (money : Money) (ident : Ident) (j : ℕ)
    → times_left_bytes money ident j start made ≡ times_left money ident j book (calls_of made)
times_left_lem (ends held) money ident j = refl
times_left_lem (goes held does later) money ident j = rw (leaves_alike held does money ident j, times_left_lem later money ident j)

at_each : {book : Book} {start : List ℕ} {made : List Made} → Follows book start made → AtEachCall book (calls_of made) → AtEachMade start made
at_each (ends held) at = tt
at_each (goes held does later) at = (at_made held does at.0, at_each later at.1)

as_read : {book : Book} {start : List ℕ} {made : List Made} → Follows book start made → AnsweredAsRead made
as_read (ends held) = tt
as_read (goes {book} {made = one} held does later) =
    let same = sym (answered held does) in
    (λ other unread. never_10 book one.call other (same ∙ unread), (λ own unread. never_900 book one.call own (same ∙ unread), as_read later))

pub listed : ListedFromEmpty
listed start made held chain =
    let demand = demand3 (calls_of made) in
    let calls = follows [] start made held chain in
    let at = points calls in
    record {
      books = at;
      answers = answers calls;
      conserves = λ p n ident money. rw (at p, at (p + n), answers calls) (demand.conserves p n ident money);
      never_below_zero = λ p ident money. rw (at p) (demand.never_below_zero p ident money);
      never_twice = λ money ident j. rw (times_left_lem calls money ident j) (demand.never_twice money ident j);
      at_each_call = at_each calls demand.at_each_call;
      divided = λ p. rw (at p) (always_divided (calls_of made) p);
      never_unread = as_read calls;
    }
