-- A call that does at its shipment's place what the model does to a shipment does to the memory what the model does to the book.
-- Assumes nothing.
use mathlib.Core.Path.{◌≡◌, refl, sym, ◌∙◌}
use mathlib.Core.Bool.{Bool, true, false}
use mathlib.Core.List.{List}
use Prim.Native.Nat.{ℕ, ◌≤◌}
use native.Mathlib.Omega.{arith}
use borrow.Author.Tests.{le-leb}
use lib.ListN.{length, get_or}
use Rattle.std.specs.Prelude.{None, Ok, Err}
use Rattle.epe.specs.declared.ident.Ident.{Ident}
use Rattle.model.specs.Shipment.{Shipment}
use Rattle.model.specs.Calls.{Call, Act, On, acted, Answer, Refused, changes_nothing, Outcome}
use Rattle.model.specs.Book.{Book, stay, step}
use Rattle.model.specs.Sound.{sound}
use Rattle.model.proofs.StaysSound.{stays_sound}
use Rattle.memory.specs.Layout.{size}
use Rattle.memory.specs.declared.place.Place.{Place}
use Rattle.memory.specs.Read.{shipments_in, book_in, sound_in, read_book}
use Rattle.sound.proofs.ReadLaws.{sound_parts}
use Rattle.acts.specs.Refusal.{number_of}
use Rattle.acts.specs.declared.refusal.Refusal.{Refusal}
use Rattle.acts.specs.Inner.Place.{called_in, place_from, place_in, ActAt}
use Rattle.acts.proofs.PlaceInBook.{no_place, at_place}
use Rattle.book.specs.Does.{unreadable, Does}
use Rattle.book.specs.Inner.Sought.{Seeks, DoesSought}
use Rattle.book.proofs.ShipmentOfCall.{seeks_called}
use Rattle.book.proofs.OtherShipmentsKept.{none_found, first_acted, flags_kept}

-- memory that is no sound book
pub does_no_book : {m : List ℕ} {call : Call} {answer : Answer} → unreadable call ≡ answer → sound_in m ≡ false → Does m call answer m
unfolding read_book
does_no_book unread unsound = record {
  unsound = λ read. sym unread;
  answers = λ book read. let held = rw unsound at read in cc;
  leaves = λ book read. let held = rw unsound at read in cc;
  unmoved = λ still. refl;
  behind = λ j far. refl;
  as_long = refl;
}

-- a sound book, and after it the sound book that the step leaves
pub does_step : {m m' : List ℕ} {call : Call} {answer : Answer} → sound_in m ≡ true → sound_in m' ≡ true
    → step (book_in m) call ≡ record { book = book_in m'; answer = answer }
    → (changes_nothing answer ≡ true → m' ≡ m) → ((j : ℕ) → size ≤ j → get_or m' j 0 ≡ get_or m j 0) → length m' ≡ length m → Does m call answer m'
unfolding read_book
does_step {m} before after stepped unmoved behind as_long = record {
  unsound = λ read. let held = rw before at read in cc;
  answers = λ book read. let held = rw before at read in let same : book_in m ≡ book = cc in rw (← same, stepped);
  leaves = λ book read. let held = rw before at read in let same : book_in m ≡ book = cc in rw (← same, stepped, after);
  unmoved = unmoved;
  behind = behind;
  as_long = as_long;
}

pub stays : {m : List ℕ} {call : Call} {number : ℕ} → sound_in m ≡ true → step (book_in m) call ≡ stay (Refused number) (book_in m)
    → Does m call (Refused number) m
stays h stepped = does_step h h stepped (λ refusal. refl) (λ j far. refl) refl

-- a question on the book that refuses the call before a shipment is looked for
pub does_refused : {m : List ℕ} {call : Call} {number : ℕ} → sound_in m ≡ true → ((book : Book) → step book call ≡ stay (Refused number) book)
    → Does m call (Refused number) m
does_refused {m} h stepped = stays h (stepped (book_in m))

-- a call that looks for its shipment
module _ {is : List ℕ → Bool} {does : Shipment → Outcome} {call : Call} (seeks : Seeks is does call) {m : List ℕ} where
  does_unknown : sound_in m ≡ true → place_from is m 0 0 (shipments_in m) ≡ None → Does m call (Refused 13) m
  unfolding book_in
  does_unknown held none = stays held (seeks.steps (book_in m) ∙ none_found seeks m 0 0 (shipments_in m) none)

  pub not_placed : {refusal : Refusal} → Err refusal ≡ place_in is m → Does m call (Refused (number_of refusal)) m
  not_placed e =
      no_place is m e (λ same unsound. rw same (does_no_book seeks.unread unsound)) (λ same held none. rw same (does_unknown held none))

  module _ {m' : List ℕ} {place : Place} {answer : Answer} (placed : Ok place ≡ place_in is m) (act : ActAt m place.head place.row does answer m') where
    stepped : step (book_in m) call ≡ record { book = book_in m'; answer = answer }
    unfolding book_in
    stepped =
        let at_shipment = at_place is m place placed in
        let whole = sound_parts m at_shipment.0 in
        rw act.only.shipments (seeks.steps (book_in m) ∙ first_acted seeks act at_shipment.1 (omega arith) (omega (arith, whole.rows)))

    sound_after : sound_in m' ≡ true
    unfolding sound_in
    sound_after =
        let whole = sound_parts m (at_place is m place placed).0 in
        let kept = flags_kept act 0 (shipments_in m) (omega arith) whole.flags in
        let enough = le-leb size (length m') (rw act.only.as_long whole.enough) in
        let book : sound (book_in m') ≡ true = rw stepped at (stays_sound.keeps (book_in m) call whole.book) in
        rw (enough, act.only.shipments, kept, book)

    pub does_at : Does m call answer m'
    does_at = does_step (at_place is m place placed).0 sound_after stepped act.unmoved act.only.behind act.only.as_long

-- the same of what a call promises that looks for its shipment
module _ {is : List ℕ → Bool} {does : Shipment → Outcome} {m : List ℕ} where
  pub not_sought : {refusal : Refusal} → Err refusal ≡ place_in is m → DoesSought is does m (Refused (number_of refusal)) m
  not_sought e = record { by_call = λ call seeks. not_placed seeks e }

  pub sought_at : {m' : List ℕ} {place : Place} {answer : Answer} → Ok place ≡ place_in is m → ActAt m place.head place.row does answer m'
      → DoesSought is does m answer m'
  sought_at placed act = record { by_call = λ call seeks. does_at seeks placed act }

-- and of one that acts on the shipment of an identifier
module _ {ident : Ident} (act : Act) {m : List ℕ} where
  pub not_called : {refusal : Refusal} → Err refusal ≡ place_in (called_in ident) m → Does m (On ident act) (Refused (number_of refusal)) m
  not_called = not_placed (seeks_called ident act)

  pub called_at : {m' : List ℕ} {place : Place} {answer : Answer} → Ok place ≡ place_in (called_in ident) m
      → ActAt m place.head place.row (acted act) answer m' → Does m (On ident act) answer m'
  called_at = does_at (seeks_called ident act)
