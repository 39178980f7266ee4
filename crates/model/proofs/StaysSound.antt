-- A book begun empty is always sound: every step from a sound book leaves a sound book.
-- Assumes nothing.
use mathlib.Core.Path.{◌≡◌, refl, ◌∙◌, ap}
use mathlib.Core.Bool.{Bool, true, false, cond, ◌&&◌, false≢true}
use mathlib.Core.List.{List, [], ◌∷◌, ◌++◌, map}
use Prim.Native.Nat.{ℕ, suc, ◌+◌, ◌≤◌, ◌<◌}
use native.Mathlib.Omega.{arith}
use borrow.Author.Tests.{leb-true, le-leb, ltb-true, eqb-false}
use lib.Dec.{leb, ltb, eqb}
use lib.ListN.{length, take, length-append, length-map}
use Rattle.text.specs.Bytes.{between}
use Rattle.text.proofs.Branches.{both_yes, cond_either}
use Rattle.money.specs.Money.{order_cap, WithinOrder}
use Rattle.money.specs.declared.Money.{Money}
use Rattle.money.specs.declared.Money.TheVariants.{K, O}
use Rattle.fee.specs.Fee.{fee_of}
use Rattle.fee.specs.declared.Terms.{Terms}
use Rattle.fee.proofs.Division.{divides_alone}
use Rattle.epe.specs.Questions.{Passed}
use Rattle.epe.specs.Ident.{same_ident}
use Rattle.epe.specs.Name.{name_of, name_questions, name_in_form, title_of}
use Rattle.epe.specs.Opening.{file_questions, fixed_questions, repeated_questions, opening_questions, opening}
use Rattle.epe.specs.File.{header}
use Rattle.contents.specs.Contents.{contents_questions, contents, orders}
use Rattle.contents.specs.Accepted.{OrderInRange, EachInRange, EachCharged}
use Rattle.epe.specs.Profile.{profile_questions, Fitting, terms_for}
use Rattle.epe.specs.declared.ident.Ident.{Ident}
use Rattle.epe.specs.declared.name.Name.{Name}
use Rattle.epe.specs.declared.profile.Profile.{Profile}
use Rattle.contents.specs.declared.record.Order.{Order}
use Rattle.contents.proofs.AcceptedAsStated.{accepted_as_stated}
use Rattle.epe.proofs.NameLaws.{parts_in_form}
use Rattle.epe.proofs.ProfileLaws.{terms_fit_holds}
use Rattle.epe.proofs.QuestionLaws.{asked_either, all_yes, all_yes_passed, yes_before, yes_behind}
use Rattle.model.specs.Shipment.{most_shipments, most_rows, Shipment}
use Rattle.model.specs.Calls.{Call, Intake, Transfer, On, Refused, Outcome, transferred, acted}
use Rattle.model.specs.Book.{Book, Step, stay, refusing_in, on_first, is_called, is_unknown, rows_in}
use Rattle.model.specs.Book.{entered_row, entered, intake_questions, taken_in, step}
use Rattle.model.specs.Sound.{fault_in_range, before_pairing, row_sound, rows_sound, shipment_sound, shipments_sound, sound, StaysSound, AlwaysSound}
use Rattle.model.specs.Demand.{run}
use Rattle.model.specs.declared.Stage.TheVariants.{Waiting}
use Rattle.model.specs.declared.State.{State}
use Rattle.model.specs.declared.State.TheVariants.{Open, Faulty}
use Rattle.model.proofs.Asking.{transfer_either}
use Rattle.model.proofs.Known.{same_back, unknown_first, unknown_rest, append_unknown}
use Rattle.model.proofs.StatedKind.{stated_terms_lem}
use Rattle.model.proofs.SoundParts.{halves, MoneyInOrder, InOrder, in_order, shipment_sound_lem}
use Rattle.model.proofs.ActsKeepSound.{Kept, transferred_kept, acted_kept}

-- The parts of a sound book, and of one with a first shipment.
pub record BookInOrder (book : Book) : Type 0 where
  pub few : length book ≤ most_shipments
  pub rows_fit : rows_in book ≤ most_rows
  pub shipments : shipments_sound book ≡ true

pub book_in_order : (book : Book) → sound book ≡ true → BookInOrder book
unfolding sound
book_in_order book h = record {
  few = leb-true (length book) most_shipments (search halves);
  rows_fit = leb-true (rows_in book) most_rows (search halves);
  shipments = search halves;
}

book_sound : (book : Book) → BookInOrder book → sound book ≡ true
unfolding sound
book_sound book h = both_yes _ _ (le-leb (length book) most_shipments h.few) (both_yes _ _ (le-leb (rows_in book) most_rows h.rows_fit) h.shipments)

pub record FirstInOrder (s : Shipment) (book : Book) : Type 0 where
  pub first : shipment_sound s ≡ true
  pub known_once : is_unknown s.agreed.name.ident book ≡ true
  pub rest : shipments_sound book ≡ true

pub first_in_order : (s : Shipment) (book : Book) → shipments_sound (s ∷ book) ≡ true → FirstInOrder s book
unfolding shipments_sound
first_in_order s book h = record { first = search halves; known_once = search halves; rest = search halves }

first_sound : (s : Shipment) (book : Book) → FirstInOrder s book → shipments_sound (s ∷ book) ≡ true
unfolding shipments_sound
first_sound s book h = both_yes _ _ h.first (both_yes _ _ h.known_once h.rest)

-- What a call on one shipment leaves of the book.
record BookKept (before : Book) (after : Step) : Type 0 where
  shipments : shipments_sound after.book ≡ true
  as_many : length after.book ≡ length before
  same_rows : rows_in after.book ≡ rows_in before
  same_known : (ident : Ident) → is_unknown ident after.book ≡ is_unknown ident before

-- the first that fits takes the call
module _ (is : Shipment → Bool) (does : Shipment → Outcome) (keeps : (s : Shipment) → InOrder s → Kept s (does s)) where
  first_kept : (book : Book) → shipments_sound book ≡ true → BookKept book (on_first is does book)
  first_kept [] h = record { shipments = h; as_many = refl; same_rows = refl; same_known = λ ident. refl }
  first_kept (s ∷ book) h =
      let parts = first_in_order s book h in
      let k = keeps s (in_order s parts.first) in
      let r = first_kept book parts.rest in
      cond_either (BookKept (s ∷ book)) (is s)
      (record { book = (does s).shipment ∷ book; answer = (does s).answer })
      (record { book = s ∷ (on_first is does book).book; answer = (on_first is does book).answer })
      (λ e. record {
        shipments = first_sound (does s).shipment book (record {
          first = shipment_sound_lem (does s).shipment k.in_order;
          known_once = ap (λ (name : Name). is_unknown name.ident book) k.same_name ∙ parts.known_once;
          rest = parts.rest;
        });
        as_many = refl;
        same_rows = ap (λ (n : ℕ). n + rows_in book) k.as_many;
        same_known = λ ident. ap (λ (name : Name). cond (same_ident ident name.ident) false (is_unknown ident book)) k.same_name;
      })
      (λ e. record {
        shipments = first_sound s (on_first is does book).book (record {
          first = parts.first;
          known_once = r.same_known s.agreed.name.ident ∙ parts.known_once;
          rest = r.shipments;
        });
        as_many = ap suc r.as_many;
        same_rows = ap (λ (n : ℕ). length s.rows + n) r.same_rows;
        same_known = λ ident. ap (λ (t : Bool). cond (is_called ident s) false t) (r.same_known ident);
      })

-- a name whose file opened is in form
pub opened_in_form : (name file : List ℕ) → opening name file ≡ Passed → name_in_form (name_of name) ≡ true
unfolding opening opening_questions
opened_in_form name file h =
    let behind = fixed_questions (header file) ++ repeated_questions name (header file) in
    let named = yes_behind (file_questions file) (name_questions name ++ behind) (all_yes (opening_questions name file) h) in
    parts_in_form name (all_yes_passed (name_questions name) (yes_before (name_questions name) behind named))

-- the orders of an accepted file enter sound
in_between : (low high n : ℕ) → low ≤ n → n ≤ high → between low high n ≡ true
in_between low high n l h = both_yes _ _ (le-leb low n l) (le-leb n high h)

not_zero : (n : ℕ) → (n ≡ 0 → ⊥) → 1 ≤ n
not_zero n f = omega arith

module _ (terms : Terms) where
  entered_row_lem : (order : Order) → OrderInRange order → WithinOrder (fee_of terms order.amount.0) → row_sound terms Waiting (entered_row terms order) ≡ true
  unfolding row_sound
  entered_row_lem order h charged =
      let fault = order.fault in
      let grosze = order.amount.0 in
      both_yes _ _
      (both_yes _ _ (in_between 1 order_cap grosze h.from_one h.to_the_cap)
      (both_yes _ _ (le-leb (fee_of terms grosze) order_cap charged) (divides_alone terms grosze).holds))
      (cond_either (λ (state : State). (fault_in_range state && before_pairing state) ≡ true) (eqb fault 0) Open (Faulty fault true true)
      (λ none. refl)
      (λ some. both_yes _ true (in_between 1 10 fault (not_zero fault (eqb-false fault 0 some)) h.fault_known) refl))

  entered_rows : (orders : List Order) → EachInRange orders → EachCharged terms orders → rows_sound terms Waiting (map (entered_row terms) orders) ≡ true
  unfolding rows_sound
  entered_rows [] h charged = refl
  entered_rows (order ∷ orders) h charged = both_yes _ _ (entered_row_lem order h.0 charged.0) (entered_rows orders h.1 charged.1)

entered_money : (money : Money) (profile : Profile) (name : Name) (orders : List Order) → MoneyInOrder money (entered profile name orders)
unfolding entered
entered_money K profile name orders = record { accepted_fits = omega arith; returned_fits = omega arith; covered = omega arith; unreturned = λ waiting. refl }
entered_money O profile name orders = record { accepted_fits = omega arith; returned_fits = omega arith; covered = omega arith; unreturned = λ waiting. refl }

entered_in_order : (profile : Profile) (name : Name) (orders : List Order) → Fitting profile → name_in_form name ≡ true → 1 ≤ length orders
    → EachInRange orders → EachCharged (terms_for profile name.kind) orders → InOrder (entered profile name orders)
unfolding entered
entered_in_order profile name orders fits formed some ranged charged = record {
  name_in_form = formed;
  terms_fit_holds = terms_fit_holds profile name.kind fits;
  an_order = omega (arith, length-map orders (entered_row (terms_for profile name.kind)));
  rows_sound = entered_rows (terms_for profile name.kind) orders ranged charged;
  go_ahead_with_faults = λ e. absurd (false≢true e);
  faults_with_go_ahead = λ p. absurd (false≢true p);
  moneys = λ money. entered_money money profile name orders;
}

-- a shipment behind a book in which its identifier was unknown
shipments_behind : (book : Book) (s : Shipment) → shipments_sound book ≡ true → shipment_sound s ≡ true → is_unknown s.agreed.name.ident book ≡ true
    → shipments_sound (book ++ (s ∷ [])) ≡ true
shipments_behind [] s h k e = first_sound s [] (record { first = k; known_once = refl; rest = h })
shipments_behind (x ∷ book) s h k e =
    let parts = first_in_order x book h in
    let ident = s.agreed.name.ident in
    first_sound x (book ++ (s ∷ [])) (record {
      first = parts.first;
      known_once = append_unknown x.agreed.name.ident book s parts.known_once (same_back ident x.agreed.name.ident (unknown_first ident x book e));
      rest = shipments_behind book s parts.rest k (unknown_rest ident x book e);
    })

rows_behind : (book : Book) (s : Shipment) → rows_in (book ++ (s ∷ [])) ≡ rows_in book + length s.rows
rows_behind [] s = omega arith
rows_behind (x ∷ book) s = omega (arith, rows_behind book s)

-- What is left of a sound book is sound.
record Left (after : Step) : Type 0 where
  is_sound : sound after.book ≡ true

module _ (book : Book) (h : sound book ≡ true) where
  refusal : (number : ℕ) → Left (stay (Refused number) book)
  refusal number = record { is_sound = h }

  on_first_lem : (is : Shipment → Bool) (does : Shipment → Outcome) → ((s : Shipment) → InOrder s → Kept s (does s)) → Left (on_first is does book)
  on_first_lem is does keeps =
      let b = book_in_order book h in
      let k = first_kept is does keeps book b.shipments in
      record {
        is_sound = book_sound (on_first is does book).book (record {
          few = omega (arith, b.few, k.as_many);
          rows_fit = omega (arith, b.rows_fit, k.same_rows);
          shipments = k.shipments;
        });
      }

  behind : (s : Shipment) → InOrder s → is_unknown s.agreed.name.ident book ≡ true → length book < most_shipments → rows_in book + length s.rows ≤ most_rows
      → sound (book ++ (s ∷ [])) ≡ true
  behind s k unknown few rows =
      let b = book_in_order book h in
      book_sound (book ++ (s ∷ [])) (record {
        few = omega (arith, length-append book (s ∷ []));
        rows_fit = omega (arith, rows_behind book s);
        shipments = shipments_behind book s b.shipments (shipment_sound_lem s k) unknown;
      })

  entered_behind : (profile : Profile) (name : Name) (orders : List Order) → InOrder (entered profile name orders) → is_unknown name.ident book ≡ true
      → length book < most_shipments → rows_in book + length orders ≤ most_rows → sound (book ++ (entered profile name orders ∷ [])) ≡ true
  unfolding entered
  entered_behind profile name orders k unknown few rows = behind (entered profile name orders) k unknown few (omega (arith, length-map orders (entered_row (terms_for profile name.kind))))

  taken_in_lem : (profile : Profile) (name file : List ℕ) → Left (taken_in profile name file book)
  unfolding taken_in intake_questions profile_questions opening contents
  taken_in_lem profile name file =
      let opened = opening_questions name file in
      let held = contents_questions profile file in
      asked_either Left (intake_questions profile name file book) (refusing_in book) _ refusal
      (λ yes.
      let behind = yes_behind opened _ yes.1.1 in
      let room = yes_behind held _ behind.1 in
      record {
        is_sound = new (yes.0, yes.1.0) (all_yes_passed opened (yes_before opened _ yes.1.1)) behind.0
            (all_yes_passed held (yes_before held _ behind.1)) room.0 room.1.0;
      })
    where
      new : Fitting profile → opening name file ≡ Passed → is_unknown (name_of name).ident book ≡ true → contents profile file ≡ Passed
          → ltb (length book) most_shipments ≡ true → leb (rows_in book + length (orders file)) most_rows ≡ true → sound (book ++ (entered profile (name_of name) (orders file) ∷ [])) ≡ true
      new fits opened unknown passed few rows =
          let stated = accepted_as_stated profile file passed in
          entered_behind profile (name_of name) (orders file)
          (entered_in_order profile (name_of name) (orders file) fits (opened_in_form name file opened) stated.at_least_one stated.in_range
          (rw (stated_terms_lem profile name file opened) at stated.charged))
          unknown (ltb-true (length book) most_shipments few) (leb-true (rows_in book + length (orders file)) most_rows rows)

  transferred_in_lem : (title : List ℕ) (amount : ℕ) → Left (step book (Transfer title amount))
  transferred_in_lem title amount =
      let money = (title_of title).money in
      transfer_either Left title amount book refusal (on_first_lem _ (transferred money amount) (transferred_kept money amount))

step_keeps : (book : Book) (call : Call) → sound book ≡ true → Left (step book call)
unfolding step
step_keeps book (Intake profile name file) h = taken_in_lem book h profile name file
step_keeps book (Transfer title amount) h = transferred_in_lem book h title amount
step_keeps book (On ident act) h = on_first_lem book h (is_called ident) (acted act) (acted_kept act)

pub stays_sound : StaysSound
unfolding sound shipments_sound
stays_sound = record { begins = refl; keeps = λ book call h. (step_keeps book call h).is_sound }

-- from a sound book every list of calls leads to a sound book
runs_sound : (book : Book) (calls : List Call) → sound book ≡ true → sound (run book calls) ≡ true
runs_sound book [] h = h
runs_sound book (call ∷ calls) h = runs_sound (step book call).book calls (stays_sound.keeps book call h)

pub always_sound : AlwaysSound
always_sound calls point = runs_sound [] (take point calls) stays_sound.begins
