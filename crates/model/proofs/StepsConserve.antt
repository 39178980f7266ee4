-- A step from a sound book: a refused call leaves the book, a call leaves every shipment that it is not for, and held and free money of the one
-- that it is for change just by what its answer says was accepted and what left.
-- Assumes nothing.
use mathlib.Core.Path.{◌≡◌, refl, sym, ap, ◌∙◌, subst, subst₂}
use mathlib.Core.Bool.{Bool, true, false, cond, false≢true}
use mathlib.Core.List.{List, [], ◌∷◌, ◌++◌}
use mathlib.Core.Option.{Option, some}
use Prim.Native.Nat.{ℕ, ◌+◌}
use native.Mathlib.Omega.{arith}
use Rattle.text.proofs.Branches.{and_left, cond_either, either_way}
use Rattle.money.specs.declared.Money.{Money}
use Rattle.money.specs.declared.Money.TheVariants.{K, O}
use Rattle.epe.specs.Ident.{same_ident}
use Rattle.epe.specs.Name.{name_of, title_of}
use Rattle.contents.specs.Contents.{orders}
use Rattle.epe.specs.declared.ident.Ident.{Ident}
use Rattle.epe.specs.declared.name.Name.{Name}
use Rattle.epe.specs.declared.profile.Profile.{Profile}
use Rattle.contents.specs.declared.record.Order.{Order}
use Rattle.epe.proofs.IdentLaws.{same_is_equal}
use Rattle.model.specs.Shipment.{Shipment, accepted, only_if, free, held}
use Rattle.model.specs.Calls.{Act, Call, Intake, Transfer, On, Answer, Refused, Accepted, is_refusal, Outcome, transferred, acted}
use Rattle.model.specs.Book.{Book, Step, stay, on_first, is_called, same_name, find, is_unknown, entered}
use Rattle.model.specs.Book.{step}
use Rattle.model.specs.Sound.{shipments_sound, sound}
use Rattle.model.specs.Moved.{moved}
use Rattle.model.specs.Demand.{is_for, of_shipment, held_in, free_in, accepted_in}
use Rattle.model.proofs.Asking.{not_both, intake_either, transfer_either}
use Rattle.model.proofs.Known.{found, passed, unknown_first, unknown_rest, unknown_none, append_other, append_new}
use Rattle.model.proofs.SoundParts.{halves, in_order}
use Rattle.model.proofs.ActsConserve.{Balanced, balanced, Fair, transferred_fair, acted_fair}

-- What conservation needs of a book: each shipment is balanced, and identifiers are all different.
abbrev pub BookKept : Book → Type 0
BookKept [] = Unit {0}
BookKept (s ∷ book) = Balanced s × ((is_unknown s.agreed.name.ident book ≡ true) × BookKept book)

-- a sound book has them
pub book_kept : (book : Book) → sound book ≡ true → BookKept book
unfolding sound shipments_sound
book_kept book h = each book (search halves)
  where
    each : (book : Book) → shipments_sound book ≡ true → BookKept book
    each [] h = tt
    each (s ∷ book) h = (balanced s (in_order s (search halves)), (search halves, each book (search halves)))

-- What a shipment that was found holds and has free, and what it has accepted, changes just by what an answer says.
abbrev Moves : Money → Call → Answer → Option Shipment → Option Shipment → Type 0
Moves money call answer before after =
    (of_shipment (held money) before + of_shipment (free money) before + (moved call answer).comes_in money
    ≡ of_shipment (held money) after + of_shipment (free money) after + (moved call answer).goes_out money)
    × (of_shipment (accepted money) before + (moved call answer).comes_in money ≡ of_shipment (accepted money) after)

-- What a step leaves of a book, as demand 3 wants it.
pub record StepFair (book : Book) (call : Call) (next : Step) : Type 0 where
  pub refused : is_refusal next.answer ≡ true → next.book ≡ book
  pub others : (ident : Ident) → is_for ident call ≡ false → find ident next.book ≡ find ident book
  pub conserves : (ident : Ident) (money : Money)
      → held_in money ident book + free_in money ident book + only_if (is_for ident call) ((moved call next.answer).comes_in money)
      ≡ held_in money ident next.book + free_in money ident next.book + only_if (is_for ident call) ((moved call next.answer).goes_out money)
  pub grows : (ident : Ident) (money : Money)
      → accepted_in money ident book + only_if (is_for ident call) ((moved call next.answer).comes_in money) ≡ accepted_in money ident next.book

nothing_more : (t : Bool) (n : ℕ) → n + only_if t 0 ≡ n
nothing_more true n = omega arith
nothing_more false n = omega arith

refused_fair : (book : Book) (call : Call) (number : ℕ) → StepFair book call (stay (Refused number) book)
refused_fair book call number = record {
  refused = λ e. refl;
  others = λ ident e. refl;
  conserves = λ ident money. refl;
  grows = λ ident money. nothing_more (is_for ident call) (accepted_in money ident book);
}

-- a step that leaves the shipments it is not for, and moves the one that it is for by its answer
module _
    (book : Book)
    (call : Call)
    (named : Ident)
    (is-for : (other : Ident) → is_for other call ≡ same_ident other named)
    (next : Step)
    (others : (other : Ident) → same_ident other named ≡ false → find other next.book ≡ find other book)
    (moves : (money : Money) → Moves money call next.answer (find named book) (find named next.book)) where
  moves_for : (ident : Ident) (money : Money) → same_ident ident named ≡ true → Moves money call next.answer (find ident book) (find ident next.book)
  moves_for ident money same =
      subst (λ i. Moves money call next.answer (find i book) (find i next.book)) (sym ((same_is_equal ident named).0 same)) (moves money)

  step_conserves : (ident : Ident) (money : Money)
      → held_in money ident book + free_in money ident book + only_if (is_for ident call) ((moved call next.answer).comes_in money)
      ≡ held_in money ident next.book + free_in money ident next.book + only_if (is_for ident call) ((moved call next.answer).goes_out money)
  step_conserves ident money = either_way (same_ident ident named)
      (λ same.
      let this = is-for ident ∙ same in
      rw this (moves_for ident money same).0)
      (λ apart.
      let this = is-for ident ∙ apart in
      rw (this, others ident apart))

  step_grows : (ident : Ident) (money : Money)
      → accepted_in money ident book + only_if (is_for ident call) ((moved call next.answer).comes_in money) ≡ accepted_in money ident next.book
  step_grows ident money = either_way (same_ident ident named)
      (λ same.
      let this = is-for ident ∙ same in
      rw this (moves_for ident money same).1)
      (λ apart.
      let this = is-for ident ∙ apart in
      rw (this, others ident apart) (omega arith))

-- the first shipment stays, where a refusal moves nothing, and where the identifier is not its own
unmoved : (money : Money) (call : Call) (answer : Answer) (number : ℕ) (ident : Ident) (s : Shipment) (book after : Book)
    → is_called ident s ≡ true → answer ≡ Refused number → Moves money call answer (find ident (s ∷ book)) (find ident (s ∷ after))
unmoved money call answer number ident s book after called refusal = rw (called, refusal) (refl, omega arith)

moved_behind : (money : Money) (call : Call) (answer : Answer) (ident : Ident) (s : Shipment) (book after : Book)
    → is_called ident s ≡ false → Moves money call answer (find ident book) (find ident after)
    → Moves money call answer (find ident (s ∷ book)) (find ident (s ∷ after))
moved_behind money call answer ident s book after uncalled moves = rw uncalled moves

-- The first shipment that fits takes the call. All that fit have the identifier that the call names.
module _
    (call : Call)
    (ident : Ident)
    (is : Shipment → Bool)
    (does : Shipment → Outcome)
    (only : (s : Shipment) → is s ≡ true → is_called ident s ≡ true)
    (fair : (s : Shipment) → Balanced s → Fair call s (does s)) where
  abbrev taking : Shipment → Book → Step
  taking s book = record { book = (does s).shipment ∷ book; answer = (does s).answer }

  abbrev passing : Shipment → Book → Step
  passing s book = record { book = s ∷ (on_first is does book).book; answer = (on_first is does book).answer }

  first_refused : (book : Book) → BookKept book → is_refusal (on_first is does book).answer ≡ true → (on_first is does book).book ≡ book
  first_refused [] kept = λ refusal. refl
  first_refused (s ∷ book) kept =
      cond_either (λ next. is_refusal next.answer ≡ true → next.book ≡ s ∷ book) (is s) (taking s book) (passing s book)
      (λ e refusal. ap (λ t. t ∷ book) ((fair s kept.0).refused refusal))
      (λ e refusal. ap (λ rest. s ∷ rest) (first_refused book kept.1.1 refusal))

  -- the other shipments stay as they were
  first_others : (other : Ident) → same_ident other ident ≡ false → (book : Book) → BookKept book
      → find other (on_first is does book).book ≡ find other book
  first_others other apart [] kept = refl
  first_others other apart (s ∷ book) kept =
      cond_either (λ next. find other next.book ≡ find other (s ∷ book)) (is s) (taking s book) (passing s book)
      (λ e.
      let name = (fair s kept.0).name in
      let uncalled : is_called other s ≡ false = ap (same_ident other) (sym ((same_is_equal ident s.agreed.name.ident).0 (only s e))) ∙ apart in
      passed other (does s).shipment book (ap (λ n. same_ident other n.ident) name ∙ uncalled) ∙ sym (passed other s book uncalled))
      (λ e. ap (cond (is_called other s) (some s)) (first_others other apart book kept.1.1))

  -- where no shipment has the identifier, none fits
  first_none : (book : Book) → is_unknown ident book ≡ true → (on_first is does book).answer ≡ Refused 13
  first_none [] unknown = refl
  first_none (s ∷ book) unknown =
      cond_either (λ next. next.answer ≡ Refused 13) (is s) (taking s book) (passing s book)
      (λ e. absurd (not_both (is_called ident s) (only s e) (unknown_first ident s book unknown)))
      (λ e. first_none book (unknown_rest ident s book unknown))

  -- and the one that is named moves by the answer
  first_moves : (money : Money) (book : Book) → BookKept book
      → Moves money call (on_first is does book).answer (find ident book) (find ident (on_first is does book).book)
  first_moves money [] kept = (refl, refl)
  first_moves money (s ∷ book) kept =
      cond_either (λ next. Moves money call next.answer (find ident (s ∷ book)) (find ident next.book)) (is s) (taking s book) (passing s book)
      (λ e.
      let f = fair s kept.0 in
      let called = only s e in
      subst₂ (Moves money call (does s).answer)
      (sym (found ident s book called))
      (sym (found ident (does s).shipment book (ap (λ n. same_ident ident n.ident) f.name ∙ called)))
      (f.conserves money, f.grows money))
      (λ e. either_way (is_called ident s)
      (λ called.
      let unknown = ap (λ name. is_unknown name book) ((same_is_equal ident s.agreed.name.ident).0 called) ∙ kept.1.0 in
      unmoved money call (on_first is does book).answer 13 ident s book (on_first is does book).book called (first_none book unknown))
      (λ uncalled.
      moved_behind money call (on_first is does book).answer ident s book (on_first is does book).book uncalled (first_moves money book kept.1.1)))

  first_fair : ((other : Ident) → is_for other call ≡ same_ident other ident) → (book : Book) → BookKept book
      → StepFair book call (on_first is does book)
  first_fair is-for book kept = record {
    refused = first_refused book kept;
    others = λ other e. first_others other (sym (is-for other) ∙ e) book kept;
    conserves = step_conserves book call ident is-for (on_first is does book)
        (λ other apart. first_others other apart book kept)
        (λ money. first_moves money book kept);
    grows = step_grows book call ident is-for (on_first is does book)
        (λ other apart. first_others other apart book kept)
        (λ money. first_moves money book kept);
  }

module _ (profile : Profile) (name : Name) (orders : List Order) where
  entered_empty : (money : Money) → held money (entered profile name orders) + free money (entered profile name orders) ≡ 0
  unfolding entered held free
  entered_empty K = refl
  entered_empty O = refl

  entered_unfunded : (money : Money) → accepted money (entered profile name orders) ≡ 0
  unfolding entered
  entered_unfunded K = refl
  entered_unfunded O = refl

-- a shipment whose identifier the book does not know is entered behind the last
module _ (call : Call) (book : Book) (s : Shipment) where
  append_fair : (n m : ℕ)
      → is_unknown s.agreed.name.ident book ≡ true
      → ((other : Ident) → is_for other call ≡ same_ident other s.agreed.name.ident)
      → ((money : Money) → held money s + free money s ≡ 0)
      → ((money : Money) → accepted money s ≡ 0)
      → StepFair book call (stay (Accepted n m) (book ++ (s ∷ [])))
  append_fair n m unknown is-for empty unfunded = record {
    refused = λ e. absurd (false≢true e);
    others = λ other e. others other (sym (is-for other) ∙ e);
    conserves = step_conserves book call s.agreed.name.ident is-for (stay (Accepted n m) (book ++ (s ∷ []))) others moves;
    grows = step_grows book call s.agreed.name.ident is-for (stay (Accepted n m) (book ++ (s ∷ []))) others moves;
  }
    where
      others : (other : Ident) → same_ident other s.agreed.name.ident ≡ false → find other (book ++ (s ∷ [])) ≡ find other book
      others other apart = append_other other book s apart

      moves : (money : Money) → Moves money call (Accepted n m) (find s.agreed.name.ident book) (find s.agreed.name.ident (book ++ (s ∷ [])))
      moves money =
          subst₂ (Moves money call (Accepted n m))
          (sym (unknown_none s.agreed.name.ident book unknown))
          (sym (append_new s.agreed.name.ident book s ((same_is_equal s.agreed.name.ident s.agreed.name.ident).1 refl) unknown))
          (omega (arith, empty money), omega (arith, unfunded money))

-- an intake is refused, or enters a shipment
taken_in_fair : (profile : Profile) (name file : List ℕ) (book : Book) → StepFair book (Intake profile name file) (step book (Intake profile name file))
unfolding entered is_for
taken_in_fair profile name file book =
    let call = Intake profile name file in
    intake_either (StepFair book call) profile name file book (refused_fair book call)
    (λ unknown. append_fair call book (entered profile (name_of name) (orders file)) _ _
    unknown (λ other. refl) (entered_empty profile (name_of name) (orders file)) (entered_unfunded profile (name_of name) (orders file)))

-- a transfer goes to the shipment of that whole name, so of that identifier
transferred_in_fair : (title : List ℕ) (amount : ℕ) (book : Book) → BookKept book
    → StepFair book (Transfer title amount) (step book (Transfer title amount))
unfolding same_name is_for
transferred_in_fair title amount book kept =
    let call = Transfer title amount in
    let name = (title_of title).name in
    transfer_either (StepFair book call) title amount book (refused_fair book call)
    (first_fair call name.ident (λ s. same_name name s.agreed.name) (transferred (title_of title).money amount)
    (λ s. and_left (same_ident name.ident s.agreed.name.ident) _)
    (λ s balanced. transferred_fair s balanced amount title)
    (λ other. refl) book kept)

on_fair : (ident : Ident) (act : Act) (book : Book) → BookKept book → StepFair book (On ident act) (on_first (is_called ident) (acted act) book)
unfolding is_for
on_fair ident act book kept =
    first_fair (On ident act) ident (is_called ident) (acted act)
    (λ s e. e)
    (λ s balanced. acted_fair ident s balanced act)
    (λ other. refl) book kept

-- Every step.
pub step_fair : (book : Book) → BookKept book → (call : Call) → StepFair book call (step book call)
unfolding step
step_fair book kept (Intake profile name file) = taken_in_fair profile name file book
step_fair book kept (Transfer title amount) = transferred_in_fair title amount book kept
step_fair book kept (On ident act) = on_fair ident act book kept
