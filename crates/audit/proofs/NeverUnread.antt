-- A book that was read never gives the answers of memory that holds none: the questions of a call other than an intake never answer 10, and those of
-- an intake never 900.
-- Assumes nothing.
use mathlib.Core.Path.{◌≡◌, refl}
use mathlib.Core.Bool.{Bool, true, false, not, ◌&&◌, false≢true}
use mathlib.Core.List.{List, [], ◌∷◌, ◌++◌}
use Prim.Native.Nat.{ℕ}
use lib.Dec.{eqb}
use lib.ListN.{length}
use Rattle.text.proofs.Branches.{both_yes, either_way, cond_either, and_left, and_right}
use Rattle.money.specs.Money.{is_transfer}
use Rattle.money.specs.declared.Money.{Money}
use Rattle.epe.specs.Questions.{Question, ◌else_no◌, asked}
use Rattle.epe.specs.Profile.{profile_questions}
use Rattle.epe.specs.Name.{name_questions, title_questions, title_of}
use Rattle.epe.specs.Opening.{file_questions, fixed_questions, repeated_questions, opening_questions}
use Rattle.contents.specs.Contents.{date_questions, stated_questions, record_questions, contents_questions, orders}
use Rattle.epe.specs.declared.profile.Profile.{Profile}
use Rattle.model.specs.Shipment.{Shipment}
use Rattle.model.specs.Calls.{Act, GoAhead, Pair, Close, OnOrder, Return, Call, Intake, Transfer, On}
use Rattle.model.specs.Calls.{Answer, Refused, Done, Accepted, IsPaired, Short, FeeEarned, AmountPaid, Returned, Outcome, refusing}
use Rattle.model.specs.Calls.{transferred, gone_ahead, needs_covered, paired, closed, on_order, returned_by, surplus_returned, acted}
use Rattle.model.specs.Book.{Book, Step, refusing_in, is_called, same_name, room_questions, intake_questions, taken_in, transferred_in, step}
use Rattle.model.specs.declared.Deed.TheVariants.{Post, Pay, MarkUndelivered, Withdraw}
use Rattle.model.specs.declared.Route.TheVariants.{Zwr, Opr, Zpr, Zzr}
use Rattle.model.proofs.Finding.{first_answer_lem}
use Rattle.audit.specs.Listed.{is_intake}

-- the answer is not the refusal n; no question has the number n
abbrev is_other : ℕ → Answer → Bool
is_other n (Refused number) = not (eqb number n)
is_other n Done = true
is_other n (Accepted orders faulty) = true
is_other n IsPaired = true
is_other n (Short k o) = true
is_other n (FeeEarned fee) = true
is_other n (AmountPaid amount) = true
is_other n (Returned total count) = true

abbrev are_other : ℕ → List Question → Bool
are_other n [] = true
are_other n (q ∷ qs) = not (eqb q.number n) && are_other n qs

-- questions answer one of their numbers, or what comes after them
module _ (n : ℕ) where
  asked_other : {A : Type 0} (answer_of : A → Answer) (qs : List Question) (refused : ℕ → A) (next : A)
      → ((number : ℕ) → answer_of (refused number) ≡ Refused number) → are_other n qs ≡ true → is_other n (answer_of next) ≡ true
      → is_other n (answer_of (asked qs refused next)) ≡ true
  unfolding asked
  asked_other answer_of [] refused next refusing own later = later
  asked_other answer_of (q ∷ qs) refused next refusing own later =
      either_way q.yes?
      (λ said. rw said (asked_other answer_of qs refused next refusing (and_right (not (eqb q.number n)) (are_other n qs) own) later))
      (λ said_no. rw (said_no, refusing q.number) (and_left (not (eqb q.number n)) (are_other n qs) own))

  are_other_lem : (ps qs : List Question) → are_other n ps ≡ true → are_other n qs ≡ true → are_other n (ps ++ qs) ≡ true
  are_other_lem [] qs first second = second
  are_other_lem (p ∷ ps) qs first second =
      both_yes (not (eqb p.number n)) _ (and_left _ (are_other n ps) first) (are_other_lem ps qs (and_right (not (eqb p.number n)) (are_other n ps) first) second)

abbrev answer_to : Outcome → Answer
answer_to outcome = outcome.answer

acts_other : (s : Shipment) (qs : List Question) (next : Outcome) → are_other 10 qs ≡ true → is_other 10 next.answer ≡ true
    → is_other 10 (asked qs (refusing s) next).answer ≡ true
acts_other s qs next = asked_other 10 answer_to qs (refusing s) next (λ number. refl)

acted_other : (act : Act) (s : Shipment) → is_other 10 (acted act s).answer ≡ true
unfolding acted gone_ahead paired closed on_order returned_by surplus_returned
acted_other GoAhead s = acts_other s _ _ refl refl
acted_other Pair s =
    acts_other s _ _ refl (cond_either (λ (outcome : Outcome). is_other 10 outcome.answer ≡ true) (needs_covered s) _ _ (λ covered. refl) (λ short. refl))
acted_other Close s = acts_other s _ _ refl refl
acted_other (OnOrder Post number) s = acts_other s _ _ refl refl
acted_other (OnOrder Pay number) s = acts_other s _ _ refl refl
acted_other (OnOrder MarkUndelivered number) s = acts_other s _ _ refl refl
acted_other (OnOrder Withdraw number) s = acts_other s _ _ refl refl
acted_other (Return Zwr money) s = acts_other s _ _ refl refl
acted_other (Return Opr money) s = acts_other s _ _ refl refl
acted_other (Return Zpr money) s = acts_other s _ _ refl refl
acted_other (Return Zzr money) s = acts_other s _ _ refl refl

transferred_other : (money : Money) (amount : ℕ) (s : Shipment) → is_other 10 (transferred money amount s).answer ≡ true
unfolding transferred
transferred_other money amount s = acts_other s _ _ refl refl

abbrev step_answer : Step → Answer
step_answer next = next.answer

step_other : (book : Book) (call : Call) → is_intake call ≡ false → is_other 10 (step book call).answer ≡ true
unfolding step transferred_in title_of title_questions
step_other book (Intake profile name file) not_intake = cc
step_other book (Transfer title amount) not_intake =
    let accepted = first_answer_lem (transferred (title_of title).money amount) (λ (answer : Answer). is_other 10 answer ≡ true) refl
    (transferred_other (title_of title).money amount) (λ (s : Shipment). same_name (title_of title).name s.agreed.name) book in
    asked_other 10 step_answer (title_questions title ++ ((is_transfer amount else_no 12) ∷ [])) (refusing_in book) _ (λ number. refl) refl accepted
step_other book (On ident act) not_intake =
    first_answer_lem (acted act) (λ (answer : Answer). is_other 10 answer ≡ true) refl (acted_other act) (is_called ident) book

profile_other : (profile : Profile) → are_other 900 (profile_questions profile) ≡ true
unfolding profile_questions
profile_other profile = refl

opening_other : (name file : List ℕ) → are_other 900 (opening_questions name file) ≡ true
unfolding opening_questions file_questions name_questions fixed_questions repeated_questions
opening_other name file = refl

contents_other : (profile : Profile) (file : List ℕ) → are_other 900 (contents_questions profile file) ≡ true
unfolding contents_questions profile_questions date_questions stated_questions record_questions
contents_other profile file = refl

intake_other : (book : Book) (call : Call) → is_intake call ≡ true → is_other 900 (step book call).answer ≡ true
unfolding step taken_in intake_questions
intake_other book (Intake profile name file) is_intake_lem =
    let contents_on = are_other_lem 900 (contents_questions profile file) (room_questions (length (orders file)) book) (contents_other profile file) refl in
    asked_other 900 step_answer (intake_questions profile name file book) (refusing_in book) _ (λ number. refl)
    (are_other_lem 900 (profile_questions profile) _ (profile_other profile)
    (are_other_lem 900 (opening_questions name file) _ (opening_other name file) contents_on)) refl
intake_other book (Transfer title amount) is_intake_lem = cc
intake_other book (On ident act) is_intake_lem = cc

pub never_10 : (book : Book) (call : Call) → is_intake call ≡ false → (step book call).answer ≡ Refused 10 → ⊥
never_10 book call not_intake refused = false≢true (rw refused at (step_other book call not_intake))

pub never_900 : (book : Book) (call : Call) → is_intake call ≡ true → (step book call).answer ≡ Refused 900 → ⊥
never_900 book call is_intake_lem refused = false≢true (rw refused at (intake_other book call is_intake_lem))
