-- The questions of an intake and of a transfer: what holds of a refusal, and of what is done where all are answered yes, holds of the call.
-- Assumes nothing.
use mathlib.Core.Path.{◌≡◌, refl}
use mathlib.Core.Bool.{Bool, true, false, false≢true, true≢false}
use mathlib.Core.List.{List, [], ◌∷◌, ◌++◌}
use Prim.Native.Nat.{ℕ}
use lib.ListN.{length}
use Rattle.money.specs.Money.{is_transfer}
use Rattle.epe.specs.Questions.{◌else_no◌}
use Rattle.epe.specs.Name.{name_of, title_questions, title_of}
use Rattle.epe.specs.Opening.{opening_questions}
use Rattle.epe.specs.Profile.{profile_questions}
use Rattle.contents.specs.Contents.{orders, faulty_count}
use Rattle.epe.specs.declared.profile.Profile.{Profile}
use Rattle.epe.proofs.QuestionLaws.{asked_either, yes_behind}
use Rattle.model.specs.Shipment.{Shipment}
use Rattle.model.specs.Calls.{Answer, Refused, Done, Accepted, IsPaired, Short, FeeEarned, AmountPaid, Returned, is_refusal, changes_nothing}
use Rattle.model.specs.Calls.{Intake, Transfer, transferred}
use Rattle.model.specs.Book.{Book, Step, stay, refusing_in, on_first, same_name, is_unknown, entered, intake_questions, taken_in, transferred_in, step}

pub not_both : (t : Bool) → t ≡ true → t ≡ false → ⊥
not_both true p q = true≢false q
not_both false p q = false≢true p

-- an intake is refused, or appends a shipment of a new identifier
pub intake_either : (P : Step → Type 0) (profile : Profile) (name file : List ℕ) (book : Book)
    → ((number : ℕ) → P (stay (Refused number) book))
    → (is_unknown (name_of name).ident book ≡ true
    → P (stay (Accepted (length (orders file)) (faulty_count (orders file))) (book ++ (entered profile (name_of name) (orders file) ∷ []))))
    → P (step book (Intake profile name file))
unfolding step taken_in intake_questions profile_questions
intake_either P profile name file book refused accepted =
    asked_either P (intake_questions profile name file book) (refusing_in book) _ refused
    (λ yes. accepted (yes_behind (opening_questions name file) _ yes.1.1).0)

-- a transfer is refused, or is made to the first shipment of its title's name
pub transfer_either : (P : Step → Type 0) (title : List ℕ) (amount : ℕ) (book : Book)
    → ((number : ℕ) → P (stay (Refused number) book))
    → P (on_first (λ (s : Shipment). same_name (title_of title).name s.agreed.name) (transferred (title_of title).money amount) book)
    → P (step book (Transfer title amount))
unfolding step transferred_in
transfer_either P title amount book refused accepted =
    asked_either P (title_questions title ++ ((is_transfer amount else_no 12) ∷ [])) (refusing_in book) _ refused (λ yes. accepted)

-- a refusal is an answer that changes nothing
pub refusal_moves_nothing : (answer : Answer) → is_refusal answer ≡ true → changes_nothing answer ≡ true
refusal_moves_nothing (Refused n) h = refl
refusal_moves_nothing Done h = absurd (false≢true h)
refusal_moves_nothing (Accepted orders faulty) h = absurd (false≢true h)
refusal_moves_nothing IsPaired h = absurd (false≢true h)
refusal_moves_nothing (Short k o) h = refl
refusal_moves_nothing (FeeEarned fee) h = absurd (false≢true h)
refusal_moves_nothing (AmountPaid amount) h = absurd (false≢true h)
refusal_moves_nothing (Returned total count) h = absurd (false≢true h)
