-- "Questions in order; the first "no" gives its number and the book is unchanged."
use Rattle.std.specs.Prelude.{◌≡◌, Bool, true, false, cond, List, [], ◌∷◌, ◌++◌, ℕ, Result, Ok, Err}
use Rattle.epe.specs.Refusal.{number_of}
use Rattle.epe.specs.declared.refusal.Refusal.{Refusal}
use Rattle.epe.specs.declared.refusal.RefusedWith.{RefusedWith}

infix 20 ◌else_no◌
-- A question's answer, and the number that a "no" gives.
pub record Question : Type 0 where
  pub yes? : Bool
  pub number : ℕ

abbrev pub ◌else_no◌ : Bool → ℕ → Question
answer else_no n = record { yes? = answer; number = n }

-- What comes of questions, whatever they are asked of: where all are answered yes what comes next, else the refusal with the first "no"'s number.
unfoldable pub asked {ℓ} : {A : Type ℓ} → List Question → (ℕ → A) → A → A
asked [] refused next = next
asked (q ∷ qs) refused next = cond q.yes? (asked qs refused next) (refused q.number)

-- Every question is answered yes, or the number of the first that is not.
pub data Verdict : Type 0 where
  Passed : Verdict
  Refused : ℕ → Verdict

abbrev pub first_no : List Question → Verdict
first_no qs = asked qs Refused Passed

unfoldable pub is_passed : Verdict → Bool
is_passed Passed = true
is_passed (Refused n) = false

-- What code answers, with the paper's number for each refusal.
abbrev pub verdict_of : {A : Type 0} → Result A Refusal → Verdict
verdict_of (Ok a) = Passed
verdict_of (Err refusal) = Refused (number_of refusal)

-- The same of code that tells what it read beside a refusal too; and what it read.
abbrev pub verdict_beside : {A : Type 0} → Result A (RefusedWith A) → Verdict
verdict_beside (Ok read) = Passed
verdict_beside (Err refused) = Refused (number_of refused.refusal)

abbrev pub read_of : {A : Type 0} → Result A (RefusedWith A) → A
read_of (Ok read) = read
read_of (Err refused) = refused.read

-- Every question of a list is answered yes.
abbrev pub AllYes : List Question → Type 0
AllYes [] = Unit {0}
AllYes (q ∷ qs) = (q.yes? ≡ true) × AllYes qs

-- The list is refused by one of its questions: those before it are answered yes, it is answered no, and the number is its own.
pub record RefusedBy (qs : List Question) (n : ℕ) : Type 0 where
  pub earlier : List Question
  pub asked : Question
  pub later : List Question
  pub in_order : qs ≡ earlier ++ (asked ∷ later)
  pub earlier_yes : AllYes earlier
  pub asked_no : asked.yes? ≡ false
  pub its_number : asked.number ≡ n

-- If a file is accepted, every question is answered yes.
abbrev pub AcceptedIsAllYes : Type 0
AcceptedIsAllYes = (qs : List Question) → first_no qs ≡ Passed → AllYes qs

-- If a file is refused with n, every earlier question is answered yes and n's is answered no.
abbrev pub RefusedIsFirstNo : Type 0
RefusedIsFirstNo = (qs : List Question) (n : ℕ) → first_no qs ≡ Refused n → RefusedBy qs n
