-- What a verdict says of its questions, and questions asked one after the other.
--     all_yes, refused_by        the two promises of `Questions`; all_yes_passed is the way back
--     asked_no, asked_yes        what comes of the first question, whatever is asked and whatever comes of it
--     asked_none, asked_append   no question, and questions behind others
--     asked_either               what holds of every refusal, and of what comes next where all are answered yes, holds of what is asked
--     asked_passed, asked_refused   the same by a verdict that is known, whatever comes of the questions
--     asked_behind, asked_before    and with other questions behind them
--     asked_through              what a function makes of it
-- Assumes nothing.
use mathlib.Core.Path.{◌≡◌, refl, sym, ap, ◌∙◌}
use mathlib.Core.Bool.{Bool, true, false, cond}
use mathlib.Core.List.{List, [], ◌∷◌, ◌++◌}
use Prim.Native.Nat.{ℕ}
use native.Mathlib.Omega.{arith}
use Rattle.text.proofs.Branches.{either_way}
use Rattle.epe.specs.Questions.{Passed, Refused, Question, ◌else_no◌, AllYes, first_no, RefusedBy, AcceptedIsAllYes, RefusedIsFirstNo, asked}

never : {n : ℕ} → Refused n ≡ Passed → ⊥
never h = let apart : ◌≡◌ {A = ℕ} 0 1 = cc in omega arith

-- What comes of questions, whatever is refused and whatever comes next.
module _ {ℓ} {A : Type ℓ} where
  pub asked_no : {answer : Bool} (n : ℕ) (qs : List Question) (refused : ℕ → A) (next : A) → answer ≡ false
      → asked ((answer else_no n) ∷ qs) refused next ≡ refused n
  unfolding asked
  asked_no n qs refused next h = rw h

  pub asked_yes : {answer : Bool} (n : ℕ) (qs : List Question) (refused : ℕ → A) (next : A) → answer ≡ true
      → asked ((answer else_no n) ∷ qs) refused next ≡ asked qs refused next
  unfolding asked
  asked_yes n qs refused next h = rw h

  pub asked_none : (refused : ℕ → A) (next : A) → asked [] refused next ≡ next
  unfolding asked
  asked_none refused next = refl

  pub asked_append : (ps qs : List Question) (refused : ℕ → A) (next : A)
      → asked (ps ++ qs) refused next ≡ asked ps refused (asked qs refused next)
  unfolding asked
  asked_append [] qs refused next = refl
  asked_append (p ∷ ps) qs refused next = ap (λ (rest : A). cond p.yes? rest (refused p.number)) (asked_append ps qs refused next)

  pub asked_either {m} : (P : A → Type m) (qs : List Question) (refused : ℕ → A) (next : A)
      → ((n : ℕ) → P (refused n)) → (AllYes qs → P next) → P (asked qs refused next)
  unfolding asked
  asked_either P [] refused next if_refused if_all_yes = if_all_yes tt
  asked_either P (q ∷ qs) refused next if_refused if_all_yes =
      go q.yes? (λ said. asked_either P qs refused next if_refused (λ all. if_all_yes (said, all)))
    where
      go : (t : Bool) → (t ≡ true → P (asked qs refused next)) → P (cond t (asked qs refused next) (refused q.number))
      go true rest = rest refl
      go false rest = if_refused q.number

  -- of a verdict on the questions
  pub asked_passed : (qs : List Question) (refused : ℕ → A) (next : A) → first_no qs ≡ Passed → asked qs refused next ≡ next
  unfolding asked
  asked_passed [] refused next h = refl
  asked_passed (q ∷ qs) refused next h = go q.yes? (asked_passed qs refused next) h
    where
      go : (t : Bool) → (first_no qs ≡ Passed → asked qs refused next ≡ next) → cond t (first_no qs) (Refused q.number) ≡ Passed
          → cond t (asked qs refused next) (refused q.number) ≡ next
      go true rest h = rest h
      go false rest h = absurd (never h)

  pub asked_refused : (qs : List Question) (refused : ℕ → A) (next : A) (n : ℕ) → first_no qs ≡ Refused n → asked qs refused next ≡ refused n
  unfolding asked
  asked_refused [] refused next n h = absurd (never (sym h))
  asked_refused (q ∷ qs) refused next n h = go q.yes? (asked_refused qs refused next n) h
    where
      go : (t : Bool) → (first_no qs ≡ Refused n → asked qs refused next ≡ refused n) → cond t (first_no qs) (Refused q.number) ≡ Refused n
          → cond t (asked qs refused next) (refused q.number) ≡ refused n
      go true rest h = rest h
      go false rest h = let own : q.number ≡ n = cc in ap refused own

  -- with other questions behind them
  pub asked_behind : (ps qs : List Question) (refused : ℕ → A) (next : A) → first_no ps ≡ Passed → asked (ps ++ qs) refused next ≡ asked qs refused next
  asked_behind ps qs refused next h = asked_append ps qs refused next ∙ asked_passed ps refused (asked qs refused next) h

  pub asked_before : (ps qs : List Question) (refused : ℕ → A) (next : A) {n : ℕ} → first_no ps ≡ Refused n → asked (ps ++ qs) refused next ≡ refused n
  asked_before ps qs refused next {n} h = asked_append ps qs refused next ∙ asked_refused ps refused (asked qs refused next) n h

-- what a function makes of what comes of questions
pub asked_through {ℓ m} : {A : Type ℓ} {B : Type m} (f : A → B) (qs : List Question) (refused : ℕ → A) (next : A)
    → f (asked qs refused next) ≡ asked qs (λ n. f (refused n)) (f next)
unfolding asked
asked_through f [] refused next = refl
asked_through {A = A} {B = B} f (q ∷ qs) refused next = go q.yes? (asked_through f qs refused next)
  where
    go : (t : Bool) → f (asked qs refused next) ≡ asked qs (λ n. f (refused n)) (f next)
        → f (cond t (asked qs refused next) (refused q.number)) ≡ cond t (asked qs (λ n. f (refused n)) (f next)) (f (refused q.number))
    go true rest = rest
    go false rest = refl

pub all_yes : AcceptedIsAllYes
unfolding asked
all_yes [] accepted = tt
all_yes (q ∷ qs) accepted =
    either_way q.yes?
    (λ (said : q.yes? ≡ true). (said, all_yes qs (rw said at accepted)))
    (λ (refusing : q.yes? ≡ false). absurd (never (rw refusing at accepted)))

pub all_yes_passed : (qs : List Question) → AllYes qs → first_no qs ≡ Passed
unfolding asked
all_yes_passed [] h = refl
all_yes_passed (q ∷ qs) h = rw h.0 (all_yes_passed qs h.1)

-- the parts of a list of which all are answered yes
pub yes_before : (ps qs : List Question) → AllYes (ps ++ qs) → AllYes ps
yes_before [] qs h = tt
yes_before (p ∷ ps) qs h = (h.0, yes_before ps qs h.1)

pub yes_behind : (ps qs : List Question) → AllYes (ps ++ qs) → AllYes qs
yes_behind [] qs h = h
yes_behind (p ∷ ps) qs h = yes_behind ps qs h.1

-- a question answered yes before those of a refused list
after_yes : (q : Question) {qs : List Question} {n : ℕ} → q.yes? ≡ true → RefusedBy qs n → RefusedBy (q ∷ qs) n
after_yes q said by = record {
  earlier = q ∷ by.earlier;
  asked = by.asked;
  later = by.later;
  in_order = ap (λ (rest : List Question). q ∷ rest) by.in_order;
  earlier_yes = (said, by.earlier_yes);
  asked_no = by.asked_no;
  its_number = by.its_number;
}

pub refused_by : RefusedIsFirstNo
unfolding asked
refused_by [] n refused = absurd (never (sym refused))
refused_by (q ∷ qs) n refused =
    either_way q.yes?
    (λ (said : q.yes? ≡ true). after_yes q said (refused_by qs n (rw said at refused)))
    (λ (refusing : q.yes? ≡ false).
    let own : Refused q.number ≡ Refused n = rw refusing at refused in
    record { earlier = []; asked = q; later = qs; in_order = refl; earlier_yes = tt; asked_no = refusing; its_number = cc })
