-- Each call by an identifier acts on the first shipment of that identifier, and a transfer on the first of its title's name.
-- Assumes nothing.
use mathlib.Core.Path.{◌≡◌, refl, sym, subst, ◌∙◌}
use mathlib.Core.Bool.{true, false, true≢false, false≢true}
use mathlib.Core.List.{List, [], ◌∷◌}
use Prim.Native.Nat.{ℕ}
use Rattle.std.specs.Prelude.{Result, Ok, Err}
use Rattle.std.specs.Result.{result_or}
use Rattle.text.proofs.Branches.{either_way}
use Rattle.money.specs.Money.{is_transfer}
use Rattle.epe.specs.Questions.{Question, Verdict, Passed, Refused as No, first_no, is_passed, asked}
use Rattle.epe.specs.Name.{title_questions, title_of, title_verdict, title_said}
use Rattle.epe.specs.declared.name.Title.{Title}
use Rattle.epe.specs.declared.name.NoTitle.{NoTitle}
use Rattle.epe.specs.declared.ident.Ident.{Ident}
use Rattle.epe.proofs.QuestionLaws.{asked_no, asked_yes, asked_none, asked_behind, asked_before}
use Rattle.model.specs.Shipment.{Shipment}
use Rattle.model.specs.Calls.{Act, Transfer, On, Refused, transferred, acted}
use Rattle.model.specs.Book.{Book, stay, is_called, same_name, transferred_in, step}
use Rattle.memory.specs.Heads.{shipment_in}
use Rattle.acts.specs.Inner.Place.{called_in, named_in}
use Rattle.book.specs.Inner.Sought.{Seeks}

pub seeks_called : (ident : Ident) (act : Act) → Seeks (called_in ident) (acted act) (On ident act)
unfolding step shipment_in
seeks_called ident act = record { called = is_called ident; by_head = λ head rows. refl; steps = λ book. refl; unread = refl }

-- a verdict that passes
pub passed_is : (verdict : Verdict) → is_passed verdict ≡ true → verdict ≡ Passed
unfolding is_passed
passed_is Passed h = refl
passed_is (No number) h = absurd (false≢true h)

-- a title has one question, of the number 11
one_refused : (q : Question) → is_passed (first_no (q ∷ [])) ≡ false → first_no (q ∷ []) ≡ No q.number
unfolding asked is_passed
one_refused q h = either_way q.yes? (λ passed. let never = rw passed at h in absurd (true≢false never)) (λ refused. rw refused)

pub refused_eleven : (title : List ℕ) → is_passed (first_no (title_questions title)) ≡ false → first_no (title_questions title) ≡ No 11
unfolding title_questions
refused_eleven title h = one_refused _ h

-- what a title was read as, where another refusal stands for what is none
pub untitled : {E : Type 0} (read : Result Title NoTitle) (other : E) {e : E} → Err e ≡ result_or read (Err other) → (title_verdict read ≡ No 11) × (e ≡ other)
untitled (Ok title) other told = let never : ⊥ = cc in absurd never
untitled (Err none) other told = (refl, cc)

pub titled : {E : Type 0} (read : Result Title NoTitle) (other : E) {title : Title} → Ok title ≡ result_or read (Err other)
    → (title_verdict read ≡ Passed) × (title ≡ title_said read)
titled (Ok title) other told = (refl, cc)
titled (Err none) other told = let never : ⊥ = cc in absurd never

-- "Title is a shipment name in the form above, then `-K` or `-O`? 11. Amount 1 to 9,999,999,999,999? 12."
module _ (title : List ℕ) (amount : ℕ) where
  pub title_refused : first_no (title_questions title) ≡ No 11 → (book : Book) → step book (Transfer title amount) ≡ stay (Refused 11) book
  unfolding step transferred_in
  title_refused untitled book = asked_before (title_questions title) _ _ _ untitled

  module _ (passed : first_no (title_questions title) ≡ Passed) where
    pub amount_refused : is_transfer amount ≡ false → (book : Book) → step book (Transfer title amount) ≡ stay (Refused 12) book
    unfolding step transferred_in
    amount_refused outside book = asked_behind (title_questions title) _ _ _ passed ∙ asked_no 12 _ _ _ outside

    seeks_titled : is_transfer amount ≡ true
        → Seeks (named_in (title_of title).name) (transferred (title_of title).money amount) (Transfer title amount)
    unfolding step transferred_in shipment_in
    seeks_titled within = record {
      called = λ (s : Shipment). same_name (title_of title).name s.agreed.name;
      by_head = λ head rows. refl;
      steps = λ book. asked_behind (title_questions title) _ _ _ passed ∙ asked_yes 12 _ _ _ within ∙ asked_none _ _;
      unread = refl;
    }

    pub seeks_named : {read : Title} → read ≡ title_of title → is_transfer amount ≡ true
        → Seeks (named_in read.name) (transferred read.money amount) (Transfer title amount)
    seeks_named is within =
        subst (λ (one : Title). Seeks (named_in one.name) (transferred one.money amount) (Transfer title amount)) (sym is) (seeks_titled within)
