-- What `find` gives after a step, by what it gave before.
-- Assumes nothing.
use mathlib.Core.Path.{◌≡◌, refl, ap, ◌∙◌}
use mathlib.Core.Bool.{Bool, true, false, cond}
use mathlib.Core.List.{[], ◌∷◌, ◌++◌}
use mathlib.Core.Option.{Option, some, none}
use Prim.Native.Nat.{ℕ, ◌≤◌}
use native.Mathlib.Omega.{arith}
use Rattle.text.proofs.Branches.{second_no, either_way}
use Rattle.money.specs.declared.Money.{Money}
use Rattle.epe.specs.Ident.{same_ident}
use Rattle.epe.specs.declared.ident.Ident.{Ident}
use Rattle.epe.specs.declared.name.Name.{Name}
use Rattle.model.specs.Shipment.{Shipment}
use Rattle.model.specs.Calls.{Act, Call, On, Answer, Refused, Outcome, acted}
use Rattle.model.specs.Book.{Book, on_first, is_called, find, step}
use Rattle.model.specs.Moved.{nothing, order_named, when_returned, moved}
use Rattle.model.specs.Demand.{is_for, of_shipment, order_by_index, leaves}
use Rattle.model.proofs.Leaving.{acted_leaves, none_leaves}

-- what is done to the shipment that was found, and the answer: 13 where none was
abbrev pub answered : (Shipment → Outcome) → Option Shipment → Answer
answered does none = Refused 13
answered does (some s) = (does s).answer

abbrev pub after : (Shipment → Outcome) → Option Shipment → Option Shipment
after does none = none
after does (some s) = some (does s).shipment

pub first_answer_lem : (does : Shipment → Outcome) (P : Answer → Type 0) → P (Refused 13) → ((s : Shipment) → P (does s).answer)
    → (is : Shipment → Bool) (book : Book) → P (on_first is does book).answer
first_answer_lem does P unknown known is [] = unknown
first_answer_lem does P unknown known is (s ∷ book) =
    let rest = first_answer_lem does P unknown known is book in
    either_way (is s) (λ here. rw here (known s)) (λ further. rw further rest)

found_answer : (does : Shipment → Outcome) (ident : Ident) (book : Book) → (on_first (is_called ident) does book).answer ≡ answered does (find ident book)
found_answer does ident [] = refl
found_answer does ident (s ∷ book) =
    let rest = found_answer does ident book in
    either_way (is_called ident s) (λ here. rw here) (λ further. rw further rest)

module _ (does : Shipment → Outcome) (named : (s : Shipment) → (does s).shipment.agreed.name ≡ s.agreed.name) where
  called_still : (ident : Ident) (s : Shipment) → is_called ident (does s).shipment ≡ is_called ident s
  called_still ident s = ap (λ (name : Name). same_ident ident name.ident) (named s)

  found_after : (ident : Ident) (book : Book) → find ident (on_first (is_called ident) does book).book ≡ after does (find ident book)
  found_after ident [] = refl
  found_after ident (s ∷ book) =
      let rest = found_after ident book in
      either_way (is_called ident s)
      (λ here. rw here (ap (λ t. cond t (some (does s).shipment) (find ident book)) (called_still ident s ∙ here)))
      (λ further. rw further (rw further rest))

  -- what grows by what is done grows in the book, whichever shipment it is done to
  pub found_grows : (f : Shipment → ℕ) → ((s : Shipment) → f s ≤ f (does s).shipment)
      → (is : Shipment → Bool) (ident : Ident) (book : Book) → of_shipment f (find ident book) ≤ of_shipment f (find ident (on_first is does book).book)
  found_grows f grows is ident [] = omega arith
  found_grows f grows is ident (s ∷ book) =
      let rest = found_grows f grows is ident book in
      either_way (is s) (λ here. rw here (at_head (is_called ident s) (is_called ident (does s).shipment) (called_still ident s)))
      (λ further. rw further (behind (is_called ident s) (find ident book) (find ident (on_first is does book).book) rest))
    where
      at_head : (t u : Bool) → u ≡ t → of_shipment f (cond t (some s) (find ident book)) ≤ of_shipment f (cond u (some (does s).shipment) (find ident book))
      at_head true u same = rw same (grows s)
      at_head false u same = rw same (omega arith)

      behind : (t : Bool) (a b : Option Shipment) → of_shipment f a ≤ of_shipment f b → of_shipment f (cond t (some s) a) ≤ of_shipment f (cond t (some s) b)
      behind true a b rest = omega arith
      behind false a b rest = rest

-- what is in the book is found in it with one more shipment behind
pub appended_grows : (f : Shipment → ℕ) (ident : Ident) (book : Book) (s : Shipment)
    → of_shipment f (find ident book) ≤ of_shipment f (find ident (book ++ (s ∷ [])))
appended_grows f ident [] s = omega arith
appended_grows f ident (first ∷ book) s =
    let rest = appended_grows f ident book s in
    either_way (is_called ident first) (λ here. rw here (omega arith)) (λ further. rw further rest)

-- a call by an identifier, on the shipment of that identifier
module _ (ident : Ident) (act : Act) (book : Book) where
  pub on_answer : (step book (On ident act)).answer ≡ answered (acted act) (find ident book)
  unfolding step
  on_answer = found_answer (acted act) ident book

  pub on_found : find ident (step book (On ident act)).book ≡ after (acted act) (find ident book)
  unfolding step
  on_found = found_after (acted act) (λ s. (acted_leaves ident act s).named) ident book

-- no order's money leaves by a call that is neither of an order nor a return
pub nothing_leaves : (money : Money) (ident : Ident) (j : ℕ) (book : Book) (call : Call) → order_named call ≡ 0
    → ((total orders : ℕ) → when_returned call total orders ≡ nothing) → leaves money ident j book call ≡ false
nothing_leaves money ident j book call of_none back_none =
    let before = order_by_index j (find ident book) in
    let later = order_by_index j (find ident (step book call).book) in
    let answer = (step book call).answer in
    second_no (is_for ident call) ((moved call answer).takes_from money j before later) (none_leaves money j call of_none back_none answer before later)
