-- What a step's answer says left is the whole worth of each order whose money leaves by it, and the surplus; a return's count is how many
-- they are; and nothing of that money waits on its route after.
-- Assumes nothing.
use mathlib.Core.Path.{◌≡◌, refl, ap, subst}
use mathlib.Core.Bool.{true, false}
use mathlib.Core.List.{List}
use mathlib.Core.Option.{Option, some, none}
use Prim.Native.Nat.{ℕ, ◌+◌}
use native.Mathlib.Omega.{arith}
use Rattle.money.specs.declared.Money.{Money}
use Rattle.epe.specs.Name.{title_of}
use Rattle.epe.specs.declared.ident.Ident.{Ident}
use Rattle.epe.specs.declared.profile.Profile.{Profile}
use Rattle.epe.proofs.IdentLaws.{same_is_equal}
use Rattle.model.specs.Shipment.{Shipment, only_if}
use Rattle.model.specs.Calls.{Act, Return, Call, Intake, Transfer, On, Refused, is_refusal, Outcome, waiting, transferred, acted}
use Rattle.model.specs.Book.{Book, Step, stay, find, step}
use Rattle.model.specs.Moved.{moved}
use Rattle.model.specs.Demand.{is_for, of_shipment, order_by_index, leaves, below, orders_of, worth_of_order, left_with_orders, orders_leaving}
use Rattle.model.specs.declared.Route.{Route}
use Rattle.model.proofs.Asking.{intake_either, transfer_either}
use Rattle.model.proofs.Sums.{below_none}
use Rattle.model.proofs.Leaving.{acted_leaves, none_counted, acted_empties, transferred_keeps}
use Rattle.model.proofs.Finding.{answered, after, first_answer_lem, on_answer, on_found, nothing_leaves}

abbrev Entire : Ident → Money → Book → Call → Type 0
Entire ident money book call =
    (moved call (step book call).answer).goes_out money ≡ left_with_orders money ident book call + (moved call (step book call).answer).surplus money

-- an answer that says that no order's money left
record Quiet (call : Call) (next : Step) : Type 0 where
  quiet : (money : Money) → (moved call next.answer).goes_out money ≡ (moved call next.answer).surplus money

quiet_entire : (call : Call) (book : Book) (ident : Ident) (money : Money) → Quiet call (step book call)
    → ((j : ℕ) → leaves money ident j book call ≡ false) → Entire ident money book call
quiet_entire call book ident money says kept = omega (arith, says.quiet money, nothing)
  where
    nothing : left_with_orders money ident book call ≡ 0
    nothing =
        let worth_of : ℕ → ℕ = λ j. worth_of_order money j (find ident book) in
        below_none (orders_of (find ident book)) (λ j. only_if (leaves money ident j book call) (worth_of j)) (λ j. ap (λ t. only_if t (worth_of j)) (kept j))

refusal : (call : Call) (book : Book) (number : ℕ) → Quiet call (stay (Refused number) book)
refusal call book number = record { quiet = λ money. refl }

intake_quiet : (book : Book) (profile : Profile) (name file : List ℕ) → Quiet (Intake profile name file) (step book (Intake profile name file))
intake_quiet book profile name file =
    let call = Intake profile name file in
    intake_either (Quiet call) profile name file book (refusal call book) (λ new. record { quiet = λ money. refl })

transfer_quiet : (book : Book) (title : List ℕ) (amount : ℕ) → Quiet (Transfer title amount) (step book (Transfer title amount))
transfer_quiet book title amount =
    let call = Transfer title amount in
    let paid = (title_of title).money in
    transfer_either (Quiet call) title amount book (refusal call book) (record {
      quiet = λ money.
          first_answer_lem (transferred paid amount) (λ answer. (moved call answer).goes_out money ≡ (moved call answer).surplus money) refl
          (λ s. (transferred_keeps title amount paid amount s).left money) _ book;
    })

-- a call by an identifier, for its shipment
module _ (ident : Ident) (act : Act) where
  found_entire : (money : Money) (found : Option Shipment)
      → (moved (On ident act) (answered (acted act) found)).goes_out money
      ≡ below (orders_of found)
      (λ j. only_if ((moved (On ident act) (answered (acted act) found)).takes_from money j (order_by_index j found) (order_by_index j (after (acted act) found)))
      (worth_of_order money j found))
      + (moved (On ident act) (answered (acted act) found)).surplus money
  found_entire money none = refl
  found_entire money (some s) = (acted_leaves ident act s).entire money

  on_entire : (money : Money) (book : Book) → Entire ident money book (On ident act)
  unfolding is_for
  on_entire money book =
      rw (on_answer ident act book, on_found ident act book, (same_is_equal ident ident).1 refl) (found_entire money (find ident book))

-- "No order's money leaves .. in part."
pub entire : (book : Book) (call : Call) (ident : Ident) (money : Money) → is_for ident call ≡ true
    → (moved call (step book call).answer).goes_out money ≡ left_with_orders money ident book call + (moved call (step book call).answer).surplus money
unfolding is_for
entire book (Intake profile name file) ident money for =
    let call = Intake profile name file in
    quiet_entire call book ident money (intake_quiet book profile name file) (λ j. nothing_leaves money ident j book call refl (λ total orders. refl))
entire book (Transfer title amount) ident money for =
    let call = Transfer title amount in
    quiet_entire call book ident money (transfer_quiet book title amount) (λ j. nothing_leaves money ident j book call refl (λ total orders. refl))
entire book (On other act) ident money for =
    subst (λ (other : Ident). Entire ident money book (On other act)) ((same_is_equal ident other).0 for) (on_entire ident act money book)

-- a return, for its shipment
module _ (ident : Ident) (route : Route) (money : Money) where
  abbrev call : Call
  call = On ident (Return route money)

  abbrev does : Shipment → Outcome
  does = acted (Return route money)

  found_counted : (found : Option Shipment)
      → (n : ℕ) → (moved call (answered does found)).count ≡ some n
      → n ≡ below (orders_of found) (λ j. only_if ((moved call (answered does found)).takes_from money j (order_by_index j found) (order_by_index j (after does found))) 1)
  found_counted none = λ n said. absurd (none_counted said)
  found_counted (some s) = (acted_empties ident route money s).counted

  found_emptied : (found : Option Shipment) → is_refusal (answered does found) ≡ false → of_shipment (waiting route money) (after does found) ≡ 0
  found_emptied none accepted = refl
  found_emptied (some s) accepted = (acted_empties ident route money s).emptied accepted

  on_counted : (book : Book) (n : ℕ) → (moved call (step book call).answer).count ≡ some n → n ≡ orders_leaving money ident book call
  unfolding is_for
  on_counted book =
      rw (on_answer ident (Return route money) book, on_found ident (Return route money) book, (same_is_equal ident ident).1 refl)
      (found_counted (find ident book))

  on_emptied : (book : Book) → is_refusal (step book call).answer ≡ false → of_shipment (waiting route money) (find ident (step book call).book) ≡ 0
  on_emptied book = rw (on_answer ident (Return route money) book, on_found ident (Return route money) book) (found_emptied (find ident book))

-- A return's count.
pub counted : (book : Book) (call : Call) (ident : Ident) (route : Route) (money : Money) → call ≡ On ident (Return route money)
    → (n : ℕ) → (moved call (step book call).answer).count ≡ some n → n ≡ orders_leaving money ident book call
counted book call ident route money is = rw is (on_counted ident route money book)

-- "Nothing of that money waits there after."
pub emptied : (book : Book) (call : Call) (ident : Ident) (route : Route) (money : Money) → call ≡ On ident (Return route money)
    → is_refusal (step book call).answer ≡ false → of_shipment (waiting route money) (find ident (step book call).book) ≡ 0
emptied book call ident route money is = rw is (on_emptied ident route money book)
