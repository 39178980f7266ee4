-- No order's money leaves twice: what has left is gone at every later point, and each leaving adds one to what is gone.
-- Assumes nothing.
use mathlib.Core.Path.{◌≡◌, refl, subst}
use mathlib.Core.Bool.{false}
use mathlib.Core.List.{List, [], ◌∷◌}
use mathlib.Core.Option.{Option, some, none}
use Prim.Native.Nat.{ℕ, ◌+◌, ◌≤◌}
use native.Mathlib.Omega.{arith}
use Rattle.text.proofs.Branches.{first_no_lem, either_way}
use Rattle.money.specs.declared.Money.{Money}
use Rattle.epe.specs.Ident.{same_ident}
use Rattle.epe.specs.Name.{title_of}
use Rattle.epe.specs.declared.ident.Ident.{Ident}
use Rattle.epe.proofs.IdentLaws.{same_is_equal}
use Rattle.model.specs.Shipment.{Shipment, only_if}
use Rattle.model.specs.Calls.{Act, Call, Intake, Transfer, On, Refused, transferred, acted}
use Rattle.model.specs.Book.{Book, Step, stay, find, step}
use Rattle.model.specs.Moved.{moved}
use Rattle.model.specs.Demand.{is_for, run, of_shipment, order_by_index, leaves, times_left}
use Rattle.model.proofs.Asking.{intake_either, transfer_either}
use Rattle.model.proofs.Leaving.{gone_at, gone_one, acted_leaves, transferred_keeps}
use Rattle.model.proofs.Finding.{answered, after, found_grows, appended_grows, on_answer, on_found, nothing_leaves}

module _ (money : Money) (ident : Ident) (j : ℕ) where
  abbrev gone_in : Book → ℕ
  gone_in book = of_shipment (gone_at money j) (find ident book)

  -- what is gone stays so
  record Grows (book : Book) (next : Step) : Type 0 where
    grows : gone_in book ≤ gone_in next.book

  refusal : (book : Book) (number : ℕ) → Grows book (stay (Refused number) book)
  refusal book number = record { grows = omega arith }

  step_grows : (book : Book) (call : Call) → Grows book (step book call)
  unfolding step
  step_grows book (Intake profile name file) =
      intake_either (Grows book) profile name file book (refusal book) (λ new. record { grows = appended_grows (gone_at money j) ident book _ })
  step_grows book (Transfer title amount) =
      let keeps = transferred_keeps title amount (title_of title).money amount in
      transfer_either (Grows book) title amount book (refusal book) (record {
        grows = found_grows (transferred (title_of title).money amount) (λ s. (keeps s).named) (gone_at money j)
            (λ s. rw (keeps s).rows (omega arith)) _ ident book;
      })
  step_grows book (On other act) = record {
    grows = found_grows (acted act) (λ s. (acted_leaves other act s).named) (gone_at money j)
        (λ s. omega (arith, (acted_leaves other act s).once money j)) _ ident book;
  }

  -- a step by which the money leaves finds it not gone, and leaves it gone
  abbrev Once : Book → Call → Type 0
  Once book call = gone_in book + only_if (leaves money ident j book call) 1 ≤ gone_in (step book call).book

  not_leaving : (book : Book) (call : Call) → leaves money ident j book call ≡ false → Once book call
  not_leaving book call kept = rw kept (omega (arith, (step_grows book call).grows))

  found_once : (act : Act) (found : Option Shipment)
      → of_shipment (gone_at money j) found
      + only_if ((moved (On ident act) (answered (acted act) found)).takes_from money j (order_by_index j found) (order_by_index j (after (acted act) found))) 1
      ≤ of_shipment (gone_at money j) (after (acted act) found)
  found_once act none = omega arith
  found_once act (some s) = (acted_leaves ident act s).once money j

  on_once : (book : Book) (act : Act) → Once book (On ident act)
  unfolding is_for
  on_once book act = rw (on_answer ident act book, on_found ident act book, (same_is_equal ident ident).1 refl) (found_once act (find ident book))

  step_once : (book : Book) (call : Call) → Once book call
  unfolding is_for
  step_once book (Intake profile name file) =
      let call = Intake profile name file in
      not_leaving book call (nothing_leaves money ident j book call refl (λ total orders. refl))
  step_once book (Transfer title amount) =
      let call = Transfer title amount in
      not_leaving book call (nothing_leaves money ident j book call refl (λ total orders. refl))
  step_once book (On other act) =
      either_way (same_ident ident other)
      (λ same. subst (λ (other : Ident). Once book (On other act)) ((same_is_equal ident other).0 same) (on_once book act))
      (λ apart. not_leaving book (On other act) (first_no_lem (same_ident ident other) _ apart))

  times_gone : (book : Book) (calls : List Call) → gone_in book + times_left money ident j book calls ≤ gone_in (run book calls)
  times_gone book [] = omega arith
  times_gone book (call ∷ calls) = omega (arith, step_once book call, times_gone (step book call).book calls)

  found_gone_one : (found : Option Shipment) → of_shipment (gone_at money j) found ≤ 1
  found_gone_one none = omega arith
  found_gone_one (some s) = gone_one money (order_by_index j (some s)).state

-- "No order's money leaves twice."
pub never_twice : (calls : List Call) (money : Money) (ident : Ident) (j : ℕ) → times_left money ident j [] calls ≤ 1
never_twice calls money ident j = omega (arith, times_gone money ident j [] calls, found_gone_one money ident j (find ident (run [] calls)))
