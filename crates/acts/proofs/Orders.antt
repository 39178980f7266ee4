-- What is done with one order of the shipment at a place.
-- Assumes nothing.
use mathlib.Core.Path.{◌≡◌, refl, sym, ap, ◌∙◌}
use mathlib.Core.Bool.{Bool, true, false}
use mathlib.Core.List.{List}
use Prim.Native.Nat.{ℕ, ◌+◌, ◌-◌, ◌≤◌, ◌<◌}
use native.Mathlib.Omega.{arith}
use borrow.Author.Tests.{leb-true}
use lib.Dec.{leb}
use lib.ListN.{length, get_or, set}
use Rattle.text.specs.Bytes.{between}
use Rattle.text.proofs.Branches.{and_left, and_right}
use Rattle.money.specs.declared.Amount.{Amount}
use Rattle.money.specs.declared.Fee.{Fee}
use Rattle.epe.proofs.QuestionLaws.{asked_no, asked_yes, asked_none}
use Rattle.model.specs.Shipment.{most_rows, Shipment, is_paired}
use Rattle.model.specs.Calls.{Refused, changes_nothing, leave, with_rows, with_state, fits, becomes, says, no_order, order_at, on_order}
use Rattle.model.specs.Sound.{fault_in_range}
use Rattle.model.specs.declared.Deed.{Deed}
use Rattle.model.specs.declared.Deed.TheVariants.{Post, Pay, MarkUndelivered, Withdraw}
use Rattle.model.specs.declared.Row.{Row}
use Rattle.model.specs.declared.State.{State}
use Rattle.memory.specs.Layout.{row_bytes}
use Rattle.memory.specs.Rows.{row_of}
use Rattle.memory.specs.Heads.{shipment_in}
use Rattle.memory.specs.Read.{rows_from, orders_at, shipment_at, Sits}
use Rattle.memory.specs.Inner.Stored.{code_of, with_code_at}
use Rattle.memory.proofs.Frames.{row_among}
use Rattle.memory.proofs.StateLaws.{state_is_read_back}
use Rattle.memory.proofs.RowLaws.{code_stored}
use Rattle.acts.specs.Inner.Handled.{handled_as}
use Rattle.acts.specs.Inner.Place.{ActAt}
use Rattle.acts.specs.declared.order.Handled.{Handled}
use Rattle.acts.proofs.RowLaws.{row_at, rows_set}
use Rattle.memory.proofs.Columns.{rows_many}
use Rattle.acts.proofs.ShipmentChanged.{refused_at, rows_changed}

becomes_in_range : (deed : Deed) → fault_in_range (becomes deed) ≡ true
becomes_in_range Post = refl
becomes_in_range Pay = refl
becomes_in_range MarkUndelivered = refl
becomes_in_range Withdraw = refl

handled_taken : (deed : Deed) (handled : Handled) → changes_nothing (handled_as deed handled) ≡ false
handled_taken Post handled = refl
handled_taken Pay handled = refl
handled_taken MarkUndelivered handled = refl
handled_taken Withdraw handled = refl

abbrev handled_in : Row → Handled
handled_in row = record { fee = row.fee; amount = row.amount }

handled_says : (deed : Deed) (row : Row) → says deed row ≡ handled_as deed (handled_in row)
handled_says Post row = refl
handled_says Pay row = refl
handled_says MarkUndelivered row = refl
handled_says Withdraw row = refl

module _ (m : List ℕ) (i k : ℕ) (deed : Deed) (number : ℕ) (t : Shipment) (is : t ≡ shipment_at m i k) where
  abbrev s : Shipment
  s = shipment_at m i k

  -- "Paired? 19"
  module _ {paired : Bool} (is-paired : paired ≡ is_paired t.stage) where
    paired_test : is_paired s.stage ≡ paired
    paired_test = sym (is-paired ∙ ap (λ (s : Shipment). is_paired s.stage) is)

    pub unpaired_at : paired ≡ false → ActAt m i k (on_order deed number) (Refused 19) m
    unfolding on_order
    unpaired_at unpaired = refused_at (asked_no 19 _ _ _ (paired_test ∙ unpaired))

    -- "Order number from 1 to the count? 20"
    module _ (held : paired ≡ true) (rows : List Row) (rows_are : rows ≡ t.rows) {n : ℕ} (is_count : n ≡ length rows) {within : Bool} (is_within : within ≡ between 1 n number) where
      all : rows ≡ s.rows
      all = rows_are ∙ ap (λ (s : Shipment). s.rows) is

      count_is : n ≡ orders_at m i
      unfolding shipment_in
      count_is = is_count ∙ ap length all ∙ rows_many m k (orders_at m i)

      within_is : between 1 (length s.rows) number ≡ within
      within_is = ap (λ count. between 1 count number) (ap length (sym all) ∙ sym is_count) ∙ sym is_within

      pub no_order_at : within ≡ false → ActAt m i k (on_order deed number) (Refused 20) m
      unfolding on_order
      no_order_at outside = refused_at (asked_yes 19 _ _ _ (paired_test ∙ held) ∙ asked_no 20 _ _ _ (within_is ∙ outside))

      -- the order is one of the shipment
      module _ (inside : within ≡ true) where
        pub from_one : 1 ≤ number
        from_one = leb-true 1 number (and_left (leb 1 number) (leb number n) (sym is_within ∙ inside))

        below_count : number ≤ n
        below_count = leb-true number n (and_right (leb 1 number) (leb number n) (sym is_within ∙ inside))

        pub among : number - 1 < length rows
        among = omega (arith, from_one, below_count, is_count)

        to_count : number ≤ orders_at m i
        to_count = omega (arith, below_count, count_is)

        pub row_there : Sits m i k → k + (number - 1) < most_rows
        row_there sits = omega (arith, sits.room, from_one, to_count)

        row_is : row_of (row_bytes m (k + (number - 1))) ≡ order_at number s
        unfolding shipment_in
        row_is = sym (row_at m k (orders_at m i) (number - 1) no_order (omega (arith, from_one, to_count)))

        -- "State fits? 21"
        module _ (again : List Row) (again_are : again ≡ t.rows) {order : Row} (is_order : (none : Row) → order ≡ get_or again (number - 1) none) {state : State} (state_is : state ≡ order.state)
            {fitting : Bool} (is_fitting : fitting ≡ fits deed state) where
          order_is : order_at number s ≡ order
          order_is = sym (is_order no_order ∙ ap (λ (rows : List Row). get_or rows (number - 1) no_order) (again_are ∙ ap (λ (s : Shipment). s.rows) is))

          fitting_is : fits deed (order_at number s).state ≡ fitting
          fitting_is = ap (λ (order : Row). fits deed order.state) order_is ∙ sym (is_fitting ∙ ap (fits deed) state_is)

          pub unfit_at : fitting ≡ false → ActAt m i k (on_order deed number) (Refused 21) m
          unfolding on_order
          unfit_at unfit =
              refused_at
              (asked_yes 19 _ _ _ (paired_test ∙ held) ∙ asked_yes 20 _ _ _ (within_is ∙ inside) ∙ asked_no 21 _ _ _ (fitting_is ∙ unfit))

          pub handled_at : (sits : Sits m i k) {fee : Fee} {amount : Amount} → fee ≡ order.fee → amount ≡ order.amount → fitting ≡ true
              → ActAt m i k (on_order deed number) (handled_as deed (record { fee = fee; amount = amount })) (with_code_at m (k + (number - 1)) (code_of (becomes deed)))
          unfolding on_order shipment_in
          handled_at sits {fee} {amount} fee_is amount_is fit =
              let at = k + (number - 1) in
              let stored = code_stored m at (code_of (becomes deed)) in
              let there = row_there sits in
              let new = stored.row there sits.enough ∙ ap (λ state. with_state state (row_of (row_bytes m at))) (state_is_read_back (becomes deed) (becomes_in_range deed)) in
              rows_changed (handled_taken deed _) sits.few
              (row_among k (orders_at m i) (omega arith) (omega (arith, from_one, to_count)) (stored.only there))
              (rows_set m _ k (orders_at m i) (number - 1) (omega (arith, from_one, to_count)) (λ r from below. (stored.only there).other_rows r (omega (arith, sits.room)))
              ∙ ap (set (rows_from m k (orders_at m i)) (number - 1)) (new ∙ ap (with_state (becomes deed)) row_is))
              (asked_yes 19 _ _ _ (paired_test ∙ held)
              ∙ asked_yes 20 _ _ _ (within_is ∙ inside)
              ∙ asked_yes 21 _ _ _ (fitting_is ∙ fit)
              ∙ asked_none _ _
              ∙ ap (λ answer. leave answer (with_rows (set s.rows (number - 1) (with_state (becomes deed) (order_at number s))) s))
              (handled_says deed (order_at number s)
              ∙ ap (λ (order : Row). handled_as deed (handled_in order)) order_is
              ∙ (λ t. handled_as deed (record { fee = sym fee_is t; amount = sym amount_is t }))))

pub ruleset handles = (unpaired_at, no_order_at, from_one, among, row_there, unfit_at, handled_at)
