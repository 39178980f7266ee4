-- One act on one sound shipment: a refusal leaves all as it was, and what the shipment holds and has free changes just by what the answer says
-- was accepted and what left.
-- Assumes nothing.
use mathlib.Core.Path.{◌≡◌, refl, ap}
use mathlib.Core.Bool.{Bool, true, false, cond, ◌&&◌, ◌||◌, false≢true}
use mathlib.Core.List.{List, [], ◌∷◌, map}
use Prim.Native.Nat.{ℕ, ◌+◌, ◌-◌, ◌≤◌, ◌<◌}
use native.Mathlib.Omega.{arith}
use lib.ListN.{length, set}
use Rattle.text.proofs.Branches.{cond_either}
use Rattle.money.specs.declared.Money.{Money}
use Rattle.money.specs.declared.Money.TheVariants.{K, O}
use Rattle.fee.specs.declared.Terms.{Terms}
use Rattle.epe.specs.Questions.{Question, AllYes, asked}
use Rattle.epe.specs.Name.{title_of}
use Rattle.epe.specs.declared.ident.Ident.{Ident}
use Rattle.epe.proofs.QuestionLaws.{asked_either}
use Rattle.model.specs.Shipment.{Shipment, accepted, returned, is_waiting, is_paired, only_if, sum_over, waits, worth, need}
use Rattle.model.specs.Shipment.{need_once_paired, free, holds, held}
use Rattle.model.specs.Calls.{Act, GoAhead, Pair, Close, OnOrder, Return, Call, Transfer, On}
use Rattle.model.specs.Calls.{Answer, Done, IsPaired, Short, Returned, is_refusal, Outcome, leave, refusing}
use Rattle.model.specs.Calls.{with_stage, with_go_ahead, with_accepted, with_returned, with_rows, with_state}
use Rattle.model.specs.Calls.{transferred, gone_ahead, needs_covered, paired, closed, fits, becomes, says, no_order, order_at, on_order}
use Rattle.model.specs.Calls.{takes, waits_on, cleared, after_return, waiting, returned_by, surplus_returned, acted}
use Rattle.model.specs.Sound.{before_pairing, row_sound, rows_sound}
use Rattle.model.specs.Moved.{is_money, moved}
use Rattle.model.specs.declared.Deed.{Deed}
use Rattle.model.specs.declared.Deed.TheVariants.{Post, Pay, MarkUndelivered, Withdraw}
use Rattle.model.specs.declared.Route.{Route}
use Rattle.model.specs.declared.Route.TheVariants.{Zwr, Opr, Zpr, Zzr}
use Rattle.model.specs.declared.Row.{Row}
use Rattle.model.specs.declared.Stage.{Stage}
use Rattle.model.specs.declared.Stage.TheVariants.{Paired, Closed}
use Rattle.model.specs.declared.State.{State}
use Rattle.model.specs.declared.State.TheVariants.{Open, Posted, Paid, Faulty, Undelivered, Withdrawn}
use Rattle.model.proofs.Asking.{not_both}
use Rattle.model.proofs.Sums.{sum_set, sum_moved, sum_map}
use Rattle.model.proofs.Shipments.{only_if_true, only_if_false, waiting_unpaired, return_worth, both_covered}
use Rattle.model.proofs.Shipments.{state_for, fitting_state, in_range}
use Rattle.model.proofs.SoundParts.{halves, InOrder}

-- What an order holds in a Paired shipment.
abbrev pub held_by : Money → Row → ℕ
held_by money row = only_if (holds money row.state) (worth money row)

-- What conservation needs of a shipment: its transfers cover what is taken from them; before pairing every order still holds its whole worth, so
-- that pairing moves just the need; and no surplus was returned while it waits.
pub record Balanced (s : Shipment) : Type 0 where
  pub covered : (money : Money) → need_once_paired money s + returned money s ≤ accepted money s
  pub whole : is_paired s.stage ≡ false → (money : Money) → sum_over (held_by money) s.rows ≡ need money s
  pub unreturned : is_waiting s.stage ≡ true → (money : Money) → returned money s ≡ 0

-- a sound shipment is balanced: before pairing its orders are Open, or Faulty with both moneys waiting
unpaired_holds : (state : State) → before_pairing state ≡ true → (money : Money) → holds money state ≡ true
unpaired_holds Open e K = refl
unpaired_holds Open e O = refl
unpaired_holds Posted e money = absurd (false≢true e)
unpaired_holds Paid e money = absurd (false≢true e)
unpaired_holds (Faulty fault true true) e K = refl
unpaired_holds (Faulty fault true true) e O = refl
unpaired_holds (Faulty fault true false) e money = absurd (false≢true e)
unpaired_holds (Faulty fault false o) e money = absurd (false≢true e)
unpaired_holds (Undelivered k) e money = absurd (false≢true e)
unpaired_holds (Withdrawn k o) e money = absurd (false≢true e)

module _ (terms : Terms) (stage : Stage) (unpaired : is_paired stage ≡ false) (money : Money) where
  row_whole : (row : Row) → row_sound terms stage row ≡ true → held_by money row ≡ worth money row
  unfolding row_sound
  row_whole row h =
      let before : (is_paired stage || before_pairing row.state) ≡ true = search halves in
      only_if_true (holds money row.state) (worth money row) (unpaired_holds row.state (rw unpaired at before) money)

  rows_whole : (rows : List Row) → rows_sound terms stage rows ≡ true → sum_over (held_by money) rows ≡ sum_over (worth money) rows
  unfolding rows_sound
  rows_whole [] h = refl
  rows_whole (row ∷ rows) h = omega (arith, row_whole row (search halves), rows_whole rows (search halves))

pub balanced : (s : Shipment) → InOrder s → Balanced s
unfolding need
balanced s h = record {
  covered = λ money. omega (arith, (h.moneys money).covered);
  whole = λ unpaired money. rows_whole s.agreed.terms s.stage unpaired money s.rows h.rows_sound;
  unreturned = λ waiting money. (h.moneys money).unreturned waiting;
}

-- What a call does to its shipment, as demand 3 wants it.
pub record Fair (call : Call) (s : Shipment) (outcome : Outcome) : Type 0 where
  pub name : outcome.shipment.agreed.name ≡ s.agreed.name
  pub refused : is_refusal outcome.answer ≡ true → outcome.shipment ≡ s
  pub conserves : (money : Money)
      → held money s + free money s + (moved call outcome.answer).comes_in money
      ≡ held money outcome.shipment + free money outcome.shipment + (moved call outcome.answer).goes_out money
  pub grows : (money : Money) → accepted money s + (moved call outcome.answer).comes_in money ≡ accepted money outcome.shipment

-- a refusal is fair, so only what is done where all questions are answered yes is left to show
fairly : (call : Call) (s : Shipment) (qs : List Question) (next : Outcome) → (AllYes qs → Fair call s next) → Fair call s (asked qs (refusing s) next)
fairly call s qs next =
    asked_either (Fair call s) qs (refusing s) next
    (λ n. record { name = refl; refused = λ e. refl; conserves = λ money. refl; grows = λ money. omega arith })

-- a transfer, into either money, moves that money's free money only
module _ (s : Shipment) (b : Balanced s) (n : ℕ) where
  transfer_conserves : (other money : Money)
      → held money s + free money s + only_if (is_money money other) n ≡ held money (with_accepted other n s) + free money (with_accepted other n s) + 0
  unfolding held free need
  transfer_conserves K K = omega (arith, b.covered K)
  transfer_conserves K O = omega (arith, b.covered O)
  transfer_conserves O K = omega (arith, b.covered K)
  transfer_conserves O O = omega (arith, b.covered O)

  transfer_grows : (other money : Money) → accepted money s + only_if (is_money money other) n ≡ accepted money (with_accepted other n s)
  transfer_grows K K = refl
  transfer_grows K O = refl
  transfer_grows O K = refl
  transfer_grows O O = refl

  -- whatever its title
  transfer_fair : (title : List ℕ) → Fair (Transfer title n) s (leave Done (with_accepted (title_of title).money n s))
  transfer_fair title = record {
    name = refl;
    refused = λ e. absurd (false≢true e);
    conserves = transfer_conserves (title_of title).money;
    grows = transfer_grows (title_of title).money;
  }

  pub transferred_fair : (title : List ℕ) → Fair (Transfer title n) s (transferred (title_of title).money n s)
  unfolding transferred
  transferred_fair title = fairly _ s _ _ (λ yes. transfer_fair title)

module _ (ident : Ident) (s : Shipment) (b : Balanced s) where
  go_ahead_fair : Fair (On ident GoAhead) s (leave Done (with_go_ahead s))
  unfolding held free need
  go_ahead_fair = record {
    name = refl;
    refused = λ e. absurd (false≢true e);
    conserves = λ money. refl;
    grows = λ money. omega arith;
  }

  gone_ahead_fair : Fair (On ident GoAhead) s (gone_ahead s)
  unfolding gone_ahead
  gone_ahead_fair = fairly _ s _ _ (λ yes. go_ahead_fair)

  -- before pairing nothing is held or needed
  module _ (waits : is_waiting s.stage ≡ true) where
    unpaired : is_paired s.stage ≡ false
    unpaired = waiting_unpaired s.stage waits

    no_need : (money : Money) → need_once_paired money s ≡ 0
    no_need money = only_if_false (is_paired s.stage) (need money s) unpaired

    none_held : (money : Money) → held money s ≡ 0
    unfolding held
    none_held money = only_if_false (is_paired s.stage) (sum_over (held_by money) s.rows) unpaired

    close_conserves : (money : Money) → held money s + free money s + 0 ≡ held money (with_stage Closed s) + free money (with_stage Closed s) + 0
    unfolding held free
    close_conserves money = omega (arith, no_need money, none_held money)

    close_fair : Fair (On ident Close) s (leave Done (with_stage Closed s))
    close_fair = record {
      name = refl;
      refused = λ e. absurd (false≢true e);
      conserves = close_conserves;
      grows = λ money. omega arith;
    }

    -- both needs covered
    module _ (covers : (money : Money) → need money s ≤ accepted money s) where
      pair_covers : (money : Money) → need money (with_stage Paired s) + returned money s ≤ accepted money s
      unfolding need
      pair_covers money = omega (arith, covers money, b.unreturned waits money)

      pair_conserves : (money : Money) → held money s + free money s + 0 ≡ held money (with_stage Paired s) + free money (with_stage Paired s) + 0
      unfolding held free need
      pair_conserves money = omega (arith, no_need money, none_held money, pair_covers money, b.whole unpaired money)

      pair_fair : Fair (On ident Pair) s (leave IsPaired (with_stage Paired s))
      pair_fair = record {
        name = refl;
        refused = λ e. absurd (false≢true e);
        conserves = pair_conserves;
        grows = λ money. omega arith;
      }

  short_fair : (k o : ℕ) → Fair (On ident Pair) s (leave (Short k o) s)
  short_fair k o = record { name = refl; refused = λ e. refl; conserves = λ money. refl; grows = λ money. omega arith }

  closed_fair : Fair (On ident Close) s (closed s)
  unfolding closed
  closed_fair = fairly _ s _ _ (λ yes. close_fair yes.0)

  paired_fair : Fair (On ident Pair) s (paired s)
  unfolding paired
  paired_fair =
      fairly _ s _ _
      (λ yes. cond_either (Fair (On ident Pair) s) (needs_covered s) _ _ (λ covered. pair_fair yes.0 (both_covered s covered)) (λ short. short_fair _ _))

-- new orders in a Paired shipment: what they hold falls by what left, and the need stays
module _ (call : Call) (s : Shipment) (b : Balanced s) (is-paired : is_paired s.stage ≡ true) (rows : List Row) (answer : Answer) where
  module _
      (sums : (money : Money) → sum_over (worth money) rows ≡ sum_over (worth money) s.rows)
      (fallen : (money : Money) → sum_over (held_by money) rows + (moved call answer).goes_out money ≡ sum_over (held_by money) s.rows)
      (none_in : (money : Money) → (moved call answer).comes_in money ≡ 0)
      (taken : is_refusal answer ≡ false) where
    rows_need : (money : Money) → need_once_paired money (with_rows rows s) ≡ need_once_paired money s
    unfolding need
    rows_need money = ap (only_if (is_paired s.stage)) (sums money)

    rows_conserve : (money : Money)
        → held money s + free money s + (moved call answer).comes_in money ≡ held money (with_rows rows s) + free money (with_rows rows s) + (moved call answer).goes_out money
    unfolding held free
    rows_conserve money =
        omega (
          arith,
          rows_need money,
          fallen money,
          none_in money,
          only_if_true (is_paired s.stage) (sum_over (held_by money) rows) is-paired,
          only_if_true (is_paired s.stage) (sum_over (held_by money) s.rows) is-paired,
        )

    rows_fair : Fair call s (leave answer (with_rows rows s))
    rows_fair = record {
      name = refl;
      refused = λ e. absurd (not_both (is_refusal answer) e taken);
      conserves = rows_conserve;
      grows = λ money. omega (arith, none_in money);
    }

-- what the order holds less by a deed is what leaves
deed_moves : (deed : Deed) (ident : Ident) (number : ℕ) (row : Row) (money : Money)
    → held_by money (with_state (becomes deed) row) + (moved (On ident (OnOrder deed number)) (says deed row)).goes_out money
    ≡ held_by money (with_state (state_for deed) row)
deed_moves Post ident number row K = omega arith
deed_moves Post ident number row O = omega arith
deed_moves Pay ident number row K = omega arith
deed_moves Pay ident number row O = omega arith
deed_moves MarkUndelivered ident number row K = omega arith
deed_moves MarkUndelivered ident number row O = omega arith
deed_moves Withdraw ident number row K = omega arith
deed_moves Withdraw ident number row O = omega arith

deed_brings_none : (deed : Deed) (ident : Ident) (number : ℕ) (row : Row) (money : Money)
    → (moved (On ident (OnOrder deed number)) (says deed row)).comes_in money ≡ 0
deed_brings_none Post ident number row money = refl
deed_brings_none Pay ident number row money = refl
deed_brings_none MarkUndelivered ident number row money = refl
deed_brings_none Withdraw ident number row money = refl

deed_taken : (deed : Deed) (row : Row) → is_refusal (says deed row) ≡ false
deed_taken Post row = refl
deed_taken Pay row = refl
deed_taken MarkUndelivered row = refl
deed_taken Withdraw row = refl

module _ (ident : Ident) (deed : Deed) (number : ℕ) (s : Shipment) (b : Balanced s) where
  abbrev order : Row
  order = order_at number s

  abbrev after : Row
  after = with_state (becomes deed) order

  module _ (is-paired : is_paired s.stage ≡ true) (there : number - 1 < length s.rows) (fitting : fits deed order.state ≡ true) where
    deed_held : (money : Money)
        → sum_over (held_by money) (set s.rows (number - 1) after) + (moved (On ident (OnOrder deed number)) (says deed order)).goes_out money
        ≡ sum_over (held_by money) s.rows
    deed_held money =
        omega (
          arith,
          sum_set (held_by money) s.rows (number - 1) after no_order there,
          deed_moves deed ident number order money,
          ap (λ state. held_by money (with_state state order)) (fitting_state deed order.state fitting),
        )

    deed_fair : Fair (On ident (OnOrder deed number)) s (leave (says deed order) (with_rows (set s.rows (number - 1) after) s))
    deed_fair =
        rows_fair (On ident (OnOrder deed number)) s b is-paired (set s.rows (number - 1) after) (says deed order)
        (λ money. omega (arith, sum_set (worth money) s.rows (number - 1) after no_order there))
        deed_held
        (deed_brings_none deed ident number order)
        (deed_taken deed order)

  on_order_fair : Fair (On ident (OnOrder deed number)) s (on_order deed number s)
  unfolding on_order
  on_order_fair = fairly _ s _ _ (λ yes. deed_fair yes.0 (in_range _ number yes.1.0) yes.1.1.0)

-- what waits on a route goes back: an order holds less just what it waited with, and nothing less of the other money
abbrev after_if : Bool → Money → Row → Row
after_if t money row = cond t (with_state (cleared money row.state) row) row

back_same : (t : Bool) (money : Money) (row : Row) (state : State)
    → held_by money (after_if (t && waits money state) money (with_state state row)) + only_if (t && waits money state) (worth money row)
    ≡ held_by money (with_state state row)
back_same false money row state = omega arith
back_same true money row Open = omega arith
back_same true money row Posted = omega arith
back_same true money row Paid = omega arith
back_same true K row (Faulty fault true o) = omega arith
back_same true K row (Faulty fault false o) = omega arith
back_same true O row (Faulty fault k true) = omega arith
back_same true O row (Faulty fault k false) = omega arith
back_same true K row (Undelivered true) = omega arith
back_same true K row (Undelivered false) = omega arith
back_same true O row (Undelivered k) = omega arith
back_same true K row (Withdrawn true o) = omega arith
back_same true K row (Withdrawn false o) = omega arith
back_same true O row (Withdrawn k true) = omega arith
back_same true O row (Withdrawn k false) = omega arith

abbrev the_other : Money → Money
the_other K = O
the_other O = K

back_other : (t : Bool) (money : Money) (row : Row) (state : State)
    → held_by (the_other money) (after_if t money (with_state state row)) ≡ held_by (the_other money) (with_state state row)
back_other false money row state = refl
back_other true money row Open = refl
back_other true money row Posted = refl
back_other true money row Paid = refl
back_other true K row (Faulty fault k o) = refl
back_other true O row (Faulty fault k o) = refl
back_other true K row (Undelivered k) = refl
back_other true O row (Undelivered k) = refl
back_other true K row (Withdrawn k o) = refl
back_other true O row (Withdrawn k o) = refl

module _ (route : Route) (s : Shipment) where
  returned_same : (money : Money)
      → sum_over (held_by money) (map (after_return route money) s.rows) + waiting route money s ≡ sum_over (held_by money) s.rows
  unfolding waiting
  returned_same money =
      sum_moved (held_by money) (λ row. only_if (waits_on route money row) (worth money row)) (held_by money) (after_return route money)
      (λ row. back_same (takes route row.state) money row row.state)
      s.rows

  returned_other : (money : Money)
      → sum_over (held_by (the_other money)) (map (after_return route money) s.rows) ≡ sum_over (held_by (the_other money)) s.rows
  returned_other money =
      sum_map (held_by (the_other money)) (held_by (the_other money)) (after_return route money)
      (λ row. back_other (waits_on route money row) money row row.state)
      s.rows

  returned_held : (other money : Money)
      → sum_over (held_by money) (map (after_return route other) s.rows) + only_if (is_money money other) (waiting route other s)
      ≡ sum_over (held_by money) s.rows
  returned_held K K = returned_same K
  returned_held O O = returned_same O
  returned_held K O = omega (arith, returned_other K)
  returned_held O K = omega (arith, returned_other O)

module _ (ident : Ident) (route : Route) (money : Money) (s : Shipment) (b : Balanced s) where
  return_fair : (count : ℕ) → is_paired s.stage ≡ true
      → Fair (On ident (Return route money)) s (leave (Returned (waiting route money s) count) (with_rows (map (after_return route money) s.rows) s))
  return_fair count is-paired =
      rows_fair (On ident (Return route money)) s b is-paired (map (after_return route money) s.rows) (Returned (waiting route money s) count)
      (λ other. return_worth route money other s.rows)
      (returned_held route s money)
      (λ other. refl)
      refl

  returned_by_fair : Fair (On ident (Return route money)) s (returned_by route money s)
  unfolding returned_by
  returned_by_fair = fairly _ s _ _ (λ yes. return_fair _ yes.0)

-- the surplus goes back: the free money falls by it
module _ (ident : Ident) (s : Shipment) (b : Balanced s) where
  surplus_conserves : (other money : Money)
      → held money s + free money s + 0
      ≡ held money (with_returned other (free other s) s) + free money (with_returned other (free other s) s) + only_if (is_money money other) (free other s)
  unfolding held free need
  surplus_conserves K K = omega (arith, b.covered K)
  surplus_conserves O O = omega (arith, b.covered O)
  surplus_conserves K O = omega (arith, b.covered O)
  surplus_conserves O K = omega (arith, b.covered K)

  surplus_fair : (money : Money)
      → Fair (On ident (Return Zwr money)) s (leave (Returned (free money s) 0) (with_returned money (free money s) s))
  surplus_fair money = record {
    name = refl;
    refused = λ e. absurd (false≢true e);
    conserves = surplus_conserves money;
    grows = λ other. omega arith;
  }

  surplus_returned_fair : (money : Money) → Fair (On ident (Return Zwr money)) s (surplus_returned money s)
  unfolding surplus_returned
  surplus_returned_fair money = fairly _ s _ _ (λ yes. surplus_fair money)

  -- Every act of a call that names a shipment.
  pub acted_fair : (act : Act) → Fair (On ident act) s (acted act s)
  unfolding acted
  acted_fair GoAhead = gone_ahead_fair ident s b
  acted_fair Pair = paired_fair ident s b
  acted_fair Close = closed_fair ident s b
  acted_fair (OnOrder deed number) = on_order_fair ident deed number s b
  acted_fair (Return Zwr money) = surplus_returned_fair money
  acted_fair (Return Opr money) = returned_by_fair ident Opr money s b
  acted_fair (Return Zpr money) = returned_by_fair ident Zpr money s b
  acted_fair (Return Zzr money) = returned_by_fair ident Zzr money s b
