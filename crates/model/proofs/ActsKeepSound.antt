-- Every act on a sound shipment leaves it sound, with its name and as many orders as before.
-- Assumes nothing.
use mathlib.Core.Path.{◌≡◌, refl, sym, ap, ◌∙◌}
use mathlib.Core.Bool.{true, false, false≢true}
use mathlib.Core.List.{List, map}
use Prim.Native.Nat.{ℕ, ◌+◌, ◌-◌, ◌≤◌}
use native.Mathlib.Omega.{arith}
use borrow.Author.Tests.{leb-true, not-true}
use lib.Dec.{leb}
use lib.ListN.{length, set, length-set, length-map}
use Rattle.text.specs.Bytes.{between}
use Rattle.text.proofs.Branches.{cond_either}
use Rattle.money.specs.Money.{sum_cap}
use Rattle.fee.specs.declared.Terms.{Terms}
use Rattle.epe.specs.Questions.{Question, AllYes, asked}
use Rattle.epe.proofs.QuestionLaws.{asked_either}
use Rattle.money.specs.declared.Money.{Money}
use Rattle.money.specs.declared.Money.TheVariants.{K, O}
use Rattle.model.specs.Shipment.{Shipment, accepted, returned, is_waiting, is_paired, only_if, sum_over, is_faulty, worth, need, need_once_paired, free, any_faulty}
use Rattle.model.specs.Calls.{Act, GoAhead, Pair, Close, OnOrder, Return}
use Rattle.model.specs.Calls.{Answer, Refused, Done, IsPaired, Outcome, leave, refusing}
use Rattle.model.specs.Calls.{with_stage, with_go_ahead, with_accepted, with_returned, with_rows, with_state}
use Rattle.model.specs.Calls.{transferred, gone_ahead, needs_covered, paired, closed, fits, becomes, says, no_order, order_at, on_order}
use Rattle.model.specs.Calls.{waits_on, cleared, after_return, returned_by, surplus_returned, acted}
use Rattle.model.specs.Sound.{fault_in_range, row_sound, rows_sound}
use Rattle.model.specs.declared.Deed.{Deed}
use Rattle.model.specs.declared.Deed.TheVariants.{Post, Pay, MarkUndelivered, Withdraw}
use Rattle.model.specs.declared.Route.{Route}
use Rattle.model.specs.declared.Route.TheVariants.{Zwr, Opr, Zpr, Zzr}
use Rattle.model.specs.declared.Row.{Row}
use Rattle.model.specs.declared.Stage.{Stage}
use Rattle.model.specs.declared.Stage.TheVariants.{Paired, Closed}
use Rattle.model.specs.declared.State.{State}
use Rattle.model.specs.declared.State.TheVariants.{Open, Posted, Paid, Faulty, Undelivered, Withdrawn}
use Rattle.model.proofs.Asking.{not_both}
use Rattle.model.proofs.Sums.{sum_set}
use Rattle.model.proofs.Shipments.{waiting_unpaired, return_worth, both_covered, state_for, fitting_state, in_range}
use Rattle.model.proofs.SoundParts.{where_first, MoneyInOrder, InOrder}
use Rattle.model.proofs.SoundParts.{row_fault, row_with_state, rows_later, rows_set, rows_map, row_at, faulty_set, faulty_map}

-- What an act leaves of a shipment s.
pub record Kept (s : Shipment) (outcome : Outcome) : Type 0 where
  pub in_order : InOrder outcome.shipment
  pub same_name : outcome.shipment.agreed.name ≡ s.agreed.name
  pub as_many : length outcome.shipment.rows ≡ length s.rows

unchanged : (s : Shipment) (answer : Answer) → InOrder s → Kept s (leave answer s)
unchanged s answer h = record { in_order = h; same_name = refl; as_many = refl }

-- a refusal is fine, so only what is done where all questions are answered yes is left to show
kept : (s : Shipment) (qs : List Question) (next : Outcome) → InOrder s → (AllYes qs → Kept s next) → Kept s (asked qs (refusing s) next)
kept s qs next h = asked_either (Kept s) qs (refusing s) next (λ number. unchanged s (Refused number) h)

-- the states before and after a deed, and after a return
fitting_unfaulty : (deed : Deed) (state : State) → fits deed state ≡ true → is_faulty state ≡ false
fitting_unfaulty deed state e = ap is_faulty (fitting_state deed state e) ∙ unfaulty deed
  where
    unfaulty : (deed : Deed) → is_faulty (state_for deed) ≡ false
    unfaulty Post = refl
    unfaulty Pay = refl
    unfaulty MarkUndelivered = refl
    unfaulty Withdraw = refl

becomes_unfaulty : (deed : Deed) → is_faulty (becomes deed) ≡ false
becomes_unfaulty Post = refl
becomes_unfaulty Pay = refl
becomes_unfaulty MarkUndelivered = refl
becomes_unfaulty Withdraw = refl

becomes_in_range : (deed : Deed) → fault_in_range (becomes deed) ≡ true
becomes_in_range Post = refl
becomes_in_range Pay = refl
becomes_in_range MarkUndelivered = refl
becomes_in_range Withdraw = refl

cleared_fault : (money : Money) (state : State) → fault_in_range (cleared money state) ≡ fault_in_range state
cleared_fault money Open = refl
cleared_fault money Posted = refl
cleared_fault money Paid = refl
cleared_fault money (Faulty fault k o) = refl
cleared_fault money (Undelivered k) = refl
cleared_fault money (Withdrawn k o) = refl

cleared_faulty : (money : Money) (state : State) → is_faulty (cleared money state) ≡ is_faulty state
cleared_faulty money Open = refl
cleared_faulty money Posted = refl
cleared_faulty money Paid = refl
cleared_faulty money (Faulty fault k o) = refl
cleared_faulty money (Undelivered k) = refl
cleared_faulty money (Withdrawn k o) = refl

-- an order after a return
module _ (route : Route) (money : Money) (row : Row) where
  abbrev after_clearing : Row
  after_clearing = with_state (cleared money row.state) row

  return_sound : (terms : Terms) (stage : Stage) → is_paired stage ≡ true → row_sound terms stage row ≡ true
      → row_sound terms stage (after_return route money row) ≡ true
  return_sound terms stage p h =
      cond_either (λ (r : Row). row_sound terms stage r ≡ true) (waits_on route money row) after_clearing row
      (λ waits. row_with_state terms stage row h (cleared money row.state) p (cleared_fault money row.state ∙ row_fault terms stage row h))
      (λ none. h)

  return_faulty : is_faulty (after_return route money row).state ≡ is_faulty row.state
  return_faulty =
      cond_either (λ (r : Row). is_faulty r.state ≡ is_faulty row.state) (waits_on route money row) after_clearing row
      (λ waits. cleared_faulty money row.state)
      (λ none. refl)

module _ (s : Shipment) (h : InOrder s) where
  -- a transfer
  transfer_fits : (money other : Money) (n : ℕ) → accepted money s + n ≤ sum_cap → accepted other (with_accepted money n s) ≤ sum_cap
  transfer_fits K K n e = e
  transfer_fits O O n e = e
  transfer_fits K O n e = omega (arith, (h.moneys O).accepted_fits)
  transfer_fits O K n e = omega (arith, (h.moneys K).accepted_fits)

  module _ (money : Money) (n : ℕ) where
    transfer_adds : (other : Money) → accepted other s ≤ accepted other (with_accepted money n s)
    transfer_adds K = omega arith
    transfer_adds O = omega arith

    transfer_money : accepted money s + n ≤ sum_cap → (other : Money) → MoneyInOrder other (with_accepted money n s)
    unfolding need
    transfer_money e other =
        let m = h.moneys other in
        record {
          accepted_fits = transfer_fits money other n e;
          returned_fits = m.returned_fits;
          covered = omega (arith, m.covered, transfer_adds other);
          unreturned = m.unreturned;
        }

    transfer_kept : leb (accepted money s + n) sum_cap ≡ true → Kept s (leave Done (with_accepted money n s))
    transfer_kept e = record {
      in_order = record {
        name_in_form = h.name_in_form;
        terms_fit_holds = h.terms_fit_holds;
        an_order = h.an_order;
        rows_sound = h.rows_sound;
        go_ahead_with_faults = h.go_ahead_with_faults;
        faults_with_go_ahead = h.faults_with_go_ahead;
        moneys = transfer_money (leb-true (accepted money s + n) sum_cap e);
      };
      same_name = refl;
      as_many = refl;
    }

  -- a go-ahead
  go_ahead_money : (money : Money) → MoneyInOrder money (with_go_ahead s)
  unfolding need
  go_ahead_money money =
      let m = h.moneys money in
      record {
        accepted_fits = m.accepted_fits;
        returned_fits = m.returned_fits;
        covered = m.covered;
        unreturned = m.unreturned;
      }

  go_ahead_kept : any_faulty s.rows ≡ true → Kept s (leave Done (with_go_ahead s))
  go_ahead_kept faulty = record {
    in_order = record {
      name_in_form = h.name_in_form;
      terms_fit_holds = h.terms_fit_holds;
      an_order = h.an_order;
      rows_sound = h.rows_sound;
      go_ahead_with_faults = λ gone. faulty;
      faults_with_go_ahead = λ p f. refl;
      moneys = go_ahead_money;
    };
    same_name = refl;
    as_many = refl;
  }

  -- a stage after Waiting, in which what is needed is covered
  module _ (stage : Stage) (waiting : is_waiting s.stage ≡ true) (over : is_waiting stage ≡ false) where
    stage_money : (money : Money) → only_if (is_paired stage) (need money s) ≤ accepted money s → MoneyInOrder money (with_stage stage s)
    unfolding need
    stage_money money e =
        let m = h.moneys money in
        record {
          accepted_fits = m.accepted_fits;
          returned_fits = m.returned_fits;
          covered = omega (arith, m.unreturned waiting);
          unreturned = λ w. absurd (not_both (is_waiting stage) w over);
        }

    stage_kept : (answer : Answer) → (is_paired stage ≡ true → any_faulty s.rows ≡ true → s.go_ahead ≡ true)
        → ((money : Money) → only_if (is_paired stage) (need money s) ≤ accepted money s)
        → Kept s (leave answer (with_stage stage s))
    stage_kept answer go_ahead_holds covers =
        let unpaired = waiting_unpaired s.stage waiting in
        record {
          in_order = record {
            name_in_form = h.name_in_form;
            terms_fit_holds = h.terms_fit_holds;
            an_order = h.an_order;
            rows_sound = rows_later s.agreed.terms s.stage stage (λ p. absurd (not_both (is_paired s.stage) p unpaired)) s.rows h.rows_sound;
            go_ahead_with_faults = h.go_ahead_with_faults;
            faults_with_go_ahead = go_ahead_holds;
            moneys = λ money. stage_money money (covers money);
          };
          same_name = refl;
          as_many = refl;
        }

  -- new rows of a Paired shipment, as many and of the same worth
  module _ (rows : List Row) (count : length rows ≡ length s.rows) (sums : (money : Money) → sum_over (worth money) rows ≡ sum_over (worth money) s.rows) where
    rows_money : (money : Money) → MoneyInOrder money (with_rows rows s)
    unfolding need
    rows_money money =
        let m = h.moneys money in
        record {
          accepted_fits = m.accepted_fits;
          returned_fits = m.returned_fits;
          covered = rw (sums money) m.covered;
          unreturned = m.unreturned;
        }

    rows_kept : (answer : Answer) → rows_sound s.agreed.terms s.stage rows ≡ true → any_faulty rows ≡ any_faulty s.rows → Kept s (leave answer (with_rows rows s))
    rows_kept answer sound faults = record {
      in_order = record {
        name_in_form = h.name_in_form;
        terms_fit_holds = h.terms_fit_holds;
        an_order = omega (arith, h.an_order);
        rows_sound = sound;
        go_ahead_with_faults = λ gone. faults ∙ h.go_ahead_with_faults gone;
        faults_with_go_ahead = λ p faulty. h.faults_with_go_ahead p (sym faults ∙ faulty);
        moneys = rows_money;
      };
      same_name = refl;
      as_many = count;
    }

  -- one order in a new state
  module _ (deed : Deed) (number : ℕ) where
    abbrev deed_done : Row
    deed_done = with_state (becomes deed) (order_at number s)

    order_kept : is_paired s.stage ≡ true → between 1 (length s.rows) number ≡ true → fits deed (order_at number s).state ≡ true
        → Kept s (leave (says deed (order_at number s)) (with_rows (set s.rows (number - 1) deed_done) s))
    order_kept p within fit =
        let row = order_at number s in
        let there = in_range (length s.rows) number within in
        let was = row_at s.agreed.terms s.stage s.rows (number - 1) there h.rows_sound in
        rows_kept (set s.rows (number - 1) deed_done)
        (length-set s.rows (number - 1) deed_done)
        (λ money. omega (arith, sum_set (worth money) s.rows (number - 1) deed_done no_order there))
        (says deed row)
        (rows_set s.agreed.terms s.stage s.rows (number - 1) deed_done h.rows_sound
        (row_with_state s.agreed.terms s.stage row was (becomes deed) p (becomes_in_range deed)))
        (faulty_set s.rows (number - 1) deed_done (becomes_unfaulty deed ∙ sym (fitting_unfaulty deed row.state fit)))

  -- a return of what waits
  return_kept : (route : Route) (money : Money) (answer : Answer) → is_paired s.stage ≡ true
      → Kept s (leave answer (with_rows (map (after_return route money) s.rows) s))
  return_kept route money answer p =
      let after = after_return route money in
      rows_kept (map after s.rows)
      (length-map s.rows after)
      (λ other. return_worth route money other s.rows)
      answer
      (rows_map s.agreed.terms s.stage after (λ row. return_sound route money row s.agreed.terms s.stage p) s.rows h.rows_sound)
      (faulty_map after (return_faulty route money) s.rows)

  -- a return of the surplus
  surplus_covered : (money other : Money) → returned other (with_returned money (free money s) s) + need_once_paired other s ≤ accepted other s
  unfolding free
  surplus_covered K K = omega (arith, (h.moneys K).covered)
  surplus_covered O O = omega (arith, (h.moneys O).covered)
  surplus_covered K O = omega (arith, (h.moneys O).covered)
  surplus_covered O K = omega (arith, (h.moneys K).covered)

  module _ (money : Money) (over : is_waiting s.stage ≡ false) where
    surplus_money : (other : Money) → MoneyInOrder other (with_returned money (free money s) s)
    unfolding need
    surplus_money other =
        let m = h.moneys other in
        let covered = surplus_covered money other in
        record {
          accepted_fits = m.accepted_fits;
          returned_fits = omega (arith, m.accepted_fits, covered);
          covered = covered;
          unreturned = λ w. absurd (not_both (is_waiting s.stage) w over);
        }

    surplus_kept : (answer : Answer) → Kept s (leave answer (with_returned money (free money s) s))
    surplus_kept answer = record {
      in_order = record {
        name_in_form = h.name_in_form;
        terms_fit_holds = h.terms_fit_holds;
        an_order = h.an_order;
        rows_sound = h.rows_sound;
        go_ahead_with_faults = h.go_ahead_with_faults;
        faults_with_go_ahead = h.faults_with_go_ahead;
        moneys = surplus_money;
      };
      same_name = refl;
      as_many = refl;
    }

-- each call on a shipment: its questions, then what was shown above
pub transferred_kept : (money : Money) (n : ℕ) (s : Shipment) → InOrder s → Kept s (transferred money n s)
unfolding transferred
transferred_kept money n s h = kept s _ _ h (λ yes. transfer_kept s h money n yes.0)

gone_ahead_kept : (s : Shipment) → InOrder s → Kept s (gone_ahead s)
unfolding gone_ahead
gone_ahead_kept s h = kept s _ _ h (λ yes. go_ahead_kept s h yes.1.0)

paired_kept : (s : Shipment) → InOrder s → Kept s (paired s)
unfolding paired
paired_kept s h =
    kept s _ _ h
    (λ yes. cond_either (Kept s) (needs_covered s) _ _
    (λ covered. stage_kept s h Paired yes.0 refl IsPaired (λ p. where_first (any_faulty s.rows) s.go_ahead yes.1.0) (both_covered s covered))
    (λ short. unchanged s _ h))

closed_kept : (s : Shipment) → InOrder s → Kept s (closed s)
unfolding closed
closed_kept s h = kept s _ _ h (λ yes. stage_kept s h Closed yes.0 refl Done (λ p. absurd (false≢true p)) (λ money. omega arith))

on_order_kept : (deed : Deed) (number : ℕ) (s : Shipment) → InOrder s → Kept s (on_order deed number s)
unfolding on_order
on_order_kept deed number s h = kept s _ _ h (λ yes. order_kept s h deed number yes.0 yes.1.0 yes.1.1.0)

returned_kept : (route : Route) (money : Money) (s : Shipment) → InOrder s → Kept s (returned_by route money s)
unfolding returned_by
returned_kept route money s h = kept s _ _ h (λ yes. return_kept s h route money _ yes.0)

surplus_returned_kept : (money : Money) (s : Shipment) → InOrder s → Kept s (surplus_returned money s)
unfolding surplus_returned
surplus_returned_kept money s h = kept s _ _ h (λ yes. surplus_kept s h money (not-true (is_waiting s.stage) yes.0) _)

pub acted_kept : (act : Act) (s : Shipment) → InOrder s → Kept s (acted act s)
unfolding acted
acted_kept GoAhead s h = gone_ahead_kept s h
acted_kept Pair s h = paired_kept s h
acted_kept Close s h = closed_kept s h
acted_kept (OnOrder deed number) s h = on_order_kept deed number s h
acted_kept (Return Zwr money) s h = surplus_returned_kept money s h
acted_kept (Return Opr money) s h = returned_kept Opr money s h
acted_kept (Return Zpr money) s h = returned_kept Zpr money s h
acted_kept (Return Zzr money) s h = returned_kept Zzr money s h
