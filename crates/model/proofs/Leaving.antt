-- One act on one shipment: the orders whose money leaves by it, with their whole worth; once left, a money stays away; what waits on a
-- route is counted and none of it waits there after its return.
-- Assumes nothing.
use mathlib.Core.Path.{◌≡◌, refl, ap, sym, ◌∙◌}
use mathlib.Core.Bool.{Bool, true, false, not, cond, ◌&&◌, false≢true, and-not_self, and-true, and-false, or-true}
use mathlib.Core.List.{List, map}
use mathlib.Core.Option.{Option, some, none}
use Prim.Native.Nat.{ℕ, ◌+◌, ◌-◌, ◌<◌, ◌≤◌}
use native.Mathlib.Omega.{arith}
use borrow.Author.Tests.{leb-true, eqb-true, eqb-false, eq-eqb, ne_eqb}
use lib.Dec.{leb, eqb}
use lib.ListN.{length, set, get_or-map}
use lib.Seq.{get_or-set_same, get_or-set_other}
use Rattle.text.specs.Bytes.{between}
use Rattle.text.proofs.Branches.{and_left, and_right, second_no, cond_either, either_way}
use Rattle.money.specs.declared.Money.{Money}
use Rattle.money.specs.declared.Money.TheVariants.{K, O}
use Rattle.epe.specs.Questions.{Question, AllYes, asked}
use Rattle.epe.specs.declared.ident.Ident.{Ident}
use Rattle.epe.proofs.QuestionLaws.{asked_either}
use Rattle.model.specs.Shipment.{by_money, Shipment, only_if, sum_over, is_open, is_posted, waits, worth, free, holds}
use Rattle.model.specs.Calls.{Act, GoAhead, Pair, Close, OnOrder, Return, Call, Intake, Transfer, On}
use Rattle.model.specs.Calls.{Answer, Refused, Done, Accepted, IsPaired, Short, FeeEarned, AmountPaid, Returned, is_refusal}
use Rattle.model.specs.Calls.{Outcome, leave, refusing, with_stage, with_go_ahead, with_returned, with_rows, with_state, transferred, gone_ahead, needs_covered, missing, paired, closed}
use Rattle.model.specs.Calls.{fits, becomes, says, no_order, order_at, on_order}
use Rattle.model.specs.Calls.{takes, waits_on, cleared, after_return, waiting, waiting_orders, returned_by, surplus_returned, acted}
use Rattle.model.specs.Moved.{is_money, Moved, nothing, wait_ends, surplus_of, order_named, when_returned, moved}
use Rattle.model.specs.Demand.{order_by_index, below}
use Rattle.model.specs.declared.Deed.{Deed}
use Rattle.model.specs.declared.Deed.TheVariants.{Post, Pay, MarkUndelivered, Withdraw}
use Rattle.model.specs.declared.Route.{Route}
use Rattle.model.specs.declared.Route.TheVariants.{Zwr, Opr, Zpr, Zzr}
use Rattle.model.specs.declared.Row.{Row}
use Rattle.model.specs.declared.Stage.TheVariants.{Paired, Closed}
use Rattle.model.specs.declared.State.{State}
use Rattle.model.specs.declared.State.TheVariants.{Open, Posted, Paid, Faulty, Undelivered, Withdrawn}
use Rattle.model.proofs.Sums.{below_none, below_same, below_one, sum_below, sum_none, sum_map}
use Rattle.model.proofs.Shipments.{open_is, posted_is, in_range}

-- 1 where a money of an order is no longer held: it has left
abbrev pub gone : Money → State → ℕ
gone money state = only_if (not (holds money state)) 1

abbrev pub gone_at : Money → ℕ → Shipment → ℕ
gone_at money j s = gone money (order_by_index j (some s)).state

pub gone_one : (money : Money) (state : State) → gone money state ≤ 1
gone_one money state = one (not (holds money state))
  where
    one : (t : Bool) → only_if t 1 ≤ 1
    one true = omega arith
    one false = omega arith

-- a money is one of two
same_money : (a b : Money) → is_money a b ≡ true → a ≡ b
same_money K K same = refl
same_money K O same = absurd (false≢true same)
same_money O K same = absurd (false≢true same)
same_money O O same = refl

money_itself : (money : Money) → is_money money money ≡ true
money_itself K = refl
money_itself O = refl

-- a return, on one order's state
waiting_held : (money : Money) (state : State) → waits money state ≡ true → holds money state ≡ true
waiting_held K state waiting = rw (waiting, or-true (is_posted state)) (or-true (is_open state))
waiting_held O state waiting = rw waiting (or-true (is_open state))

cleared_waits : (money : Money) (state : State) → waits money (cleared money state) ≡ false
cleared_waits money Open = refl
cleared_waits money Posted = refl
cleared_waits money Paid = refl
cleared_waits K (Faulty fault k o) = refl
cleared_waits O (Faulty fault k o) = refl
cleared_waits K (Undelivered k) = refl
cleared_waits O (Undelivered k) = refl
cleared_waits K (Withdrawn k o) = refl
cleared_waits O (Withdrawn k o) = refl

cleared_gone : (money : Money) (state : State) → waits money state ≡ true → gone money (cleared money state) ≡ 1
cleared_gone money Open waiting = absurd (false≢true waiting)
cleared_gone money Posted waiting = absurd (false≢true waiting)
cleared_gone money Paid waiting = absurd (false≢true waiting)
cleared_gone K (Faulty fault k o) waiting = refl
cleared_gone O (Faulty fault k o) waiting = refl
cleared_gone K (Undelivered k) waiting = refl
cleared_gone O (Undelivered k) waiting = refl
cleared_gone K (Withdrawn k o) waiting = refl
cleared_gone O (Withdrawn k o) waiting = refl

cleared_other : (money other : Money) (state : State) → is_money money other ≡ false → gone money (cleared other state) ≡ gone money state
cleared_other money other Open apart = refl
cleared_other money other Posted apart = refl
cleared_other money other Paid apart = refl
cleared_other K O (Faulty fault k o) apart = refl
cleared_other O K (Faulty fault k o) apart = refl
cleared_other K O (Undelivered k) apart = refl
cleared_other O K (Undelivered k) apart = refl
cleared_other K O (Withdrawn k o) apart = refl
cleared_other O K (Withdrawn k o) apart = refl
cleared_other K K (Faulty fault k o) apart = absurd (false≢true (sym apart))
cleared_other O O (Faulty fault k o) apart = absurd (false≢true (sym apart))
cleared_other K K (Undelivered k) apart = absurd (false≢true (sym apart))
cleared_other O O (Undelivered k) apart = absurd (false≢true (sym apart))
cleared_other K K (Withdrawn k o) apart = absurd (false≢true (sym apart))
cleared_other O O (Withdrawn k o) apart = absurd (false≢true (sym apart))

-- a return, on one order
module _ (route : Route) where
  return_ends : (money : Money) (row : Row) → wait_ends money row (after_return route money row) ≡ waits_on route money row
  return_ends money row = go (waits_on route money row) refl
    where
      go : (t : Bool) → waits_on route money row ≡ t → wait_ends money row (cond t (with_state (cleared money row.state) row) row) ≡ t
      go true on = rw (and_right (takes route row.state) (waits money row.state) on, cleared_waits money row.state)
      go false off = and-not_self (waits money row.state)

  return_empties : (money : Money) (row : Row) → waits_on route money (after_return route money row) ≡ false
  return_empties money row = go (waits_on route money row) refl
    where
      go : (t : Bool) → waits_on route money row ≡ t → waits_on route money (cond t (with_state (cleared money row.state) row) row) ≡ false
      go true on = second_no (takes route (cleared money row.state)) (waits money (cleared money row.state)) (cleared_waits money row.state)
      go false off = off

  return_same : (money : Money) (row : Row)
      → gone money row.state + only_if (waits_on route money row) 1 ≤ gone money (after_return route money row).state
  return_same money row = go (waits_on route money row) refl
    where
      go : (t : Bool) → waits_on route money row ≡ t
          → gone money row.state + only_if t 1 ≤ gone money (cond t (with_state (cleared money row.state) row) row).state
      go true on =
          let waiting = and_right (takes route row.state) (waits money row.state) on in
          rw (waiting_held money row.state waiting) (omega (arith, cleared_gone money row.state waiting))
      go false off = omega arith

  return_other : (money other : Money) (row : Row) → is_money money other ≡ false → gone money (after_return route other row).state ≡ gone money row.state
  return_other money other row apart = go (waits_on route other row)
    where
      go : (t : Bool) → gone money (cond t (with_state (cleared other row.state) row) row).state ≡ gone money row.state
      go true = cleared_other money other row.state apart
      go false = refl

  return_once : (money other : Money) (row : Row)
      → gone money row.state + only_if (is_money money other && wait_ends money row (after_return route other row)) 1
      ≤ gone money (after_return route other row).state
  return_once money other row = go (is_money money other) refl
    where
      go : (t : Bool) → is_money money other ≡ t
          → gone money row.state + only_if (t && wait_ends money row (after_return route other row)) 1 ≤ gone money (after_return route other row).state
      go true same = rw (← same_money money other same) (rw (return_ends money row) (return_same money row))
      go false apart = omega (arith, return_other money other row apart)

  no_order_kept : (money : Money) → after_return route money no_order ≡ no_order
  no_order_kept money = rw (and-false (takes route Paid))

-- What an act leaves of a shipment, and its answer, as far as its orders' moneys go.
module _ (ident : Ident) (act : Act) (s : Shipment) where
  abbrev pub leaves_at : Money → ℕ → Outcome → Bool
  leaves_at money j o = (moved (On ident act) o.answer).takes_from money j (order_by_index j (some s)) (order_by_index j (some o.shipment))

  -- the whole worth of each order whose money leaves
  abbrev pub left_with : Money → Outcome → ℕ
  left_with money o = below (length s.rows) (λ j. only_if (leaves_at money j o) (worth money (order_by_index j (some s))))

  pub record Leaves (o : Outcome) : Type 0 where
    pub named : o.shipment.agreed.name ≡ s.agreed.name
    pub once : (money : Money) (j : ℕ) → gone_at money j s + only_if (leaves_at money j o) 1 ≤ gone_at money j o.shipment
    pub entire : (money : Money) → (moved (On ident act) o.answer).goes_out money ≡ left_with money o + (moved (On ident act) o.answer).surplus money

  -- orders as they were, and no money of theirs leaves
  quiet : (o : Outcome) → o.shipment.agreed.name ≡ s.agreed.name → o.shipment.rows ≡ s.rows
      → ((money : Money) (j : ℕ) → leaves_at money j o ≡ false)
      → ((money : Money) → (moved (On ident act) o.answer).goes_out money ≡ (moved (On ident act) o.answer).surplus money)
      → Leaves o
  quiet o named rows stays surplus = record {
    named = named;
    once = λ money j. rw (stays money j, rows) (omega arith);
    entire = λ money. omega (arith, surplus money, none_with money);
  }
    where
      none_with : (money : Money) → left_with money o ≡ 0
      none_with money =
          below_none (length s.rows) (λ j. only_if (leaves_at money j o) (worth money (order_by_index j (some s))))
          (λ j. ap (λ t. only_if t (worth money (order_by_index j (some s)))) (stays money j))

  refusal : (number : ℕ) → Leaves (leave (Refused number) s)
  refusal number = quiet (leave (Refused number) s) refl refl (λ money j. refl) (λ money. refl)

  -- a refusal lets nothing leave, so only what is done where all questions are answered yes is left to show
  leaving : (qs : List Question) (next : Outcome) → (AllYes qs → Leaves next) → Leaves (asked qs (refusing s) next)
  leaving qs next accepted = asked_either Leaves qs (refusing s) next refusal accepted

-- whether a deed takes a money out of its order
abbrev takes_out : Deed → Money → Bool
takes_out Post money = by_money money false true
takes_out Pay money = by_money money true false
takes_out MarkUndelivered money = false
takes_out Withdraw money = false

deed_gone : (deed : Deed) (money : Money) (state : State) → fits deed state ≡ true
    → gone money state + only_if (takes_out deed money) 1 ≡ gone money (becomes deed)
deed_gone Post K state is = rw (open_is state is)
deed_gone Post O state is = rw (open_is state is)
deed_gone Pay K state is = rw (posted_is state is)
deed_gone Pay O state is = rw (posted_is state is)
deed_gone MarkUndelivered K state is = rw (posted_is state is)
deed_gone MarkUndelivered O state is = rw (posted_is state is)
deed_gone Withdraw K state is = rw (open_is state is)
deed_gone Withdraw O state is = rw (open_is state is)

module _ (ident : Ident) (number : ℕ) (row : Row) where
  deed_leaves : (deed : Deed) (money : Money) (j : ℕ) (before after : Row)
      → (moved (On ident (OnOrder deed number)) (says deed row)).takes_from money j before after ≡ (eqb number (j + 1) && takes_out deed money)
  deed_leaves Post K j before after = sym (and-false (eqb number (j + 1)))
  deed_leaves Post O j before after = sym (and-true (eqb number (j + 1)))
  deed_leaves Pay K j before after = sym (and-true (eqb number (j + 1)))
  deed_leaves Pay O j before after = sym (and-false (eqb number (j + 1)))
  deed_leaves MarkUndelivered money j before after = sym (and-false (eqb number (j + 1)))
  deed_leaves Withdraw money j before after = sym (and-false (eqb number (j + 1)))

  deed_left : (deed : Deed) (money : Money)
      → (moved (On ident (OnOrder deed number)) (says deed row)).goes_out money ≡ only_if (takes_out deed money) (worth money row)
  deed_left Post K = refl
  deed_left Post O = refl
  deed_left Pay K = refl
  deed_left Pay O = refl
  deed_left MarkUndelivered money = refl
  deed_left Withdraw money = refl

  deed_surplus : (deed : Deed) (money : Money) → (moved (On ident (OnOrder deed number)) (says deed row)).surplus money ≡ 0
  deed_surplus Post money = refl
  deed_surplus Pay money = refl
  deed_surplus MarkUndelivered money = refl
  deed_surplus Withdraw money = refl

module _ (ident : Ident) (deed : Deed) (number : ℕ) (s : Shipment)
    (numbered : between 1 (length s.rows) number ≡ true) (fit : fits deed (order_at number s).state ≡ true) where
  abbrev call : Call
  call = On ident (OnOrder deed number)

  abbrev done : Outcome
  done = leave (says deed (order_at number s)) (with_rows (set s.rows (number - 1) (with_state (becomes deed) (order_at number s))) s)

  first : 1 ≤ number
  first = leb-true 1 number (and_left (leb 1 number) (leb number (length s.rows)) numbered)

  inside : number - 1 < length s.rows
  inside = in_range (length s.rows) number numbered

  here : (j : ℕ) → eqb number (j + 1) ≡ true → j ≡ number - 1
  here j is = omega (arith, eqb-true number (j + 1) is)

  elsewhere : (j : ℕ) → (j ≡ number - 1 → ⊥) → eqb number (j + 1) ≡ false
  elsewhere j apart = ne_eqb number (j + 1) (λ is. apart (omega (arith, first)))

  deed_leaves_at : (money : Money) (j : ℕ) → leaves_at ident (OnOrder deed number) s money j done ≡ (eqb number (j + 1) && takes_out deed money)
  deed_leaves_at money j = deed_leaves ident number (order_at number s) deed money j (order_by_index j (some s)) (order_by_index j (some done.shipment))

  deed_once : (money : Money) (j : ℕ) → gone_at money j s + only_if (leaves_at ident (OnOrder deed number) s money j done) 1 ≤ gone_at money j done.shipment
  deed_once money j = rw (deed_leaves_at money j) (go (eqb number (j + 1)) refl)
    where
      go : (t : Bool) → eqb number (j + 1) ≡ t → gone_at money j s + only_if (t && takes_out deed money) 1 ≤ gone_at money j done.shipment
      go true is =
          let now = get_or-set_same s.rows (number - 1) (with_state (becomes deed) (order_at number s)) no_order inside in
          rw (here j is) (omega (arith, deed_gone deed money (order_at number s).state fit, ap (λ (row : Row). gone money row.state) now))
      go false not =
          let apart : j ≡ number - 1 → ⊥ = λ is. eqb-false number (j + 1) not (omega (arith, first)) in
          let kept = get_or-set_other s.rows (number - 1) j (with_state (becomes deed) (order_at number s)) no_order apart in
          omega (arith, ap (λ (row : Row). gone money row.state) kept)

  -- of the places below the count, the one that is named
  module _ (money : Money) where
    abbrev if_taken : Bool → ℕ → ℕ
    if_taken t j = only_if (t && takes_out deed money) (worth money (order_by_index j (some s)))

    deed_place : left_with ident (OnOrder deed number) s money done ≡ only_if (takes_out deed money) (worth money (order_at number s))
    deed_place =
        below_same (length s.rows) (λ j. only_if (leaves_at ident (OnOrder deed number) s money j done) (worth money (order_by_index j (some s))))
        (λ j. if_taken (eqb number (j + 1)) j)
        (λ j. ap (λ t. only_if t (worth money (order_by_index j (some s)))) (deed_leaves_at money j))
        ∙ below_one (length s.rows) (number - 1) (λ j. if_taken (eqb number (j + 1)) j) inside
        (λ j apart. ap (λ t. if_taken t j) (elsewhere j apart))
        ∙ ap (λ t. if_taken t (number - 1)) (eq-eqb number (number - 1 + 1) (omega (arith, first)))

  deed_entire : (money : Money)
      → (moved call done.answer).goes_out money ≡ left_with ident (OnOrder deed number) s money done + (moved call done.answer).surplus money
  deed_entire money =
      let row = order_at number s in
      omega (arith, deed_left ident number row deed money, deed_surplus ident number row deed money, deed_place money)

  deed_done : Leaves ident (OnOrder deed number) s done
  deed_done = record { named = refl; once = deed_once; entire = deed_entire }

-- an answer that counts no orders, and one that counts some
pub none_counted : {n : ℕ} → ◌≡◌ {A = Option ℕ} none (some n) → ⊥
none_counted said = let never : ◌≡◌ {A = ℕ} 0 1 = cc in omega arith

some_counted : (orders n : ℕ) → ◌≡◌ {A = Option ℕ} (some orders) (some n) → n ≡ orders
some_counted orders n said = cc

-- A return, as far as its count goes and what still waits on its route.
module _ (ident : Ident) (route : Route) (money : Money) (s : Shipment) where
  pub record Empties (o : Outcome) : Type 0 where
    pub counted : (n : ℕ) → (moved (On ident (Return route money)) o.answer).count ≡ some n
        → n ≡ below (length s.rows) (λ j. only_if (leaves_at ident (Return route money) s money j o) 1)
    pub emptied : is_refusal o.answer ≡ false → waiting route money o.shipment ≡ 0

  emptying : (qs : List Question) (next : Outcome) → (AllYes qs → Empties next) → Empties (asked qs (refusing s) next)
  emptying qs next accepted =
      asked_either Empties qs (refusing s) next (λ n. record { counted = λ n said. absurd (none_counted said); emptied = λ accepted. absurd (false≢true (sym accepted)) }) accepted

-- what waits on a route goes back
module _ (ident : Ident) (route : Route) (other : Money) (s : Shipment) where
  abbrev back : Outcome
  back = leave (Returned (waiting route other s) (waiting_orders route other s)) (with_rows (map (after_return route other) s.rows) s)

  order_back : (j : ℕ) → order_by_index j (some back.shipment) ≡ after_return route other (order_by_index j (some s))
  order_back j = rw (no_order_kept route other) at (get_or-map (after_return route other) s.rows j no_order)

  back_leaves : (j : ℕ) → leaves_at ident (Return route other) s other j back ≡ waits_on route other (order_by_index j (some s))
  back_leaves j = rw (money_itself other, order_back j) (return_ends route other (order_by_index j (some s)))

  back_sum : (weight : Row → ℕ)
      → sum_over (λ (row : Row). only_if (waits_on route other row) (weight row)) s.rows
      ≡ below (length s.rows) (λ j. only_if (leaves_at ident (Return route other) s other j back) (weight (order_by_index j (some s))))
  back_sum weight =
      sum_below (λ (row : Row). only_if (waits_on route other row) (weight row)) s.rows no_order
      ∙ below_same (length s.rows) (λ j. only_if (waits_on route other (order_by_index j (some s))) (weight (order_by_index j (some s))))
      (λ j. only_if (leaves_at ident (Return route other) s other j back) (weight (order_by_index j (some s))))
      (λ j. ap (λ t. only_if t (weight (order_by_index j (some s)))) (sym (back_leaves j)))

  back_once : (money : Money) (j : ℕ) → gone_at money j s + only_if (leaves_at ident (Return route other) s money j back) 1 ≤ gone_at money j back.shipment
  back_once money j = rw (order_back j) (return_once route money other (order_by_index j (some s)))

  back_left : (money : Money) → only_if (is_money money other) (waiting route other s) ≡ left_with ident (Return route other) s money back
  unfolding waiting
  back_left money =
      either_way (is_money money other)
      (λ same. rw (same_money money other same) (ap (λ t. only_if t (waiting route other s)) (money_itself other) ∙ back_sum (worth other)))
      (λ apart. rw apart (sym (below_none (length s.rows) (λ j. 0) (λ j. refl))))

  back_leaving : ((n : ℕ) → surplus_of route n ≡ 0) → Leaves ident (Return route other) s back
  back_leaving surplus = record {
    named = refl;
    once = back_once;
    entire = λ money. omega (arith, back_left money, surplus (only_if (is_money money other) (waiting route other s)));
  }

  back_empties : Empties ident route other s back
  unfolding waiting waiting_orders
  back_empties = record {
    counted = λ n said. some_counted (waiting_orders route other s) n said ∙ back_sum (λ row. 1);
    emptied = λ accepted.
        sum_map (λ (row : Row). only_if (waits_on route other row) (worth other row)) (λ row. 0) (after_return route other)
        (λ row. ap (λ t. only_if t (worth other (after_return route other row))) (return_empties route other row)) s.rows
        ∙ sum_none (λ row. 0) s.rows (λ row. refl);
  }

  returned_leaves : ((n : ℕ) → surplus_of route n ≡ 0) → Leaves ident (Return route other) s (returned_by route other s)
  unfolding returned_by
  returned_leaves surplus = leaving ident (Return route other) s _ _ (λ yes. back_leaving surplus)

  returned_empties : Empties ident route other s (returned_by route other s)
  unfolding returned_by
  returned_empties = emptying ident route other s _ _ (λ yes. back_empties)

-- the surplus goes back: no order's money
module _ (ident : Ident) (other : Money) (s : Shipment) where
  abbrev surplus_back : Outcome
  surplus_back = leave (Returned (free other s) 0) (with_returned other (free other s) s)

  surplus_stays : (money : Money) (j : ℕ) → leaves_at ident (Return Zwr other) s money j surplus_back ≡ false
  surplus_stays money j = rw (and-not_self (waits money (order_by_index j (some s)).state)) (and-false (is_money money other))

  surplus_leaves : Leaves ident (Return Zwr other) s (surplus_returned other s)
  unfolding surplus_returned
  surplus_leaves =
      let act = Return Zwr other in
      leaving ident act s _ _ (λ yes. quiet ident act s surplus_back refl refl surplus_stays (λ money. refl))

  surplus_empties : Empties ident Zwr other s surplus_back
  unfolding waiting
  surplus_empties = record {
    counted = λ n said.
        some_counted 0 n said
        ∙ sym (below_none (length s.rows) (λ j. only_if (leaves_at ident (Return Zwr other) s other j surplus_back) 1)
        (λ j. ap (λ t. only_if t 1) (surplus_stays other j)));
    emptied = λ accepted. sum_none (λ (row : Row). 0) s.rows (λ row. refl);
  }

  surplus_returned_empties : Empties ident Zwr other s (surplus_returned other s)
  unfolding surplus_returned
  surplus_returned_empties = emptying ident Zwr other s _ _ (λ yes. surplus_empties)

pub acted_empties : (ident : Ident) (route : Route) (money : Money) (s : Shipment) → Empties ident route money s (acted (Return route money) s)
unfolding acted
acted_empties ident Zwr money s = surplus_returned_empties ident money s
acted_empties ident Opr money s = returned_empties ident Opr money s
acted_empties ident Zpr money s = returned_empties ident Zpr money s
acted_empties ident Zzr money s = returned_empties ident Zzr money s

pub acted_leaves : (ident : Ident) (act : Act) (s : Shipment) → Leaves ident act s (acted act s)
unfolding acted gone_ahead paired closed on_order
acted_leaves ident GoAhead s =
    leaving ident GoAhead s _ _ (λ yes. quiet ident GoAhead s (leave Done (with_go_ahead s)) refl refl (λ money j. refl) (λ money. refl))
acted_leaves ident Pair s =
    leaving ident Pair s _ _ (λ yes. cond_either (Leaves ident Pair s) (needs_covered s) _ _
    (λ covered. quiet ident Pair s (leave IsPaired (with_stage Paired s)) refl refl (λ money j. refl) (λ money. refl))
    (λ short. quiet ident Pair s (leave (Short (missing K s) (missing O s)) s) refl refl (λ money j. refl) (λ money. refl)))
acted_leaves ident Close s =
    leaving ident Close s _ _ (λ yes. quiet ident Close s (leave Done (with_stage Closed s)) refl refl (λ money j. refl) (λ money. refl))
acted_leaves ident (OnOrder deed number) s =
    leaving ident (OnOrder deed number) s _ _ (λ yes. deed_done ident deed number s yes.1.0 yes.1.1.0)
acted_leaves ident (Return Zwr money) s = surplus_leaves ident money s
acted_leaves ident (Return Opr money) s = returned_leaves ident Opr money s (λ n. refl)
acted_leaves ident (Return Zpr money) s = returned_leaves ident Zpr money s (λ n. refl)
acted_leaves ident (Return Zzr money) s = returned_leaves ident Zzr money s (λ n. refl)

-- A transfer keeps the orders, and what its answer says is no money that leaves.
pub record Keeps (call : Call) (s : Shipment) (o : Outcome) : Type 0 where
  pub named : o.shipment.agreed.name ≡ s.agreed.name
  pub rows : o.shipment.rows ≡ s.rows
  pub left : (money : Money) → (moved call o.answer).goes_out money ≡ (moved call o.answer).surplus money

pub transferred_keeps : (title : List ℕ) (amount : ℕ) (money : Money) (n : ℕ) (s : Shipment) → Keeps (Transfer title amount) s (transferred money n s)
unfolding transferred
transferred_keeps title amount money n s =
    asked_either (Keeps (Transfer title amount) s) _ (refusing s) _ (λ n. record { named = refl; rows = refl; left = λ money. refl })
    (λ yes. record { named = refl; rows = refl; left = λ money. refl })

-- no order's money leaves by a call that is neither of an order nor a return
pub none_leaves : (money : Money) (j : ℕ) (call : Call) → order_named call ≡ 0 → ((total orders : ℕ) → when_returned call total orders ≡ nothing)
    → (answer : Answer) (before after : Row) → (moved call answer).takes_from money j before after ≡ false
none_leaves money j call of_none back_none (Refused n) before after = refl
none_leaves money j call of_none back_none Done before after = done_takes_none call
  where
    done_takes_none : (call : Call) → (moved call Done).takes_from money j before after ≡ false
    done_takes_none (Intake profile name file) = refl
    done_takes_none (Transfer title amount) = refl
    done_takes_none (On ident act) = refl
none_leaves money j call of_none back_none (Accepted orders faulty) before after = refl
none_leaves money j call of_none back_none IsPaired before after = refl
none_leaves money j call of_none back_none (Short k o) before after = refl
none_leaves K j call of_none back_none (FeeEarned fee) before after = refl
none_leaves O j call of_none back_none (FeeEarned fee) before after = ne_eqb (order_named call) (j + 1) (λ is. omega (arith, of_none))
none_leaves K j call of_none back_none (AmountPaid amount) before after = ne_eqb (order_named call) (j + 1) (λ is. omega (arith, of_none))
none_leaves O j call of_none back_none (AmountPaid amount) before after = refl
none_leaves money j call of_none back_none (Returned total count) before after =
    ap (λ (m : Moved). m.takes_from money j before after) (back_none total count)
