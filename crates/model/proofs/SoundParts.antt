-- The parts of a sound shipment in plain terms, from the test and back to it, and what a change of its orders leaves of them.
-- Assumes nothing.
use mathlib.Core.Path.{◌≡◌, refl, ap}
use mathlib.Core.Bool.{Bool, true, false, not, ◌&&◌, ◌||◌, false≢true}
use mathlib.Core.List.{List, [], ◌∷◌, map}
use Prim.Native.Nat.{ℕ, zero, suc, ◌+◌, ◌≤◌, ◌<◌}
use native.Mathlib.Omega.{arith}
use borrow.Author.Tests.{leb-true, le-leb, eqb-true, eq-eqb}
use lib.Dec.{eqb}
use lib.ListN.{length, get_or, set}
use Rattle.text.proofs.Branches.{and_left, and_right, both_yes}
use Rattle.money.specs.Money.{order_cap, sum_cap}
use Rattle.money.specs.declared.Money.{Money}
use Rattle.money.specs.declared.Money.TheVariants.{K, O}
use Rattle.fee.specs.Fee.{rate_cap, TermsFit}
use Rattle.fee.specs.declared.Terms.{Terms}
use Rattle.epe.specs.Name.{name_in_form}
use Rattle.model.specs.Shipment.{Shipment, accepted, returned, is_waiting, is_paired, is_faulty, need_once_paired, any_faulty}
use Rattle.model.specs.Calls.{with_state, no_order}
use Rattle.model.specs.Sound.{fault_in_range, before_pairing, row_sound, rows_sound, money_sound, shipment_sound}
use Rattle.model.specs.declared.Row.{Row}
use Rattle.model.specs.declared.Stage.{Stage}
use Rattle.model.specs.declared.State.{State}

-- the parts of joined tests that hold
pub ruleset halves = (and_left, and_right)

-- a test that holds where another does
pub where_first : (t u : Bool) → (not t || u) ≡ true → t ≡ true → u ≡ true
where_first true u h e = h
where_first false u h e = absurd (false≢true e)

holds_where_first : (t u : Bool) → (t ≡ true → u ≡ true) → (not t || u) ≡ true
holds_where_first true u f = f refl
holds_where_first false u f = refl

-- What soundness says of one money of a shipment, and of a shipment.
pub record MoneyInOrder (money : Money) (s : Shipment) : Type 0 where
  pub accepted_fits : accepted money s ≤ sum_cap
  pub returned_fits : returned money s ≤ sum_cap
  pub covered : returned money s + need_once_paired money s ≤ accepted money s
  pub unreturned : is_waiting s.stage ≡ true → returned money s ≡ 0

pub record InOrder (s : Shipment) : Type 0 where
  pub name_in_form : name_in_form s.agreed.name ≡ true
  pub terms_fit_holds : TermsFit s.agreed.terms
  pub an_order : 1 ≤ length s.rows
  pub rows_sound : rows_sound s.agreed.terms s.stage s.rows ≡ true
  pub go_ahead_with_faults : s.go_ahead ≡ true → any_faulty s.rows ≡ true
  pub faults_with_go_ahead : is_paired s.stage ≡ true → any_faulty s.rows ≡ true → s.go_ahead ≡ true
  pub moneys : (money : Money) → MoneyInOrder money s

money_in_order : (money : Money) (s : Shipment) → money_sound money s ≡ true → MoneyInOrder money s
unfolding money_sound
money_in_order money s h =
    let a = accepted money s in
    let r = returned money s in
    record {
      accepted_fits = leb-true a sum_cap (search halves);
      returned_fits = leb-true r sum_cap (search halves);
      covered = leb-true (r + need_once_paired money s) a (search halves);
      unreturned = λ e. eqb-true r 0 (where_first (is_waiting s.stage) (eqb r 0) (search halves) e);
    }

money_sound_lem : (money : Money) (s : Shipment) → MoneyInOrder money s → money_sound money s ≡ true
unfolding money_sound
money_sound_lem money s h =
    let a = accepted money s in
    let r = returned money s in
    let n = need_once_paired money s in
    both_yes _ _ (le-leb a sum_cap h.accepted_fits)
    (both_yes _ _ (le-leb r sum_cap h.returned_fits)
    (both_yes _ _ (le-leb (r + n) a h.covered)
    (holds_where_first (is_waiting s.stage) (eqb r 0) (λ e. eq-eqb r 0 (h.unreturned e)))))

pub in_order : (s : Shipment) → shipment_sound s ≡ true → InOrder s
unfolding shipment_sound
in_order s h =
    let faulty = any_faulty s.rows in
    let paired = is_paired s.stage in
    record {
      name_in_form = search halves;
      terms_fit_holds = (leb-true s.agreed.terms.flat.0 order_cap (search halves), leb-true s.agreed.terms.rate.0 rate_cap (search halves));
      an_order = leb-true 1 (length s.rows) (search halves);
      rows_sound = search halves;
      go_ahead_with_faults = where_first s.go_ahead faulty (search halves);
      faults_with_go_ahead = λ p f. where_first (paired && faulty) s.go_ahead (search halves) (both_yes paired faulty p f);
      moneys = each (search halves depth 7) (search halves depth 7);
    }
  where
    each : money_sound K s ≡ true → money_sound O s ≡ true → (money : Money) → MoneyInOrder money s
    each k o K = money_in_order K s k
    each k o O = money_in_order O s o

pub shipment_sound_lem : (s : Shipment) → InOrder s → shipment_sound s ≡ true
unfolding shipment_sound
shipment_sound_lem s h =
    let faulty = any_faulty s.rows in
    let paired = is_paired s.stage in
    both_yes _ _ h.name_in_form
    (both_yes _ _
    (both_yes _ _ (le-leb s.agreed.terms.flat.0 order_cap h.terms_fit_holds.0) (le-leb s.agreed.terms.rate.0 rate_cap h.terms_fit_holds.1))
    (both_yes _ _ (le-leb 1 (length s.rows) h.an_order)
    (both_yes _ _ h.rows_sound
    (both_yes _ _ (holds_where_first s.go_ahead faulty h.go_ahead_with_faults)
    (both_yes _ _
    (holds_where_first (paired && faulty) s.go_ahead (λ e. h.faults_with_go_ahead (and_left paired faulty e) (and_right paired faulty e)))
    (both_yes _ _ (money_sound_lem K s (h.moneys K)) (money_sound_lem O s (h.moneys O))))))))

-- an order stays sound in a later stage, and in a new state of a Paired shipment
or_later : (a b c : Bool) → (a ≡ true → b ≡ true) → (a || c) ≡ true → (b || c) ≡ true
or_later true b c f h = rw (f refl)
or_later false true c f h = refl
or_later false false c f h = h

module _ (terms : Terms) (stage : Stage) (row : Row) (h : row_sound terms stage row ≡ true) where
  pub row_fault : fault_in_range row.state ≡ true
  unfolding row_sound
  row_fault = search halves

  row_later : (later : Stage) → (is_paired stage ≡ true → is_paired later ≡ true) → row_sound terms later row ≡ true
  unfolding row_sound
  row_later later f =
      let now : (is_paired stage || before_pairing row.state) ≡ true = search halves in
      let then = or_later (is_paired stage) (is_paired later) (before_pairing row.state) f now in
      search (both_yes, halves)

  pub row_with_state : (state : State) → is_paired stage ≡ true → fault_in_range state ≡ true → row_sound terms stage (with_state state row) ≡ true
  unfolding row_sound
  row_with_state state p f =
      let then : (is_paired stage || before_pairing state) ≡ true = rw p in
      search (both_yes, halves)

-- the orders of a shipment, one by one
module _ (terms : Terms) (stage : Stage) where
  pub rows_later : (later : Stage) → (is_paired stage ≡ true → is_paired later ≡ true) → (rows : List Row) → rows_sound terms stage rows ≡ true
      → rows_sound terms later rows ≡ true
  unfolding rows_sound
  rows_later later f [] h = refl
  rows_later later f (row ∷ rows) h = both_yes _ _ (row_later terms stage row (search halves) later f) (rows_later later f rows (search halves))

  pub rows_set : (rows : List Row) (i : ℕ) (new : Row) → rows_sound terms stage rows ≡ true → row_sound terms stage new ≡ true
      → rows_sound terms stage (set rows i new) ≡ true
  unfolding rows_sound
  rows_set [] i new h k = refl
  rows_set (row ∷ rows) zero new h k = search (both_yes, halves)
  rows_set (row ∷ rows) (suc i) new h k = both_yes (row_sound terms stage row) _ (search halves) (rows_set rows i new (search halves) k)

  pub rows_map : (f : Row → Row) → ((row : Row) → row_sound terms stage row ≡ true → row_sound terms stage (f row) ≡ true)
      → (rows : List Row) → rows_sound terms stage rows ≡ true → rows_sound terms stage (map f rows) ≡ true
  unfolding rows_sound
  rows_map f k [] h = refl
  rows_map f k (row ∷ rows) h = both_yes _ _ (k row (search halves)) (rows_map f k rows (search halves))

  pub row_at : (rows : List Row) (i : ℕ) → i < length rows → rows_sound terms stage rows ≡ true → row_sound terms stage (get_or rows i no_order) ≡ true
  unfolding rows_sound
  row_at [] i l h = absurd (omega arith)
  row_at (row ∷ rows) zero l h = search halves
  row_at (row ∷ rows) (suc i) l h = row_at rows i (omega arith) (search halves)

-- what is the same of an order before and after is the same of all of them
pub faulty_set : (rows : List Row) (i : ℕ) (new : Row) → is_faulty new.state ≡ is_faulty (get_or rows i no_order).state
    → any_faulty (set rows i new) ≡ any_faulty rows
unfolding any_faulty
faulty_set [] i new e = refl
faulty_set (row ∷ rows) zero new e = ap (λ (t : Bool). t || any_faulty rows) e
faulty_set (row ∷ rows) (suc i) new e = ap (λ (t : Bool). is_faulty row.state || t) (faulty_set rows i new e)

pub faulty_map : (f : Row → Row) → ((row : Row) → is_faulty (f row).state ≡ is_faulty row.state) → (rows : List Row)
    → any_faulty (map f rows) ≡ any_faulty rows
unfolding any_faulty
faulty_map f e [] = refl
faulty_map f e (row ∷ rows) = rw (e row, faulty_map f e rows)
