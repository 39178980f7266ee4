-- The faulty orders of a shipment: exactly those, rising, and no more of them than it has orders.
-- Assumes nothing.
use mathlib.Core.Path.{◌≡◌, refl, sym, ◌∙◌, ap}
use mathlib.Core.Bool.{Bool, true, false, ◌&&◌, ◌||◌}
use mathlib.Core.List.{List, [], ◌∷◌}
use Prim.Native.Nat.{ℕ, zero, suc, ◌+◌, ◌-◌, ◌≤◌, ◌<◌}
use native.Mathlib.Omega.{arith}
use borrow.Author.Tests.{lt-ltb, le-ltb, le-leb, lt-leb, eq-eqb, ne_eqb, ltb-true, ltb-false}
use lib.Dec.{eqb, ltb}
use lib.ListN.{length, get_or}
use Rattle.text.specs.Bytes.{between}
use Rattle.text.proofs.Branches.{either_way}
use Rattle.model.specs.Shipment.{Shipment}
use Rattle.model.specs.Calls.{no_order}
use Rattle.model.specs.declared.Row.{Row}
use Rattle.model.specs.declared.State.{State}
use Rattle.model.specs.declared.State.TheVariants.{Open, Posted, Paid, Faulty, Undelivered, Withdrawn}
use Rattle.report.specs.Ope.{FaultyOrder, before_faulty, faulty_from, has_fault, is_among, are_rising, AllFaulty}
use Rattle.report.specs.Read.{none_faulty}

-- one order before others, by its state: of another number, of its own, and none
module _ (fault first : ℕ) (orders : List FaultyOrder) where
  other_order : (number : ℕ) → (first ≡ number → ⊥) → (state : State) → is_among number fault (before_faulty first state orders) ≡ is_among number fault orders
  unfolding is_among
  other_order number other Open = refl
  other_order number other Posted = refl
  other_order number other Paid = refl
  other_order number other (Faulty its k o) = rw (ne_eqb first number other)
  other_order number other (Undelivered k) = refl
  other_order number other (Withdrawn k o) = refl

  or_none : (t : Bool) → (t || false) ≡ t
  or_none true = refl
  or_none false = refl

  own_order : is_among first fault orders ≡ false → (state : State) → is_among first fault (before_faulty first state orders) ≡ has_fault fault state
  unfolding is_among has_fault
  own_order none Open = none
  own_order none Posted = none
  own_order none Paid = none
  own_order none (Faulty its k o) = rw (eq-eqb first first refl, none) (or_none (eqb its fault))
  own_order none (Undelivered k) = none
  own_order none (Withdrawn k o) = none

-- an order before the first of some is not among them
none_before : (number fault first : ℕ) (rows : List Row) → number < first → is_among number fault (faulty_from first rows) ≡ false
unfolding faulty_from is_among
none_before number fault first [] h = refl
none_before number fault first (row ∷ rows) h =
    other_order fault first (faulty_from (first + 1) rows) number (λ e. omega arith) row.state ∙ none_before number fault (first + 1) rows (omega arith)

-- the j-th of them is, just where it has that fault
among_from : (fault first j : ℕ) (rows : List Row)
    → is_among (first + j) fault (faulty_from first rows) ≡ (ltb j (length rows) && has_fault fault (get_or rows j no_order).state)
unfolding faulty_from is_among
among_from fault first j [] = rw (le-ltb j 0 (omega arith))
among_from fault first zero (row ∷ rows) =
    let here : first + 0 ≡ first = omega arith in
    rw (here, lt-ltb 0 (suc (length rows)) (omega arith))
    (own_order fault first (faulty_from (first + 1) rows) (none_before first fault (first + 1) rows (omega arith)) row.state)
among_from fault first (suc j) (row ∷ rows) =
    let further : first + suc j ≡ first + 1 + j = omega arith in
    let fewer : ltb (suc j) (suc (length rows)) ≡ ltb j (length rows) = either_way (ltb j (length rows))
    (λ is. let h = ltb-true j (length rows) is in lt-ltb (suc j) (suc (length rows)) (omega arith) ∙ sym is)
    (λ not. let h = ltb-false j (length rows) not in le-ltb (suc j) (suc (length rows)) (omega arith) ∙ sym not) in
    rw (further, fewer)
    (other_order fault first (faulty_from (first + 1) rows) (first + 1 + j) (λ e. omega arith) row.state ∙ among_from fault (first + 1) j rows)

-- by its number, counted from 1
numbered : (number n : ℕ) → between 1 n (suc number) ≡ ltb number n
numbered number n =
    rw (le-leb 1 (suc number) (omega arith)) (either_way (ltb number n)
    (λ is. let h = ltb-true number n is in le-leb (suc number) n (omega arith) ∙ sym is)
    (λ not. let h = ltb-false number n not in lt-leb (suc number) n (omega arith) ∙ sym not))

all_exactly : (rows : List Row) (number fault : ℕ)
    → is_among number fault (faulty_from 1 rows) ≡ (between 1 (length rows) number && has_fault fault (get_or rows (number - 1) no_order).state)
all_exactly rows zero fault = none_before 0 fault 1 rows (omega arith) ∙ sym (rw (lt-leb 1 0 (omega arith)))
all_exactly rows (suc j) fault =
    let place : suc j - 1 ≡ j = omega arith in
    let number : suc j ≡ 1 + j = omega arith in
    rw (place, numbered j (length rows)) (ap (λ (n : ℕ). is_among n fault (faulty_from 1 rows)) number ∙ among_from fault 1 j rows)

-- rising
rising_before : (first before : ℕ) (orders : List FaultyOrder) → before < first → are_rising first orders ≡ true → are_rising before orders ≡ true → (state : State)
    → are_rising before (before_faulty first state orders) ≡ true
unfolding are_rising
rising_before first before orders h later all Open = all
rising_before first before orders h later all Posted = all
rising_before first before orders h later all Paid = all
rising_before first before orders h later all (Faulty fault k o) = rw (lt-ltb before first h) later
rising_before first before orders h later all (Undelivered k) = all
rising_before first before orders h later all (Withdrawn k o) = all

rising_from : (before first : ℕ) (rows : List Row) → before < first → are_rising before (faulty_from first rows) ≡ true
unfolding faulty_from are_rising
rising_from before first [] h = refl
rising_from before first (row ∷ rows) h =
    rising_before first before (faulty_from (first + 1) rows) h (rising_from first (first + 1) rows (omega arith)) (rising_from before (first + 1) rows (omega arith))
    row.state

pub all_faulty : (s : Shipment) → AllFaulty s
all_faulty s = record { exactly = λ number fault. all_exactly s.rows number fault; rising = rising_from 0 1 s.rows (omega arith) }

-- no more than there are orders, and each with the number of one
few_before : (first n : ℕ) (orders : List FaultyOrder) → length orders ≤ n → (state : State) → length (before_faulty first state orders) ≤ n + 1
few_before first n orders h Open = omega arith
few_before first n orders h Posted = omega arith
few_before first n orders h Paid = omega arith
few_before first n orders h (Faulty fault k o) = omega arith
few_before first n orders h (Undelivered k) = omega arith
few_before first n orders h (Withdrawn k o) = omega arith

pub few_faulty : (first : ℕ) (rows : List Row) → length (faulty_from first rows) ≤ length rows
unfolding faulty_from
few_faulty first [] = omega arith
few_faulty first (row ∷ rows) =
    let few = few_before first (length rows) (faulty_from (first + 1) rows) (few_faulty (first + 1) rows) row.state in
    omega arith

-- each number is below a bound
abbrev AllBelow : ℕ → List FaultyOrder → Type 0
AllBelow bound orders = (k : ℕ) → (get_or orders k none_faulty).number < bound

below_before : (first bound : ℕ) (orders : List FaultyOrder) → first < bound → AllBelow bound orders → (state : State) → AllBelow bound (before_faulty first state orders)
below_before first bound orders h all Open k = all k
below_before first bound orders h all Posted k = all k
below_before first bound orders h all Paid k = all k
below_before first bound orders h all (Faulty fault wk wo) zero = h
below_before first bound orders h all (Faulty fault wk wo) (suc k) = all k
below_before first bound orders h all (Undelivered wk) k = all k
below_before first bound orders h all (Withdrawn wk wo) k = all k

pub numbers_below : (first : ℕ) (rows : List Row) (bound : ℕ) → 0 < bound → first + length rows ≤ bound → AllBelow bound (faulty_from first rows)
unfolding faulty_from
numbers_below first [] bound some h k = some
numbers_below first (row ∷ rows) bound some h k =
    below_before first bound (faulty_from (first + 1) rows) (omega arith) (λ j. numbers_below (first + 1) rows bound some (omega arith) j) row.state k
