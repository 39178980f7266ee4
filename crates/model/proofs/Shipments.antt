-- One shipment: its stages, the states that its deeds find, what its orders are worth after a return, and its needs once covered.
-- Assumes nothing.
use mathlib.Core.Path.{◌≡◌, refl}
use mathlib.Core.Bool.{Bool, true, false, ◌&&◌, false≢true}
use mathlib.Core.List.{List, map}
use Prim.Native.Nat.{ℕ, ◌-◌, ◌≤◌, ◌<◌}
use native.Mathlib.Omega.{arith}
use borrow.Author.Tests.{leb-true}
use lib.Dec.{leb}
use Rattle.text.specs.Bytes.{between}
use Rattle.text.proofs.Branches.{and_left, and_right, cond_either}
use Rattle.money.specs.declared.Money.{Money}
use Rattle.money.specs.declared.Money.TheVariants.{K, O}
use Rattle.model.specs.Shipment.{Shipment, accepted, is_waiting, is_paired, only_if, sum_over, is_open, is_posted, worth, need}
use Rattle.model.specs.Calls.{fits, with_state, waits_on, cleared, after_return}
use Rattle.model.specs.declared.Deed.{Deed}
use Rattle.model.specs.declared.Deed.TheVariants.{Post, Pay, MarkUndelivered, Withdraw}
use Rattle.model.specs.declared.Route.{Route}
use Rattle.model.specs.declared.Row.{Row}
use Rattle.model.specs.declared.Stage.{Stage}
use Rattle.model.specs.declared.Stage.TheVariants.{Waiting, Paired, Closed}
use Rattle.model.specs.declared.State.{State}
use Rattle.model.specs.declared.State.TheVariants.{Open, Posted, Paid, Faulty, Undelivered, Withdrawn}
use Rattle.model.proofs.Sums.{sum_map}

-- tests and stages
pub only_if_true : (t : Bool) (n : ℕ) → t ≡ true → only_if t n ≡ n
only_if_true t n h = rw h

pub only_if_false : (t : Bool) (n : ℕ) → t ≡ false → only_if t n ≡ 0
only_if_false t n h = rw h

pub waiting_unpaired : (stage : Stage) → is_waiting stage ≡ true → is_paired stage ≡ false
waiting_unpaired Waiting e = refl
waiting_unpaired Paired e = absurd (false≢true e)
waiting_unpaired Closed e = refl

-- a return leaves what the orders are worth
pub return_worth : (route : Route) (money other : Money) (rows : List Row) → sum_over (worth other) (map (after_return route money) rows) ≡ sum_over (worth other) rows
return_worth route money other =
    sum_map (worth other) (worth other) (after_return route money)
    (λ row.
    cond_either (λ (r : Row). worth other r ≡ worth other row) (waits_on route money row) (with_state (cleared money row.state) row) row
    (λ waits. refl) (λ none. refl))

-- both needs covered
pub both_covered : (s : Shipment) → (leb (need K s) (accepted K s) && leb (need O s) (accepted O s)) ≡ true → (money : Money) → need money s ≤ accepted money s
both_covered s e K = leb-true (need K s) (accepted K s) (and_left (leb (need K s) (accepted K s)) (leb (need O s) (accepted O s)) e)
both_covered s e O = leb-true (need O s) (accepted O s) (and_right (leb (need K s) (accepted K s)) (leb (need O s) (accepted O s)) e)

-- a deed finds the order Open or Posted
pub open_is : (state : State) → is_open state ≡ true → state ≡ Open
open_is Open e = refl
open_is Posted e = absurd (false≢true e)
open_is Paid e = absurd (false≢true e)
open_is (Faulty fault k o) e = absurd (false≢true e)
open_is (Undelivered k) e = absurd (false≢true e)
open_is (Withdrawn k o) e = absurd (false≢true e)

pub posted_is : (state : State) → is_posted state ≡ true → state ≡ Posted
posted_is Open e = absurd (false≢true e)
posted_is Posted e = refl
posted_is Paid e = absurd (false≢true e)
posted_is (Faulty fault k o) e = absurd (false≢true e)
posted_is (Undelivered k) e = absurd (false≢true e)
posted_is (Withdrawn k o) e = absurd (false≢true e)

abbrev pub state_for : Deed → State
state_for Post = Open
state_for Pay = Posted
state_for MarkUndelivered = Posted
state_for Withdraw = Open

pub fitting_state : (deed : Deed) (state : State) → fits deed state ≡ true → state ≡ state_for deed
fitting_state Post state e = open_is state e
fitting_state Pay state e = posted_is state e
fitting_state MarkUndelivered state e = posted_is state e
fitting_state Withdraw state e = open_is state e

-- an order's number, from 1 to the count
pub in_range : (count number : ℕ) → between 1 count number ≡ true → number - 1 < count
in_range count number e =
    omega (
      arith,
      leb-true 1 number (and_left (leb 1 number) (leb number count) e),
      leb-true number count (and_right (leb 1 number) (leb number count) e),
    )
