-- A list of calls from the empty book: money is conserved between any two points, and no free money is below zero at any.
-- Assumes nothing.
use mathlib.Core.Path.{◌≡◌, refl, ap}
use mathlib.Core.Bool.{true}
use mathlib.Core.List.{List, [], ◌∷◌, ◌++◌}
use mathlib.Core.Option.{some}
use Prim.Native.Nat.{ℕ, zero, suc, ◌+◌}
use native.Mathlib.Omega.{arith}
use lib.ListN.{take, drop}
use lib.Seq.{take-add}
use Rattle.text.proofs.Branches.{cond_either}
use Rattle.money.specs.declared.Money.{Money}
use Rattle.epe.specs.declared.ident.Ident.{Ident}
use Rattle.model.specs.Shipment.{sum_over}
use Rattle.model.specs.Calls.{Call}
use Rattle.model.specs.Book.{Book, find, is_called, step}
use Rattle.model.specs.Sound.{sound}
use Rattle.model.specs.Demand.{Event, run, events, book_at, events_between, accepted_for, left_for, held_in, free_in, accepted_in, Covered, AcceptedAsAnswered}
use Rattle.model.proofs.StaysSound.{stays_sound, always_sound}
use Rattle.model.proofs.StepsConserve.{BookKept, book_kept, step_fair}

-- "No free money is ever below zero."
covered_in : (money : Money) (ident : Ident) (book : Book) → BookKept book → Covered money (find ident book)
covered_in money ident [] kept = tt
covered_in money ident (s ∷ book) kept =
    cond_either (Covered money) (is_called ident s) (some s) (find ident book)
    (λ e. kept.0.covered money)
    (λ e. covered_in money ident book kept.1.1)

pub never_below_zero : (calls : List Call) (p : ℕ) (ident : Ident) (money : Money) → Covered money (find ident (book_at calls p))
never_below_zero calls p ident money = covered_in money ident (book_at calls p) (book_kept (book_at calls p) (always_sound calls p))

-- a whole list from a sound book
run_conserves : (book : Book) → sound book ≡ true → (calls : List Call) (ident : Ident) (money : Money)
    → held_in money ident book + free_in money ident book + sum_over (accepted_for money ident) (events book calls)
    ≡ held_in money ident (run book calls) + free_in money ident (run book calls) + sum_over (left_for money ident) (events book calls)
run_conserves book h [] ident money = refl
run_conserves book h (call ∷ calls) ident money =
    omega (
      arith,
      run_conserves (step book call).book (stays_sound.keeps book call h) calls ident money,
      (step_fair book (book_kept book h) call).conserves ident money,
    )

run_grows : (book : Book) → sound book ≡ true → (calls : List Call) (ident : Ident) (money : Money)
    → accepted_in money ident book + sum_over (accepted_for money ident) (events book calls) ≡ accepted_in money ident (run book calls)
run_grows book h [] ident money = omega arith
run_grows book h (call ∷ calls) ident money =
    omega (
      arith,
      run_grows (step book call).book (stays_sound.keeps book call h) calls ident money,
      (step_fair book (book_kept book h) call).grows ident money,
    )

-- the part of a list between two points
run_append : (book : Book) (calls later : List Call) → run book (calls ++ later) ≡ run (run book calls) later
run_append book [] later = refl
run_append book (call ∷ calls) later = run_append (step book call).book calls later

events_take : (book : Book) (n : ℕ) (calls : List Call) → take n (events book calls) ≡ events book (take n calls)
events_take book zero calls = refl
events_take book (suc n) [] = refl
events_take book (suc n) (call ∷ calls) =
    ap (λ (rest : List Event). record { call = call; answer = (step book call).answer } ∷ rest) (events_take (step book call).book n calls)

events_drop : (book : Book) (p : ℕ) (calls : List Call) → drop p (events book calls) ≡ events (run book (take p calls)) (drop p calls)
events_drop book zero calls = refl
events_drop book (suc p) [] = refl
events_drop book (suc p) (call ∷ calls) = events_drop (step book call).book p calls

between_events : (calls : List Call) (p n : ℕ) → events_between calls p n ≡ events (book_at calls p) (take n (drop p calls))
between_events calls p n = rw (events_drop [] p calls) (events_take (book_at calls p) n (drop p calls))

book_later : (calls : List Call) (p n : ℕ) → book_at calls (p + n) ≡ run (book_at calls p) (take n (drop p calls))
book_later calls p n = rw (take-add p n calls) (run_append [] (take p calls) (take n (drop p calls)))

-- "Transfers accepted between the points equal the rise in money its orders hold, plus the rise in its free money, plus all that left."
pub conserves : (calls : List Call) (p n : ℕ) (ident : Ident) (money : Money)
    → held_in money ident (book_at calls p) + free_in money ident (book_at calls p) + sum_over (accepted_for money ident) (events_between calls p n)
    ≡ held_in money ident (book_at calls (p + n)) + free_in money ident (book_at calls (p + n)) + sum_over (left_for money ident) (events_between calls p n)
conserves calls p n ident money =
    rw (book_later calls p n, between_events calls p n) (run_conserves (book_at calls p) (always_sound calls p) (take n (drop p calls)) ident money)

pub accepted_as_answered : AcceptedAsAnswered
accepted_as_answered calls p ident money =
    let all = run_grows [] stays_sound.begins (take p calls) ident money in
    rw (between_events calls 0 p) (omega (arith, all))
