-- The days of a year's first months and of the first years, by a table and by arithmetic, and how they grow.
-- Assumes nothing.
use mathlib.Core.Path.{◌≡◌, refl}
use mathlib.Core.Bool.{Bool, true, false, ◌&&◌, ◌||◌}
use mathlib.Core.List.{List, [], ◌∷◌}
use Prim.Native.Nat.{ℕ, zero, suc, ◌+◌, ◌*◌, ◌-◌, ◌/◌, ◌≤◌, ◌<◌}
use native.Mathlib.Nat.{add-zero, add-suc}
use native.Mathlib.Omega.{arith}
use borrow.Author.Tests.{eqb-true}
use lib.Dec.{leb, eqb, lit≤}
use lib.ListN.{get_or}
use mir.Val.{bool_byte}
use Rattle.calendar.specs.Calendar.{leap, month_length, days_of_months, days_of_years}
use Rattle.calendar.proofs.Computed.{below, each}
use Rattle.text.proofs.Branches.{cond_either}

-- A month has 28 to 31 days.
some_length : (P : ℕ → Type 0) → P 28 → P 29 → P 30 → P 31 → (in_leap_year : Bool) (m : ℕ) → P (month_length in_leap_year m)
unfolding month_length
some_length P p28 p29 p30 p31 in_leap_year m =
    cond_either P (eqb m 2) _ _
    (λ t. cond_either P in_leap_year 29 28 (λ t. p29) (λ t. p28))
    (λ t. cond_either P (eqb m 4 || (eqb m 6 || (eqb m 9 || eqb m 11))) 30 31 (λ t. p30) (λ t. p31))

pub length_from_lem : (in_leap_year : Bool) (m : ℕ) → 28 ≤ month_length in_leap_year m
length_from_lem = some_length (λ n. 28 ≤ n) (lit≤ tt) (lit≤ tt) (lit≤ tt) (lit≤ tt)

pub length_to : (in_leap_year : Bool) (m : ℕ) → month_length in_leap_year m ≤ 31
length_to = some_length (λ n. n ≤ 31) (lit≤ tt) (lit≤ tt) (lit≤ tt) (lit≤ tt)

-- The days of a common year's first months, from none of them to eleven; a leap year has one more from February on.
abbrev pub table : List ℕ
table = 0 ∷ 31 ∷ 59 ∷ 90 ∷ 120 ∷ 151 ∷ 181 ∷ 212 ∷ 243 ∷ 273 ∷ 304 ∷ 334 ∷ []

abbrev pub from_table : Bool → ℕ → ℕ
from_table in_leap_year months = get_or table months 0 + bool_byte (in_leap_year && leb 2 months)

-- The table's rule, computed for each number of months and both kinds of year.
agrees : Bool → ℕ → Bool
agrees in_leap_year months = eqb (from_table in_leap_year months) (days_of_months in_leap_year months)

table_agrees : (in_leap_year : Bool) → below (agrees in_leap_year) 12 ≡ true
unfolding agrees days_of_months month_length
table_agrees true = refl
table_agrees false = refl

pub months_by_table : (in_leap_year : Bool) (months : ℕ) → months < 12 → from_table in_leap_year months ≡ days_of_months in_leap_year months
unfolding agrees
months_by_table in_leap_year months h =
    eqb-true (from_table in_leap_year months) (days_of_months in_leap_year months) (each (agrees in_leap_year) 12 (table_agrees in_leap_year) months h)

-- In the hundred years from 2000 on each year adds 365 days, and each fourth one more.
adds_up : ℕ → Bool
adds_up years = eqb ((years + 3) / 4 + days_of_months (leap (2000 + years)) 12) (365 + (years + 4) / 4)

year_more : (years : ℕ) → years < 100 → (years + 3) / 4 + days_of_months (leap (2000 + years)) 12 ≡ 365 + (years + 4) / 4
unfolding adds_up days_of_months month_length leap
year_more years h = eqb-true ((years + 3) / 4 + days_of_months (leap (2000 + years)) 12) (365 + (years + 4) / 4) (each adds_up 100 refl years h)

pub years_by_fours : (years : ℕ) → years ≤ 100 → days_of_years years ≡ 365 * years + (years + 3) / 4
unfolding days_of_years
years_by_fours zero h = refl
years_by_fours (suc n) h = omega (arith, years_by_fours n (omega arith), year_more n h)

-- One month and one year more.
pub month_more : (in_leap_year : Bool) (m : ℕ) → 1 ≤ m → days_of_months in_leap_year m ≡ days_of_months in_leap_year (m - 1) + month_length in_leap_year m
unfolding days_of_months
month_more in_leap_year zero h = absurd (omega arith)
month_more in_leap_year (suc n) h = let back : suc n - 1 ≡ n = omega arith in rw back

pub year_after : (y : ℕ) → 2000 ≤ y → days_of_years (y + 1 - 2000) ≡ days_of_years (y - 2000) + days_of_months (leap y) 12
unfolding days_of_years
year_after y h =
    let next : y + 1 - 2000 ≡ suc (y - 2000) = omega arith in
    let itself : 2000 + (y - 2000) ≡ y = omega arith in
    rw (next, itself)

-- What does not fall from one number to the next falls nowhere.
grows : (f : ℕ → ℕ) → ((n : ℕ) → f n ≤ f (suc n)) → (m n : ℕ) → m ≤ n → f m ≤ f n
grows f step m n h = let far : m + (n - m) ≡ n = omega arith in rw far at (by (n - m))
  where
    by : (k : ℕ) → f m ≤ f (m + k)
    by zero = rw add-zero (omega arith)
    by (suc k) = rw add-suc (omega (arith, by k, step (m + k)))

pub months_grow : (in_leap_year : Bool) (m n : ℕ) → m ≤ n → days_of_months in_leap_year m ≤ days_of_months in_leap_year n
unfolding days_of_months
months_grow in_leap_year = grows (days_of_months in_leap_year) (λ n. omega arith)

pub years_grow : (m n : ℕ) → m ≤ n → days_of_years m ≤ days_of_years n
unfolding days_of_years
years_grow = grows days_of_years (λ n. omega arith)

pub in_a_year : (in_leap_year : Bool) (m : ℕ) → m ≤ 12 → days_of_months in_leap_year m ≤ 366
unfolding days_of_months month_length
in_a_year true m h = months_grow true m 12 h
in_a_year false m h = omega (arith, months_grow false m 12 h)
