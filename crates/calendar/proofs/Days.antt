-- The theorems that the definitions state: the number counts days from 1 January 2000, the day after a real date is real, and a later date has a larger number.
-- Assumes nothing.
use mathlib.Core.Path.{◌≡◌, refl, ap, ◌∙◌}
use mathlib.Core.Bool.{Bool, true, false}
use Prim.Native.Nat.{ℕ, suc, ◌+◌, ◌*◌, ◌-◌, ◌≤◌, ◌<◌}
use native.Mathlib.Omega.{arith}
use borrow.Author.Tests.{ltb-true, ltb-false}
use lib.Dec.{ltb}
use Rattle.calendar.specs.Calendar.{year, month, day, leap, month_length, days_of_months, days_of_years, day_number, day_after}
use Rattle.calendar.specs.Calendar.{CountsDays, CountsFromZero, DayAfterIsReal, LaterIsLarger}
use Rattle.calendar.proofs.Parts.{Writes, whole, day_more, written, RealDay, parts_of_lem, real_from}
use Rattle.calendar.proofs.Sums.{length_from_lem, length_to, month_more, year_after, months_grow, years_grow}
use Rattle.text.proofs.Branches.{cond_either}

-- The number of the day d of the month m of the year y.
abbrev number_of : ℕ → ℕ → ℕ → ℕ
number_of y m d = days_of_years (y - 2000) + days_of_months (leap y) (m - 1) + (d - 1)

number_from : (date y m d : ℕ) → Writes date y m d → day_number date ≡ number_of y m d
unfolding day_number
number_from date y m d w = rw (w.the_year, w.the_month, w.the_day)

-- The next day is in the same month, or it is the first of the next month, or 1 January.
data Next (y m d : ℕ) : ℕ → ℕ → ℕ → Type 0 where
  in_month : d < month_length (leap y) m → Next y m d y m (d + 1)
  next_month : d ≡ month_length (leap y) m → m < 12 → Next y m d y (m + 1) 1
  next_year : d ≡ month_length (leap y) m → m ≡ 12 → Next y m d (y + 1) 1 1

-- What a number writes, where that is the day after a date.
abbrev Follows : ℕ → ℕ → Type 0
Follows date next = (y : ℕ) × (m : ℕ) × (d : ℕ) × Writes next y m d × Next (year date) (month date) (day date) y m d

follows : (date : ℕ) → RealDay (year date) (month date) (day date) → Follows date (day_after date)
unfolding day_after
follows date r =
    let y = year date in
    let m = month date in
    let d = day date in
    let last = month_length (leap y) m in
    let short = length_to (leap y) m in
    cond_either (Follows date) (ltb d last) _ _
    (λ t. let h = ltb-true d last t in (y, m, d + 1, day_more date (omega arith), in_month h))
    (λ t. let h = ltb-false d last t in
    cond_either (Follows date) (ltb m 12) _ _
    (λ t. let k = ltb-true m 12 t in (y, m + 1, 1, written y (m + 1) 1 (omega arith) (omega arith), next_month (omega arith) k))
    (λ t. let k = ltb-false m 12 t in (y + 1, 1, 1, omega arith, next_year (omega arith) (omega arith))))

no_months : (in_leap_year : Bool) → days_of_months in_leap_year 0 ≡ 0
unfolding days_of_months
no_months in_leap_year = refl

one_more : {y m d y' m' d' : ℕ} → Next y m d y' m' d' → RealDay y m d → number_of y' m' d' ≡ suc (number_of y m d)
one_more (in_month h) r = omega arith
one_more {y} {m} {d} (next_month h k) r =
    let back : m + 1 - 1 ≡ m = omega arith in
    rw back (omega (arith, month_more (leap y) m r.from_january))
one_more {y} {m} {d} (next_year h k) r =
    omega (
      arith,
      no_months (leap (y + 1)),
      month_more (leap y) m r.from_january,
      ap (days_of_months (leap y)) k,
      year_after y r.from_2000,
    )

pub counts_days : CountsDays
unfolding day_number
counts_days date h =
    let r = parts_of_lem date h in
    let f = follows date r in
    number_from (day_after date) f.0 f.1 f.2 f.3 ∙ one_more f.4 r

pub counts_from_zero : CountsFromZero
unfolding day_number days_of_years days_of_months
counts_from_zero = refl

december : (in_leap_year : Bool) → month_length in_leap_year 12 ≡ 31
unfolding month_length
december in_leap_year = refl

-- Only 31 December 2099 has no real day after it.
next_is_real : {y m d y' m' d' : ℕ} → Next y m d y' m' d' → RealDay y m d → (y ≡ 2099 → m ≡ 12 → d ≡ 31 → ⊥) → RealDay y' m' d'
next_is_real (in_month h) r not_last = omega arith
next_is_real {y} {m} (next_month h k) r not_last = omega (arith, length_from_lem (leap y) (m + 1))
next_is_real {y} {m} {d} (next_year h k) r not_last =
    let here : month_length (leap y) m ≡ 31 = rw k (december (leap y)) in
    let before : y ≡ 2099 → ⊥ = λ e. not_last e k (omega arith) in
    omega (arith, length_from_lem (leap (y + 1)) 1)

pub day_after_is_real : DayAfterIsReal
day_after_is_real date h not_last =
    let r = parts_of_lem date h in
    let f = follows date r in
    real_from (day_after date) f.0 f.1 f.2 f.3
    (next_is_real f.4 r (λ ey em ed. not_last (omega arith)))

-- Within a month, a year, and from year to year.
within_month : (y m d : ℕ) → RealDay y m d → days_of_months (leap y) (m - 1) + (d - 1) < days_of_months (leap y) m
within_month y m d r = omega (arith, month_more (leap y) m r.from_january)

larger_in_year : (y m d m' d' : ℕ) → RealDay y m d → d' ≤ 31 → m * 100 + d < m' * 100 + d'
    → days_of_months (leap y) (m - 1) + (d - 1) < days_of_months (leap y) (m' - 1) + (d' - 1)
larger_in_year y m d m' d' r short h = go (ltb m m') refl
  where
    go : (t : Bool) → ltb m m' ≡ t → days_of_months (leap y) (m - 1) + (d - 1) < days_of_months (leap y) (m' - 1) + (d' - 1)
    go true t = let k = ltb-true m m' t in omega (arith, within_month y m d r, months_grow (leap y) m (m' - 1) (omega arith))
    go false t =
        let k = ltb-false m m' t in
        let same : m' ≡ m = omega arith in
        rw same (omega arith)

larger : (y m d y' m' d' : ℕ) → RealDay y m d → RealDay y' m' d' → y * 10000 + m * 100 + d < y' * 10000 + m' * 100 + d'
    → number_of y m d < number_of y' m' d'
larger y m d y' m' d' r r' h = go (ltb y y') refl (length_to (leap y') m')
  where
    go : (t : Bool) → ltb y y' ≡ t → month_length (leap y') m' ≤ 31 → number_of y m d < number_of y' m' d'
    go true t short =
        let k = ltb-true y y' t in
        omega (
          arith,
          within_month y m d r,
          months_grow (leap y) m 12 r.to_december,
          year_after y r.from_2000,
          years_grow (y + 1 - 2000) (y' - 2000) (omega arith),
        )
    go false t short =
        let k = ltb-false y y' t in
        let same : y' ≡ y = omega arith in
        rw same (omega (arith, larger_in_year y m d m' d' r (omega arith) (omega arith)))

pub later_is_larger : LaterIsLarger
unfolding day_number
later_is_larger a b ra rb h =
    larger (year a) (month a) (day a) (year b) (month b) (day b) (parts_of_lem a ra) (parts_of_lem b rb) (omega (arith, whole a, whole b))
