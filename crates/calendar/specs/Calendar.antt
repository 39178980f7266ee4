-- "Dates are Gregorian, years 2000 to 2099; differences are calendar days." A date is held as the number that its eight digits yyyymmdd write.
use Rattle.std.specs.Prelude.{◌≡◌, Bool, true, cond, not, ◌&&◌, ◌||◌, ℕ, zero, suc, ◌+◌, ◌*◌, ◌-◌, ◌/◌, ◌%◌, ◌<◌, leb, ltb, eqb}
use Rattle.text.specs.Bytes.{between}

abbrev pub year : ℕ → ℕ
year date = date / 10000

abbrev pub month : ℕ → ℕ
month date = date / 100 % 100

abbrev pub day : ℕ → ℕ
day date = date % 100

-- A year is a leap year when 4 divides it, but not 100, unless 400 does.
unfoldable pub leap : ℕ → Bool
leap y = eqb (y % 4) 0 && (not (eqb (y % 100) 0) || eqb (y % 400) 0)

-- The days of month m: 28 or 29 in February, 30 in April, June, September and November, else 31.
unfoldable pub month_length : Bool → ℕ → ℕ
month_length in_leap_year m =
    cond (eqb m 2) (cond in_leap_year 29 28)
    (cond (eqb m 4 || (eqb m 6 || (eqb m 9 || eqb m 11))) 30
    31)

-- A real date: a year from 2000 to 2099, a month from 1 to 12, a day from 1 to the month's length.
unfoldable pub real : ℕ → Bool
real date =
    between 2000 2099 (year date)
    && (between 1 12 (month date) && between 1 (month_length (leap (year date)) (month date)) (day date))

-- The days of a year's first n months, and of the first n years from 2000 on.
unfoldable pub days_of_months : Bool → ℕ → ℕ
days_of_months in_leap_year zero = 0
days_of_months in_leap_year (suc n) = days_of_months in_leap_year n + month_length in_leap_year (suc n)

unfoldable pub days_of_years : ℕ → ℕ
days_of_years zero = 0
days_of_years (suc n) = days_of_years n + days_of_months (leap (2000 + n)) 12

-- The number of a real date, counted from 1 January 2000, which has the number 0.
unfoldable pub day_number : ℕ → ℕ
day_number date = days_of_years (year date - 2000) + days_of_months (leap (year date)) (month date - 1) + (day date - 1)

-- The date after a real one: the next day of the month, else the first of the next month, else 1 January of the next year.
unfoldable pub day_after : ℕ → ℕ
day_after date =
    cond (ltb (day date) (month_length (leap (year date)) (month date))) (date + 1)
    (cond (ltb (month date) 12) (year date * 10000 + (month date + 1) * 100 + 1)
    ((year date + 1) * 10000 + 101))

-- The number rises by one from each real date to the next, so it counts days.
abbrev pub CountsDays : Type 0
CountsDays = (date : ℕ) → real date ≡ true → day_number (day_after date) ≡ suc (day_number date)

-- It counts from 1 January 2000.
abbrev pub CountsFromZero : Type 0
CountsFromZero = day_number 20000101 ≡ 0

-- Each real date but the last, 31 December 2099, has a real one after it.
abbrev pub DayAfterIsReal : Type 0
DayAfterIsReal = (date : ℕ) → real date ≡ true → (date ≡ 20991231 → ⊥) → real (day_after date) ≡ true

-- A later date has a larger number.
abbrev pub LaterIsLarger : Type 0
LaterIsLarger = (a b : ℕ) → real a ≡ true → real b ≡ true → a < b → day_number a < day_number b

-- A real date from `before` days before to `after` days after a real today, bounds included.
unfoldable pub in_window : ℕ → ℕ → ℕ → ℕ → Bool
in_window before after today date =
    (real today && real date)
    && (leb (day_number today) (day_number date + before) && leb (day_number date) (day_number today + after))
