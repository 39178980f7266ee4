-- Worked examples of the definitions, each computed.
-- Assumes nothing.
use mathlib.Core.Path.{◌≡◌, refl}
use mathlib.Core.Bool.{true, false}
use mathlib.Core.List.{List, [], ◌∷◌, map}
use Prim.Native.Nat.{ℕ}
use Rattle.std.specs.Prelude.{Some, None}
use Rattle.text.specs.Bytes.{digit}
use Rattle.text.specs.Number.{number_after, number}
use Rattle.calendar.specs.Calendar.{leap, month_length, real, days_of_months, days_of_years, day_number, day_after, in_window}
use Rattle.calendar.specs.Reading.{date_of, date_of_number, date_of_digits}
use Rattle.calendar.specs.Time.{clock_time, time_of_number, time_of_day}

leap_years : map leap (2000 ∷ 2096 ∷ 2100 ∷ []) ≡ true ∷ true ∷ false ∷ []
unfolding leap
leap_years = refl

months : List ℕ
months = 1 ∷ 2 ∷ 3 ∷ 4 ∷ 5 ∷ 6 ∷ 7 ∷ 8 ∷ 9 ∷ 10 ∷ 11 ∷ 12 ∷ []

month_lengths : map (month_length false) months ≡ 31 ∷ 28 ∷ 31 ∷ 30 ∷ 31 ∷ 30 ∷ 31 ∷ 31 ∷ 30 ∷ 31 ∷ 30 ∷ 31 ∷ []
unfolding months month_length
month_lengths = refl

month_lengths_in_a_leap_year : map (month_length true) months ≡ 31 ∷ 29 ∷ 31 ∷ 30 ∷ 31 ∷ 30 ∷ 31 ∷ 31 ∷ 30 ∷ 31 ∷ 30 ∷ 31 ∷ []
unfolding months month_length
month_lengths_in_a_leap_year = refl

ends_of_february : map real (20200229 ∷ 20210228 ∷ []) ≡ true ∷ true ∷ []
unfolding real leap month_length
ends_of_february = refl

days_that_months_lack : map real (20210229 ∷ 20200230 ∷ 20200431 ∷ []) ≡ false ∷ false ∷ false ∷ []
unfolding real leap month_length
days_that_months_lack = refl

first_and_last : map real (19991231 ∷ 20000101 ∷ 20991231 ∷ 21000101 ∷ []) ≡ false ∷ true ∷ true ∷ false ∷ []
unfolding real leap month_length
first_and_last = refl

days_after : map day_after (20200228 ∷ 20200229 ∷ 20201231 ∷ []) ≡ 20200229 ∷ 20200301 ∷ 20210101 ∷ []
unfolding day_after leap month_length
days_after = refl

numbers : map day_number (20000101 ∷ 20000228 ∷ 20000301 ∷ 20010101 ∷ 20991231 ∷ []) ≡ 0 ∷ 58 ∷ 60 ∷ 366 ∷ 36524 ∷ []
unfolding day_number days_of_years days_of_months month_length leap
numbers = refl

-- Document 01, ZS1, line 11: created 60 days before to 10 days after today, 7 October 2020.
created : map (in_window 60 10 20201007) (20200807 ∷ 20200808 ∷ 20201017 ∷ 20201018 ∷ []) ≡ false ∷ true ∷ true ∷ false ∷ []
unfolding in_window real day_number days_of_years days_of_months month_length leap
created = refl

-- Document 01, ZS1, line 12: the benefit's date 30 days on either side.
benefit : map (in_window 30 30 20201007) (20200906 ∷ 20200907 ∷ 20201106 ∷ 20201107 ∷ []) ≡ false ∷ true ∷ true ∷ false ∷ []
unfolding in_window real day_number days_of_years days_of_months month_length leap
benefit = refl

-- The texts "20200229", "20210229" and "2020229".
dates_in_digits : map date_of_digits
    ((0x32 ∷ 0x30 ∷ 0x32 ∷ 0x30 ∷ 0x30 ∷ 0x32 ∷ 0x32 ∷ 0x39 ∷ [])
    ∷ (0x32 ∷ 0x30 ∷ 0x32 ∷ 0x31 ∷ 0x30 ∷ 0x32 ∷ 0x32 ∷ 0x39 ∷ [])
    ∷ (0x32 ∷ 0x30 ∷ 0x32 ∷ 0x30 ∷ 0x32 ∷ 0x32 ∷ 0x39 ∷ [])
    ∷ [])
    ≡ Some (record { 0 = 20200229 }) ∷ None ∷ None ∷ []
unfolding date_of_digits date_of_number date_of real leap month_length number number_after digit
dates_in_digits = refl

-- The texts "235959", "240000", "006000" and "23595".
times_in_digits : map time_of_day
    ((0x32 ∷ 0x33 ∷ 0x35 ∷ 0x39 ∷ 0x35 ∷ 0x39 ∷ [])
    ∷ (0x32 ∷ 0x34 ∷ 0x30 ∷ 0x30 ∷ 0x30 ∷ 0x30 ∷ [])
    ∷ (0x30 ∷ 0x30 ∷ 0x36 ∷ 0x30 ∷ 0x30 ∷ 0x30 ∷ [])
    ∷ (0x32 ∷ 0x33 ∷ 0x35 ∷ 0x39 ∷ 0x35 ∷ [])
    ∷ [])
    ≡ true ∷ false ∷ false ∷ false ∷ []
unfolding time_of_day time_of_number clock_time number number_after digit
times_in_digits = refl
