-- The year, month and day of a date: what a real date says of them, and what they are of a date that is written from them.
-- Assumes nothing.
use mathlib.Core.Path.{◌≡◌}
use mathlib.Core.Bool.{true, ◌&&◌}
use Prim.Native.Nat.{ℕ, ◌+◌, ◌*◌, ◌≤◌, ◌<◌}
use native.Mathlib.Omega.{arith}
use borrow.Author.Tests.{leb-true, le-leb}
use lib.Dec.{leb}
use Rattle.calendar.specs.Calendar.{year, month, day, leap, month_length, real}
use Rattle.text.specs.Bytes.{between}
use Rattle.text.proofs.Branches.{and_left, and_right}

-- The number writes the year y, the month m and the day d.
pub record Writes (date y m d : ℕ) : Type 0 where
  pub the_year : year date ≡ y
  pub the_month : month date ≡ m
  pub the_day : day date ≡ d

pub whole : (date : ℕ) → year date * 10000 + month date * 100 + day date ≡ date
whole date = omega arith

pub day_more : (date : ℕ) → day date < 99 → Writes (date + 1) (year date) (month date) (day date + 1)
day_more date h = omega arith

pub written : (y m d : ℕ) → m < 100 → d < 100 → Writes (y * 10000 + m * 100 + d) y m d
written y m d hm hd = omega arith

-- The year y, the month m and the day d make a real date.
pub record RealDay (y m d : ℕ) : Type 0 where
  pub from_2000 : 2000 ≤ y
  pub to_2099 : y ≤ 2099
  pub from_january : 1 ≤ m
  pub to_december : m ≤ 12
  pub from_first : 1 ≤ d
  pub to_last : d ≤ month_length (leap y) m

bounds : (low x high : ℕ) → between low high x ≡ true → (low ≤ x) × (x ≤ high)
bounds low x high h = (leb-true low x (and_left (leb low x) (leb x high) h), leb-true x high (and_right (leb low x) (leb x high) h))

pub parts_of_lem : (date : ℕ) → real date ≡ true → RealDay (year date) (month date) (day date)
unfolding real
parts_of_lem date h =
    let y = year date in
    let m = month date in
    let d = day date in
    let last = month_length (leap y) m in
    let in_years = between 2000 2099 y in
    let in_months = between 1 12 m in
    let in_days = between 1 last d in
    let rest = and_right in_years (in_months && in_days) h in
    let years = bounds 2000 y 2099 (and_left in_years (in_months && in_days) h) in
    let months = bounds 1 m 12 (and_left in_months in_days rest) in
    let days = bounds 1 d last (and_right in_months in_days rest) in
    record { from_2000 = years.0; to_2099 = years.1; from_january = months.0; to_december = months.1; from_first = days.0; to_last = days.1 }

pub real_from : (date y m d : ℕ) → Writes date y m d → RealDay y m d → real date ≡ true
unfolding real
real_from date y m d w r =
    rw (w.the_year, w.the_month, w.the_day)
    (simp (
      le-leb 2000 y r.from_2000,
      le-leb y 2099 r.to_2099,
      le-leb 1 m r.from_january,
      le-leb m 12 r.to_december,
      le-leb 1 d r.from_first,
      le-leb d (month_length (leap y) m) r.to_last,
    ))
