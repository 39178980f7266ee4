-- What a number or a text says as a date.
use Rattle.std.specs.Prelude.{Bool, false, cond, List, ℕ, Option, Some, None}
use Rattle.text.specs.Number.{number}
use Rattle.calendar.specs.Calendar.{real, in_window}
use Rattle.calendar.specs.declared.date.Date.{Date}

-- A number is read as the date that it writes, if that is a real one.
unfoldable pub date_of : ℕ → Option Date
date_of n = cond (real n) (Some (record { 0 = n })) None

-- The same of what a text says as a number.
unfoldable pub date_of_number : Option ℕ → Option Date
date_of_number (Some n) = date_of n
date_of_number None = None

-- A text is read as a date when it is exactly eight digits, yyyymmdd, that write a real one.
unfoldable pub date_of_digits : List ℕ → Option Date
date_of_digits s = date_of_number (number 8 8 s)

-- What is read as a date lies in a window of days around today.
unfoldable pub date_in_window : ℕ → ℕ → Date → Option Date → Bool
date_in_window before after today (Some date) = in_window before after today.0 date.0
date_in_window before after today None = false
