-- Times of day.
use Rattle.std.specs.Prelude.{Bool, false, ◌&&◌, List, ℕ, ◌/◌, ◌%◌, leb, Option, Some, None}
use Rattle.text.specs.Number.{number}

-- A number hhmmss writes a time of day: an hour from 00 to 23, a minute and a second from 00 to 59.
unfoldable pub clock_time : ℕ → Bool
clock_time n = leb (n / 10000) 23 && (leb (n / 100 % 100) 59 && leb (n % 100) 59)

-- The same of what a text says as a number.
unfoldable pub time_of_number : Option ℕ → Bool
time_of_number (Some n) = clock_time n
time_of_number None = false

-- A text is a time of day when it is exactly six digits, hhmmss, that write one.
unfoldable pub time_of_day : List ℕ → Bool
time_of_day s = time_of_number (number 6 6 s)
