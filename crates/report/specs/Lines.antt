-- Document 02, A2: "The insurer takes our verdict only as its two report files. Write both whole, with byte mark, header and records as sections 5.3.3.1
-- and 5.4.3.1 lay them out, identifier and creation time from the caller and no CR LF after the last line."
use Rattle.std.specs.Prelude.{Bool, ◌&&◌, List, [], ◌∷◌, ℕ, ◌/◌, ◌%◌}
use Rattle.text.specs.Quoted.{bytes}
use Rattle.calendar.specs.Calendar.{real}
use Rattle.calendar.specs.Time.{clock_time}
use Rattle.write.specs.Spelled.{digits, spelled}

-- ".. a creation time is any real date and time as in document 01.": as the number yyyymmddhhmmss.
unfoldable pub is_moment : ℕ → Bool
is_moment n = real (n / 1_000_000) && clock_time (n % 1_000_000)

-- The header of either file has nine fields: `1`; the sender, `PP`; the file's code; the edition, `1.0`; its own identifier; when it was created; the
-- code of the file that it reports on, `EPE`; that file's identifier; and what it comes to.
abbrev pub header_of : List ℕ → List ℕ → ℕ → List ℕ → List ℕ → List (List ℕ)
header_of code own created source outcome =
    bytes "1" ∷ bytes "PP" ∷ code ∷ bytes "1.0" ∷ own ∷ digits 14 created ∷ bytes "EPE" ∷ source ∷ outcome ∷ []

-- A record of either has four: `2`; its running number; the number of the record or the order; the code of what is wrong with it.
abbrev pub record_of : ℕ → ℕ → ℕ → List (List ℕ)
record_of running order code = bytes "2" ∷ spelled running ∷ spelled order ∷ digits 3 code ∷ []
