-- The contents of an order file: the header's other fields, and the records.
use Rattle.std.specs.Prelude.{◌≡◌, Bool, true, cond, not, ◌&&◌, List, [], ◌∷◌, ◌++◌, map, ℕ, ◌+◌, leb, ltb, eqb, length, take, drop, is_some, Result, Ok, Err}
use Rattle.text.specs.Bytes.{same, letters_or_digits}
use Rattle.text.specs.Quoted.{bytes}
use Rattle.std.specs.Option.{unwrap_or}
use Rattle.text.specs.Number.{number}
use Rattle.text.specs.Fields.{fields}
use Rattle.text.specs.Lines.{stray}
use Rattle.money.specs.Money.{amount, is_order_fee, grosze_of}
use Rattle.money.specs.Text.{order_text, sum_text}
use Rattle.fee.specs.Fee.{fee_of}
use Rattle.fee.specs.declared.Terms.{Terms}
use Rattle.calendar.specs.Reading.{date_of_digits, date_in_window}
use Rattle.calendar.specs.Time.{time_of_day}
use Rattle.calendar.specs.declared.date.Date.{Date}
use Rattle.epe.specs.Questions.{Question, ◌else_no◌, Verdict, Passed, Refused, first_no}
use Rattle.epe.specs.Profile.{kinds, profile_questions, terms_for}
use Rattle.epe.specs.File.{header, records, field}
use Rattle.epe.specs.declared.profile.Profile.{Profile}
use Rattle.contents.specs.Faults.{fault_of}
use Rattle.epe.specs.Refusal.{number_of}
use Rattle.epe.specs.declared.refusal.Refusal.{Refusal}
use Rattle.contents.specs.declared.judge.Accepted.{Accepted as AcceptedOrders}
use Rattle.contents.specs.declared.record.Order.{Order}

unfoldable pub date_questions : Date → List ℕ → List Question
date_questions today line =
    -- "Field 7 not empty? 102"
    (ltb 0 (length (field 7 line)) else_no 102)
    -- "Field 7 a real date, hour 00-23, minute and second 00-59, from 60 days before to 10 days after today? 103"
    ∷ (date_in_window 60 10 today (date_of_digits (take 8 (field 7 line))) && time_of_day (drop 8 (field 7 line)) else_no 103)
    -- "Field 6 not empty? 120"
    ∷ (ltb 0 (length (field 6 line)) else_no 120)
    -- "Field 6 six letters or digits? 121"
    ∷ (eqb (length (field 6 line)) 6 && letters_or_digits (field 6 line) else_no 121)
    -- "Field 8 within 30 days of today on either side? 125"
    ∷ (date_in_window 30 30 today (date_of_digits (field 8 line)) else_no 125)
    ∷ []

-- The number of orders and the sum that the header states.
abbrev pub stated_count : List ℕ → ℕ
stated_count line = unwrap_or (number 1 6 (field 11 line)) 0

abbrev pub stated_sum : List ℕ → ℕ
stated_sum line = grosze_of (sum_text (field 12 line))

unfoldable pub stated_questions : List ℕ → List Question
stated_questions line =
    -- "Field 11 is 1 to 6 digits? 126"
    (is_some (number 1 6 (field 11 line)) else_no 126)
    -- "At least 1? 127"
    ∷ (leb 1 (stated_count line) else_no 127)
    -- "Field 12 reads as a sum? 130"
    ∷ (is_some (sum_text (field 12 line)) else_no 130)
    -- "Above zero? 131"
    ∷ (ltb 0 (stated_sum line) else_no 131)
    ∷ []

-- The questions 905, 907 and 102 to 131 of a header, in order. The profile is asked about here too, so that every one has an answer.
abbrev pub header_questions : Profile → List ℕ → List Question
header_questions profile line = profile_questions profile ++ (date_questions profile.today line ++ stated_questions line)

-- What the profile sets for the kind that the header states in its field 10; for what is no digit, nothing.
abbrev pub stated_kind : List ℕ → ℕ
stated_kind line = unwrap_or (number 1 1 (field 10 line)) kinds

abbrev pub stated_terms : Profile → List ℕ → Terms
stated_terms profile line = terms_for profile (stated_kind line)

-- One record line, the n-th: ".. R fields, no stray CR or LF, first field `2`, second 1 to 6 digits whose value counts 1, 2, 3 ..?"
unfoldable pub shaped : ℕ → ℕ → List ℕ → Bool
shaped r n line =
    (eqb (length (fields 0x7C line)) r && not (stray line))
    && (same (field 1 line) (bytes "2")
    && (is_some (number 1 6 (field 2 line)) && eqb (unwrap_or (number 1 6 (field 2 line)) 0) n))

unfoldable pub all_shaped : ℕ → ℕ → List (List ℕ) → Bool
all_shaped r n [] = true
all_shaped r n (line ∷ lines) = shaped r n line && all_shaped r (n + 1) lines

-- The amount that field 3 reads, in grosze; 0 where it reads none.
abbrev pub amount_in : List ℕ → ℕ
amount_in line = grosze_of (order_text (field 3 line))

unfoldable pub all_priced : List (List ℕ) → Bool
all_priced [] = true
all_priced (line ∷ lines) = ltb 0 (amount_in line) && all_priced lines

unfoldable pub total : List (List ℕ) → ℕ
total [] = 0
total (line ∷ lines) = amount_in line + total lines

-- Each order's fee on some terms, the faulty ones' too, is one that an order can hold.
unfoldable pub all_charged : Terms → List (List ℕ) → Bool
all_charged terms [] = true
all_charged terms (line ∷ lines) = is_order_fee (fee_of terms (amount_in line)) && all_charged terms lines

-- The records of R fields, beside the number of orders and the sum that the header states in its fields 11 and 12, and the terms of their fees.
unfoldable pub record_questions : ℕ → ℕ → ℕ → Terms → List (List ℕ) → List Question
record_questions r count sum terms lines =
    -- "Every record line has R fields, no stray CR or LF, first field `2`, second 1 to 6 digits whose value counts 1, 2, 3 ..? 901"
    (all_shaped r 1 lines else_no 901)
    -- "Every field 3 reads as an amount, above zero? 902"
    ∷ (all_priced lines else_no 902)
    -- "Number of record lines equals field 11? 129"
    ∷ (eqb (length lines) count else_no 129)
    -- "Amounts add up to field 12? 132"
    ∷ (eqb (total lines) sum else_no 132)
    -- "906 when an order's fee exceeds 999,999,999, asked after 132." (document 02, A5)
    ∷ (all_charged terms lines else_no 906)
    ∷ []

-- The questions 905, 907 and 102 to 906, in order.
unfoldable pub contents_questions : Profile → List ℕ → List Question
contents_questions profile file =
    header_questions profile (header file)
    ++ record_questions profile.fields (stated_count (header file)) (stated_sum (header file)) (stated_terms profile (header file)) (records file)

unfoldable pub contents : Profile → List ℕ → Verdict
contents profile file = first_no (contents_questions profile file)

-- The orders of a file whose questions are answered yes: a line each, its amount and its fault.
unfoldable pub order_of : List ℕ → Order
order_of line = record { amount = amount (amount_in line); fault = fault_of line }

unfoldable pub orders : List ℕ → List Order
orders file = map order_of (records file)

-- The orders that are read while records of R fields are judged: those of the record lines up to the first that is not in shape.
-- Of a file that is accepted, they are its orders.
unfoldable pub lines_read : ℕ → ℕ → List (List ℕ) → List (List ℕ)
lines_read r n [] = []
lines_read r n (line ∷ lines) = cond (shaped r n line) (line ∷ lines_read r (n + 1) lines) []

unfoldable pub orders_read : ℕ → List ℕ → List Order
orders_read r file = map order_of (lines_read r 1 (records file))

abbrev pub AcceptedIsRead : Type 0
AcceptedIsRead = (profile : Profile) (file : List ℕ) → contents profile file ≡ Passed → orders_read profile.fields file ≡ orders file

-- "An accepted file answers its order count and its faulty count."
unfoldable pub faulty_count : List Order → ℕ
faulty_count [] = 0
faulty_count (order ∷ orders) = cond (eqb order.fault 0) 0 1 + faulty_count orders

-- What the contents come to: accepted with these two counts, or the number of the first question answered no.
pub data Judged : Type 0 where
  Accepted : ℕ → ℕ → Judged
  NotAccepted : ℕ → Judged

unfoldable pub judged_of : Verdict → List Order → Judged
judged_of Passed os = Accepted (length os) (faulty_count os)
judged_of (Refused n) os = NotAccepted n

-- What code answers, with the paper's number for each refusal.
abbrev pub judged_as : Result AcceptedOrders Refusal → Judged
judged_as (Ok accepted) = Accepted accepted.orders accepted.faulty
judged_as (Err refusal) = NotAccepted (number_of refusal)
