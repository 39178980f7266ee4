-- Whole files, judged by computation: shipment ZS1 of document 01, and one file for each of a handful of refusals.
-- Assumes nothing.
use mathlib.Core.Path.{◌≡◌, refl}
use mathlib.Core.List.{List, [], ◌∷◌, ◌++◌, map}
use Prim.Native.Nat.{ℕ}
use Prim.Native.String.{String}
use Rattle.text.specs.Bytes.{digit, letter, letter_or_digit}
use Rattle.text.specs.Quoted.{bytes}
use Rattle.text.specs.Number.{number, number_after}
use Rattle.text.specs.Fields.{fields, onto}
use Rattle.text.specs.Lines.{lines, parted, without_last_end, stray}
use Rattle.text.specs.Utf8.{ascii, tail_octet, lead2, lead3, lead4, point2, point3, point4, surrogate, range2, range3, range4, row2, row3, row4}
use Rattle.text.specs.Utf8.{width, well_formed_after}
use Rattle.money.specs.Money.{fee, grosze_of}
use Rattle.money.specs.Text.{text_of, together}
use Rattle.fee.specs.Fee.{rate}
use Rattle.fee.specs.declared.Terms.{Terms}
use Rattle.calendar.specs.Calendar.{real, leap, month_length, in_window, day_number, days_of_years, days_of_months}
use Rattle.calendar.specs.Reading.{date_of, date_of_number, date_of_digits, date_in_window}
use Rattle.calendar.specs.Time.{clock_time, time_of_number, time_of_day}
use Rattle.epe.specs.Questions.{Verdict, Passed, Refused, asked}
use Rattle.epe.specs.Ident.{identifier}
use Rattle.epe.specs.Profile.{as_fees, profile_fits, rates_fit, profile_questions, no_terms, terms_for}
use Rattle.epe.specs.Name.{name_questions}
use Rattle.epe.specs.File.{marked}
use Rattle.epe.specs.Opening.{file_questions, fixed_questions, repeated_questions, opening_questions, opening}
use Rattle.epe.specs.declared.profile.Profile.{Profile}
use Rattle.contents.specs.Faults.{sized, placed, housed, postcode, extra, spaced, said_of, unspaced, fault_questions, fault_of}
use Rattle.contents.specs.Contents.{date_questions, stated_questions, stated_terms, shaped, all_shaped, all_priced, all_charged, total, record_questions, contents_questions, contents, order_of, orders, faulty_count, judged_of, lines_read, orders_read}
use Rattle.contents.specs.Steps.{stated_in, stated_of, stated_verdict, records_of, none_kept, kept_where, judged_records}
use Rattle.contents.specs.Kept.{order_from, orders_in, kept_from}
use Rattle.contents.specs.Contents.{Accepted, NotAccepted}
use Rattle.contents.specs.declared.record.Order.{Order}

-- A file from its lines: the byte mark, and CR LF behind each.
abbrev ended : List String → List ℕ
ended [] = []
ended (line ∷ lines) = bytes line ++ (0x0D ∷ 0x0A ∷ ended lines)

abbrev file : List String → List ℕ
file lines = 0xEF ∷ 0xBB ∷ 0xBF ∷ ended lines

-- A profile of some flat parts, number of fields and rates; today is 7 October 2020.
abbrev profiled : List ℕ → ℕ → List ℕ → Profile
profiled flat fields rates = record { today = record { 0 = 20201007 }; flat = as_fees flat; fields = fields; rates = map rate rates }

-- "F 350", records of 19 fields, and "ZS1's rate is 0".
abbrev profile : Profile
profile = profiled (350 ∷ 350 ∷ 350 ∷ 350 ∷ 350 ∷ []) 19 (0 ∷ 0 ∷ 0 ∷ 0 ∷ 0 ∷ [])

abbrev terms : ℕ → ℕ → Terms
terms flat ten_thousandths = record { flat = fee flat; rate = rate ten_thousandths }

-- "ZS1: orders 100.00, 50.00 (no surname), 25.50."
abbrev first : String
first = "2|1|100.00|Kowalski|Jan|Krakow|30-001|Krakow|Dluga|5||||ZUS/1|09.2020||||"

abbrev second : String
second = "2|2|50.00||Anna|Krakow|30-002|Krakow|Krotka|7||||ZUS/2|09.2020||||"

abbrev third : String
third = "2|3|25.50|Nowak|Piotr|Krakow|30-003|||||SP_12||ZUS/3|09.2020||||"

abbrev name : List ℕ
name = bytes "EPEZZS1-201007-A-0"

abbrev zs1 : List ℕ
zs1 = file ("1|ZUS|EPE|1.0|ZS1|ABC123|20201007120000|20201007|A|0|3|175.50" ∷ first ∷ second ∷ third ∷ [])

-- names the definitions that the examples compute
opens : List ℕ → List ℕ → Verdict
unfolding ascii tail_octet lead2 lead3 lead4 point2 point3 point4 surrogate range2 range3 range4 row2 row3 row4 width well_formed_after digit letter letter_or_digit number number_after fields onto lines parted without_last_end stray real leap month_length asked identifier name_questions marked file_questions fixed_questions repeated_questions opening_questions opening
opens = opening

holds_orders : Profile → List ℕ → Verdict
unfolding opens grosze_of text_of together in_window day_number days_of_years days_of_months date_of date_of_number date_of_digits date_in_window clock_time time_of_number time_of_day as_fees profile_fits rates_fit profile_questions terms_for sized placed housed postcode extra spaced said_of unspaced fault_questions fault_of date_questions stated_questions shaped all_shaped all_priced all_charged total record_questions contents_questions contents order_of orders faulty_count judged_of
holds_orders = contents

abbrev order : ℕ → ℕ → Order
order grosze fault = record { amount = record { 0 = grosze }; fault = fault }

opened : opening name zs1 ≡ Passed
unfolding opens
opened = refl

accepted : judged_of (contents profile zs1) (orders zs1) ≡ Accepted 3 1
unfolding holds_orders
accepted = refl

its_orders : orders zs1 ≡ order 10_000 0 ∷ order 5_000 1 ∷ order 2_550 0 ∷ []
unfolding holds_orders
its_orders = refl

-- The same in two steps: what the header states, then the records, whose orders are kept. No record is in 33 fields.
stated : (stated_verdict profile zs1 ≡ Passed) × (stated_of profile zs1 ≡ record { count = 3; sum = 17_550; terms = terms 350 0 })
unfolding holds_orders stated_of stated_in
stated = (refl, refl)

judged_behind : map (λ r. (records_of r 3 17_550 (terms 350 0) zs1).judged) (19 ∷ 20 ∷ 33 ∷ []) ≡ Accepted 3 1 ∷ NotAccepted 901 ∷ NotAccepted 901 ∷ []
unfolding holds_orders records_of judged_records
judged_behind = refl

kept_behind : orders_in (records_of 19 3 17_550 (terms 350 0) zs1).kept 0 3 ≡ orders zs1
unfolding holds_orders records_of judged_records kept_where lines_read orders_read kept_from orders_in order_from
kept_behind = refl

-- A file that is refused is kept nothing of.
unkept_behind : (records_of 19 2 17_550 (terms 350 0) zs1).kept ≡ none_kept
unfolding holds_orders records_of judged_records kept_where
unkept_behind = refl

-- A header by itself, with bytes behind it.
abbrev headed : List ℕ → List ℕ
headed behind = 0xEF ∷ 0xBB ∷ 0xBF ∷ (bytes "1|ZUS|EPE|1.0|ZS1|ABC123|20201007120000|20201007|A|0|3|175.50" ++ behind)

-- 001, 034 without the mark, 003 before a bad header, 014 for another name.
openings_refused : map (opening name) ([] ∷ bytes "1|ZUS" ∷ []) ++ (opening (bytes "EPEZZS1-201007-A") (file ("2|ZUS" ∷ []))
    ∷ opening (bytes "EPEZZS2-201007-A-0") zs1
    ∷ [])
    ≡ Refused 1 ∷ Refused 34 ∷ Refused 3 ∷ Refused 14 ∷ []
unfolding opens
openings_refused = refl

-- A header of 12 fields passes without an end and with CR LF, and is 004 with a stray LF or CR, or with one more bar.
headers : map (λ behind. opening name (headed behind)) ([] ∷ (0x0D ∷ 0x0A ∷ []) ∷ (0x0A ∷ []) ∷ (0x0D ∷ []) ∷ bytes "|" ∷ [])
    ≡ Passed ∷ Passed ∷ Refused 4 ∷ Refused 4 ∷ Refused 4 ∷ []
unfolding opens
headers = refl

-- The same shipment with other fields 7, 8, 11 and 12.
abbrev judged_with : String → List String → Verdict
judged_with header records = contents profile (file (header ∷ records))

-- 102 for an empty field 7, 129 for a record too few, 132 for a grosz too much, 901 for a bad second record though the first has a bad amount, 902.
contents_refused :
    judged_with "1|ZUS|EPE|1.0|ZS1|ABC123||20201007|A|0|3|175.50" (first ∷ second ∷ third ∷ [])
    ∷ judged_with "1|ZUS|EPE|1.0|ZS1|ABC123|20201007120000|20201007|A|0|3|150.00" (first ∷ second ∷ [])
    ∷ judged_with "1|ZUS|EPE|1.0|ZS1|ABC123|20201007120000|20201007|A|0|3|175.51" (first ∷ second ∷ third ∷ [])
    ∷ judged_with "1|ZUS|EPE|1.0|ZS1|ABC123|20201007120000|20201007|A|0|2|1.00" ("2|1|1,00||||||||||||||||" ∷ "2|3|1.00||||||||||||||||" ∷ [])
    ∷ judged_with "1|ZUS|EPE|1.0|ZS1|ABC123|20201007120000|20201007|A|0|2|1.00" ("2|1|1,00||||||||||||||||" ∷ "2|2|1.00||||||||||||||||" ∷ [])
    ∷ []
    ≡ Refused 102 ∷ Refused 129 ∷ Refused 132 ∷ Refused 901 ∷ Refused 902 ∷ []
unfolding holds_orders
contents_refused = refl

-- Sums: a leading zero is 130, of zero too, and a sum of nothing is 131; field 11 keeps its zeros.
sums_spelled :
    judged_with "1|ZUS|EPE|1.0|ZS1|ABC123|20201007120000|20201007|A|0|000003|175.50" (first ∷ second ∷ third ∷ [])
    ∷ judged_with "1|ZUS|EPE|1.0|ZS1|ABC123|20201007120000|20201007|A|0|3|00175.50" (first ∷ second ∷ third ∷ [])
    ∷ judged_with "1|ZUS|EPE|1.0|ZS1|ABC123|20201007120000|20201007|A|0|3|00.00" (first ∷ second ∷ third ∷ [])
    ∷ judged_with "1|ZUS|EPE|1.0|ZS1|ABC123|20201007120000|20201007|A|0|3|0.00" (first ∷ second ∷ third ∷ [])
    ∷ []
    ≡ Passed ∷ Refused 130 ∷ Refused 130 ∷ Refused 131 ∷ []
unfolding holds_orders
sums_spelled = refl

-- Amounts: a leading zero is 902, and so is an amount of nothing; a record's number keeps its zeros.
amounts_spelled :
    judged_with "1|ZUS|EPE|1.0|ZS1|ABC123|20201007120000|20201007|A|0|1|7.50" ("2|000001|7.50||||||||||||||||" ∷ [])
    ∷ judged_with "1|ZUS|EPE|1.0|ZS1|ABC123|20201007120000|20201007|A|0|1|7.50" ("2|1|007.50||||||||||||||||" ∷ [])
    ∷ judged_with "1|ZUS|EPE|1.0|ZS1|ABC123|20201007120000|20201007|A|0|1|0.01" ("2|1|0.01||||||||||||||||" ∷ [])
    ∷ judged_with "1|ZUS|EPE|1.0|ZS1|ABC123|20201007120000|20201007|A|0|1|0.01" ("2|1|00.01||||||||||||||||" ∷ [])
    ∷ judged_with "1|ZUS|EPE|1.0|ZS1|ABC123|20201007120000|20201007|A|0|1|0.01" ("2|1|0.00||||||||||||||||" ∷ [])
    ∷ []
    ≡ Passed ∷ Refused 902 ∷ Passed ∷ Refused 902 ∷ Refused 902 ∷ []
unfolding holds_orders
amounts_spelled = refl

-- Document 01, ZS1, line 11: created on 20200808 or 20201017 passes, 20200807 or 20201018 is 103.
line_11 :
    judged_with "1|ZUS|EPE|1.0|ZS1|ABC123|20200808000000|20201007|A|0|3|175.50" (first ∷ second ∷ third ∷ [])
    ∷ judged_with "1|ZUS|EPE|1.0|ZS1|ABC123|20201017235959|20201007|A|0|3|175.50" (first ∷ second ∷ third ∷ [])
    ∷ judged_with "1|ZUS|EPE|1.0|ZS1|ABC123|20200807235959|20201007|A|0|3|175.50" (first ∷ second ∷ third ∷ [])
    ∷ judged_with "1|ZUS|EPE|1.0|ZS1|ABC123|20201018000000|20201007|A|0|3|175.50" (first ∷ second ∷ third ∷ [])
    ∷ []
    ≡ Passed ∷ Passed ∷ Refused 103 ∷ Refused 103 ∷ []
unfolding holds_orders
line_11 = refl

-- Line 12: the benefit date 20200907 or 20201106 passes, 20200906 is 125, and so is 20201107.
line_12 :
    judged_with "1|ZUS|EPE|1.0|ZS1|ABC123|20201007120000|20200907|A|0|3|175.50" (first ∷ second ∷ third ∷ [])
    ∷ judged_with "1|ZUS|EPE|1.0|ZS1|ABC123|20201007120000|20201106|A|0|3|175.50" (first ∷ second ∷ third ∷ [])
    ∷ judged_with "1|ZUS|EPE|1.0|ZS1|ABC123|20201007120000|20200906|A|0|3|175.50" (first ∷ second ∷ third ∷ [])
    ∷ judged_with "1|ZUS|EPE|1.0|ZS1|ABC123|20201007120000|20201107|A|0|3|175.50" (first ∷ second ∷ third ∷ [])
    ∷ []
    ≡ Passed ∷ Passed ∷ Refused 125 ∷ Refused 125 ∷ []
unfolding holds_orders
line_12 = refl

-- Document 02, A5: "907 when any of the profile's rates is above 10,000, asked after 905", and before 102.
rates_asked : map (λ (profile : Profile). contents profile (file ("1|ZUS|EPE|1.0|ZS1|ABC123||20201007|A|0|3|175.50" ∷ [])))
    (profiled (350 ∷ 350 ∷ 350 ∷ 350 ∷ 350 ∷ []) 18 (0 ∷ 0 ∷ 0 ∷ 0 ∷ 10_001 ∷ [])
    ∷ profiled (350 ∷ 350 ∷ 350 ∷ 350 ∷ 350 ∷ []) 19 (0 ∷ 0 ∷ 0 ∷ 0 ∷ 10_001 ∷ [])
    ∷ profiled (350 ∷ 350 ∷ 350 ∷ 350 ∷ 350 ∷ []) 19 (0 ∷ 0 ∷ 0 ∷ 0 ∷ 10_000 ∷ [])
    ∷ [])
    ≡ Refused 905 ∷ Refused 907 ∷ Refused 102 ∷ []
unfolding holds_orders
rates_asked = refl

-- "906 when an order's fee exceeds 999,999,999, asked after 132": a flat part of 0.01 and a rate of 10,000 make the fee of a kind-0 order one grosz more
-- than its amount, and here the faulty order's alone is too much.
abbrev whole : Profile
whole = profiled (1 ∷ 0 ∷ 0 ∷ 0 ∷ 0 ∷ []) 19 (10_000 ∷ 0 ∷ 0 ∷ 0 ∷ 0 ∷ [])

abbrev large : String
large = "2|2|9999999.99||Anna|Krakow|30-002|Krakow|Krotka|7||||ZUS/2|09.2020||||"

abbrev costly : List ℕ
costly = file ("1|ZUS|EPE|1.0|ZS1|ABC123|20201007120000|20201007|A|0|2|10000099.99" ∷ first ∷ large ∷ [])

its_faulty_order : orders costly ≡ order 10_000 0 ∷ order 999_999_999 1 ∷ []
unfolding holds_orders
its_faulty_order = refl

-- 906; 132 where the sum is a grosz less; and a pass for an amount of a grosz less, or another kind.
fees_capped :
    contents whole costly
    ∷ contents whole (file ("1|ZUS|EPE|1.0|ZS1|ABC123|20201007120000|20201007|A|0|2|10000099.98" ∷ first ∷ large ∷ []))
    ∷ contents whole (file ("1|ZUS|EPE|1.0|ZS1|ABC123|20201007120000|20201007|A|0|1|9999999.98" ∷ "2|1|9999999.98||||||||||||||||" ∷ []))
    ∷ contents whole (file ("1|ZUS|EPE|1.0|ZS1|ABC123|20201007120000|20201007|A|1|2|10000099.99" ∷ first ∷ large ∷ []))
    ∷ []
    ≡ Refused 906 ∷ Refused 132 ∷ Passed ∷ Passed ∷ []
unfolding holds_orders
fees_capped = refl

-- The terms of the header's kind: those of the kinds 0 to 4, and none for 5 to 9 and for what is no digit.
abbrev terms_of : String → Terms
terms_of kind =
    stated_terms (profiled (11 ∷ 12 ∷ 13 ∷ 14 ∷ 15 ∷ []) 19 (21 ∷ 22 ∷ 23 ∷ 24 ∷ 25 ∷ []))
    (bytes "1|ZUS|EPE|1.0|ZS1|ABC123|20201007120000|20201007|A|" ++ (bytes kind ++ bytes "|3|175.50"))

terms_by_kind : map terms_of
    ("0" ∷ "1" ∷ "2" ∷ "3" ∷ "4" ∷ "5" ∷ "6" ∷ "7" ∷ "8" ∷ "9" ∷ "" ∷ "A" ∷ "00" ∷ [])
    ≡ terms 11 21
    ∷ terms 12 22
    ∷ terms 13 23
    ∷ terms 14 24
    ∷ terms 15 25
    ∷ no_terms
    ∷ no_terms
    ∷ no_terms
    ∷ no_terms
    ∷ no_terms
    ∷ no_terms
    ∷ no_terms
    ∷ no_terms
    ∷ []
unfolding holds_orders
terms_by_kind = refl
