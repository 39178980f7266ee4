-- Worked files, byte by byte, and the questions of both reports at their edges, each computed from the definitions.
-- Assumes nothing.
use mathlib.Core.Path.{◌≡◌, refl}
use mathlib.Core.List.{List, [], ◌∷◌, map}
use mathlib.Core.Option.{Option, some, none}
use Prim.Native.Nat.{ℕ}
use lib.ListN.{replicate}
use Rattle.std.specs.Prelude.{Result, Ok, Err}
use Rattle.text.specs.Bytes.{digit, letter, letter_or_digit}
use Rattle.text.specs.Quoted.{bytes}
use Rattle.text.specs.Utf8Parts.{parts_joined}
use Rattle.calendar.specs.Calendar.{real, leap, month_length}
use Rattle.calendar.specs.Time.{clock_time}
use Rattle.epe.specs.Ident.{identifier, ident_of}
use Rattle.epe.specs.Questions.{asked}
use Rattle.epe.specs.declared.ident.Ident.{Ident}
use Rattle.model.specs.Book.{Book}
use Rattle.model.specs.Demand.{book_at}
use Rattle.model.specs.Zs1.{calls, zs1}
use Rattle.model.proofs.AboutZs1.{stepped}
use Rattle.write.specs.Spelled.{digits, places_within}
use Rattle.write.specs.Written.{Wrote, wrote, leaving, written_after}
use Rattle.report.specs.Lines.{is_moment}
use Rattle.report.specs.Rkf.{rkf_lines, rkf, fits_rkf, rkf_written}
use Rattle.report.specs.Ope.{faulty_from, ope_records, ope_lines, ope, are_coded, fits_ope, ope_on, ope_of, ope_written}

-- RKF of ZS1, accepted, 53 bytes; and refused with 103, 64 bytes.
accepted : rkf (bytes "PP0000000001") 20201007130000 (bytes "ZS1") 0
    ≡ 0xEF ∷ 0xBB ∷ 0xBF ∷ bytes "1|PP|RKF|1.0|PP0000000001|20201007130000|EPE|ZS1|1"
unfolding rkf rkf_lines parts_joined digits
accepted = refl

refused : rkf (bytes "PP0000000001") 20201007130000 (bytes "ZS1") 103
    ≡ 0xEF ∷ 0xBB ∷ 0xBF ∷ bytes "1|PP|RKF|1.0|PP0000000001|20201007130000|EPE|ZS1|0\r\n2|1|0|103"
unfolding rkf rkf_lines parts_joined digits places_within
refused = refl

-- What both answer, into an output of zeros.
rkf_into : List ℕ → ℕ → List ℕ → ℕ → ℕ → Wrote
unfolding rkf_written written_after asked fits_rkf rkf rkf_lines parts_joined digits places_within is_moment identifier letter_or_digit letter digit real leap month_length clock_time
rkf_into own created source refusal room = rkf_written own created source refusal (replicate room 0)

ope_into : Option Book → Ident → List ℕ → ℕ → List ℕ → ℕ → Wrote
unfolding stepped zs1 ident_of ope_written ope_of ope_on written_after asked fits_ope faulty_from are_coded ope ope_lines ope_records parts_joined digits places_within is_moment identifier letter_or_digit letter digit real leap month_length clock_time
ope_into book ident own created codes room = ope_written book ident own created codes (replicate room 0)

-- OPE of ZS1, whose order 2 has fault 1: just taken in, and at the end, when OPR has given both moneys of that order back. 64 bytes, and a byte behind.
zs1_ope : List ℕ
zs1_ope = 0xEF ∷ 0xBB ∷ 0xBF ∷ bytes "1|PP|OPE|1.0|PP0000000003|20201007131500|EPE|ZS1|1\r\n2|1|2|308"

ope_of_zs1 : map (λ (point : ℕ). ope_into (some (book_at calls point)) zs1 (bytes "PP0000000003") 20201007131500 (308 ∷ []) 65) (1 ∷ 17 ∷ [])
    ≡ wrote zs1_ope (replicate 65 0) ∷ wrote zs1_ope (replicate 65 0) ∷ []
unfolding ope_into zs1_ope
ope_of_zs1 = refl

-- No faulty order: the header alone, with count 0.
none_faulty_lem : ope (bytes "PP0000000003") 20201007131500 [] (bytes "ZS1") []
    ≡ 0xEF ∷ 0xBB ∷ 0xBF ∷ bytes "1|PP|OPE|1.0|PP0000000003|20201007131500|EPE|ZS1|0"
unfolding ope ope_lines ope_records parts_joined digits places_within
none_faulty_lem = refl

-- What RKF asks: no identifier of its own; a source too short for one; 30 February; hour 24; no creation time; refusals that have no code. 31 is asked
-- before 30, and an output that is just long enough will do.
rkf_answers : ((rkf_into [] 20201007130000 (bytes "ZS1") 0 99).answer ∷ (rkf_into (bytes "PP0000000001") 20201007130000 (bytes "ZS") 0 99).answer ∷ [])
    ≡ Err 31 ∷ Err 31 ∷ []
unfolding rkf_into
rkf_answers = refl

moments : map (λ (created : ℕ). (rkf_into (bytes "PP0000000001") created (bytes "ZS1") 0 99).answer) (20201007130000 ∷ 20200230130000 ∷ 20201007240000 ∷ 0 ∷ [])
    ≡ Ok 53 ∷ Err 31 ∷ Err 31 ∷ Err 31 ∷ []
unfolding rkf_into
moments = refl

refusals : map (λ (refusal : ℕ). (rkf_into (bytes "PP0000000001") 20201007130000 (bytes "ZS1") refusal 64).answer) (0 ∷ 99 ∷ 100 ∷ 307 ∷ 308 ∷ 901 ∷ [])
    ≡ Ok 53 ∷ Err 31 ∷ Ok 64 ∷ Ok 64 ∷ Err 31 ∷ Err 31 ∷ []
unfolding rkf_into
refusals = refl

rooms : map (λ (room : ℕ). (rkf_into (bytes "PP0000000001") 20201007130000 (bytes "ZS1") 103 room).answer) (0 ∷ 63 ∷ 64 ∷ 65 ∷ [])
    ≡ Err 30 ∷ Err 30 ∷ Ok 64 ∷ Ok 64 ∷ []
unfolding rkf_into
rooms = refl

-- What OPE asks of ZS1: no book; an identifier that is not in it; none of its own; a day that there is not.
abbrev answer_to : Option Book → Ident → List ℕ → ℕ → Result ℕ ℕ
answer_to book ident own created = (ope_into book ident own created (308 ∷ []) 64).answer

ope_answers : answer_to none zs1 [] 0 ∷ answer_to (some (book_at calls 1)) (ident_of (bytes "ZS2")) [] 0
    ∷ answer_to (some (book_at calls 1)) zs1 [] 20201007131500 ∷ answer_to (some (book_at calls 1)) zs1 (bytes "PP0000000003") 20201032131500 ∷ []
    ≡ Err 10 ∷ Err 13 ∷ Err 31 ∷ Err 31 ∷ []
unfolding ope_into
ope_answers = refl

-- Codes: none; those at the edges; bad entries that no order needs.
codes_asked : map (λ (codes : List ℕ). (ope_into (some (book_at calls 1)) zs1 (bytes "PP0000000003") 20201007131500 codes 64).answer)
    ([] ∷ (307 ∷ []) ∷ (308 ∷ []) ∷ (336 ∷ []) ∷ (337 ∷ []) ∷ (308 ∷ 0 ∷ 9_999 ∷ []) ∷ [])
    ≡ Err 31 ∷ Err 31 ∷ Ok 64 ∷ Ok 64 ∷ Err 31 ∷ Ok 64 ∷ []
unfolding ope_into
codes_asked = refl

-- 30 is asked last, and leaves every byte.
ope_rooms : ope_into (some (book_at calls 1)) zs1 (bytes "PP0000000003") 20201007131500 (308 ∷ []) 63 ∷ ope_into (some (book_at calls 1)) zs1 (bytes "PP0000000003") 20201007131500 [] 63 ∷ []
    ≡ leaving (replicate 63 0) 30 ∷ leaving (replicate 63 0) 31 ∷ []
unfolding ope_into
ope_rooms = refl
