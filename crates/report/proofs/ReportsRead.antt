-- Both reports read back: their header, their records, and every value in them.
-- Assumes nothing.
use mathlib.Core.Path.{◌≡◌, refl, ◌∙◌, ap}
use mathlib.Core.Bool.{true, ◌&&◌, false≢true}
use mathlib.Core.List.{List, [], ◌∷◌, map}
use Prim.Native.Nat.{ℕ, zero, suc, ◌+◌, ◌-◌, ◌/◌, ◌^◌, ◌≤◌, ◌<◌}
use native.Mathlib.Omega.{arith}
use borrow.Author.Tests.{eq-eqb, ne_eqb, eqb-true, eqb-false, leb-true}
use lib.Dec.{eqb, leb}
use lib.ListN.{length, get_or, length-map}
use Rattle.text.specs.Bytes.{between, letter, letters_or_digits}
use Rattle.text.specs.Fields.{fields}
use Rattle.text.specs.Number.{number}
use Rattle.text.specs.Quoted.{bytes}
use Rattle.text.specs.Utf8.{ascii}
use Rattle.text.specs.Utf8Parts.{parts_joined}
use Rattle.text.proofs.Branches.{and_left, and_right, either_way}
use Rattle.calendar.specs.Calendar.{real}
use Rattle.epe.specs.Ident.{identifier}
use Rattle.epe.specs.File.{marked, header, records, field}
use Rattle.model.specs.Shipment.{most_rows}
use Rattle.model.proofs.FoundSound.{found_sound}
use Rattle.write.specs.Files.{line, file}
use Rattle.write.specs.Spelled.{places_of, spelled}
use Rattle.write.proofs.Spelling.{spelled_is_read, digits_are_read}
use Rattle.write.proofs.Plain.{is_plain, plain, all_plain, plain_fields, plain_row, letters_or_digits_plain, letter_then, digits_plain}
use Rattle.write.proofs.FullLines.{Full, AllFull, full_read, first_read, others_read, text_well_formed}
use Rattle.report.specs.Lines.{is_moment, header_of, record_of}
use Rattle.report.specs.Rkf.{rkf_lines, rkf, fits_rkf}
use Rattle.report.specs.Ope.{FaultyOrder, faulty_orders, code_for, ope_records, ope_lines, ope, are_coded, fits_ope, source_of}
use Rattle.report.specs.Read.{HeaderReads, RecordReads, RkfReadsBack, none_faulty, OpeReads, OpeReadsBack}
use Rattle.report.proofs.OpeAnswers.{source_formed}
use Rattle.report.proofs.FaultyListed.{few_faulty, numbers_below}

-- an identifier is plain
pub identifier_plain : (s : List ℕ) → identifier s ≡ true → plain s ≡ true
unfolding identifier plain
identifier_plain [] h = refl
identifier_plain (a ∷ []) h = absurd (false≢true (rw h))
identifier_plain (a ∷ b ∷ s) h =
    let rest = and_right (between 3 17 (length (a ∷ b ∷ s))) _ h in
    let letters = and_left (letter a && letter b) (letters_or_digits s) rest in
    letter_then a (b ∷ s) (and_left (letter a) (letter b) letters)
    (letter_then b s (and_right (letter a) (letter b) letters) (letters_or_digits_plain s (and_right (letter a && letter b) (letters_or_digits s) rest)))

-- a creation time has 14 digits
moment_below : (created : ℕ) → is_moment created ≡ true → created < 10 ^ 14
unfolding is_moment real
moment_below created h =
    let date = and_left (real (created / 1_000_000)) _ h in
    let years = and_left (between 2000 2099 (created / 1_000_000 / 10_000)) _ date in
    let last = leb-true (created / 1_000_000 / 10_000) 2099 (and_right (leb 2000 (created / 1_000_000 / 10_000)) _ years) in
    omega arith

-- the lines of a report are full
header_plain : (code own : List ℕ) (created : ℕ) (source outcome : List ℕ) → plain code ≡ true → plain own ≡ true → plain source ≡ true → plain outcome ≡ true
    → all_plain (header_of code own created source outcome) ≡ true
unfolding all_plain plain is_plain ascii
header_plain code own created source outcome a b c d = rw (a, b, c, d, digits_plain 14 created)

header_full : (code own : List ℕ) (created : ℕ) (source outcome : List ℕ) → plain code ≡ true → plain own ≡ true → plain source ≡ true → plain outcome ≡ true
    → Full (header_of code own created source outcome)
unfolding parts_joined
header_full code own created source outcome a b c d =
    let all = header_plain code own created source outcome a b c d in record {
      each_is_field = plain_fields (header_of code own created source outcome) all;
      each_well_formed = plain_row (header_of code own created source outcome) all;
      some = omega arith;
      not_empty = omega arith;
    }

record_plain : (running order code : ℕ) → all_plain (record_of running order code) ≡ true
unfolding all_plain plain is_plain ascii
record_plain running order code = rw (digits_plain (places_of running) running, digits_plain (places_of order) order, digits_plain 3 code)

record_full : (running order code : ℕ) → Full (record_of running order code)
unfolding parts_joined
record_full running order code =
    let all = record_plain running order code in record {
      each_is_field = plain_fields (record_of running order code) all;
      each_well_formed = plain_row (record_of running order code) all;
      some = omega arith;
      not_empty = omega arith;
    }

-- a header read back, whatever stands behind it, and its last field
module _ (code own : List ℕ) (created : ℕ) (source outcome : List ℕ) (rows : List (List (List ℕ)))
    (full : AllFull (header_of code own created source outcome ∷ rows)) (moment : is_moment created ≡ true) where
  abbrev report : List ℕ
  report = file (header_of code own created source outcome ∷ rows)

  header_fields : fields 0x7C (header report) ≡ header_of code own created source outcome
  header_fields = first_read (header_of code own created source outcome) rows full

  header_field : (n : ℕ) → field n (header report) ≡ get_or (header_of code own created source outcome) (n - 1) []
  header_field n = ap (λ (row : List (List ℕ)). get_or row (n - 1) []) header_fields

  pub header_reads : HeaderReads report code own created source
  unfolding marked
  header_reads = record {
    is_marked = refl;
    well_formed_holds = text_well_formed (header_of code own created source outcome) rows full;
    nine = ap (λ (row : List (List ℕ)). length row) header_fields;
    is_header = header_field 1;
    sender = header_field 2;
    file_code = header_field 3;
    edition = header_field 4;
    own_read = header_field 5;
    created_read = ap (λ (s : List ℕ). number 14 14 s) (header_field 6) ∙ digits_are_read 14 created (omega arith) (moment_below created moment);
    source_code = header_field 7;
    source_read = header_field 8;
  }

  pub outcome_read : field 9 (header report) ≡ outcome
  outcome_read = header_field 9

-- a record read back
pub record_reads : (running order code : ℕ) → running < 10 ^ 10 → order < 10 ^ 6 → code < 10 ^ 3 → RecordReads (line (record_of running order code)) running order code
record_reads running order code r o c =
    let read = full_read (record_of running order code) (record_full running order code) in record {
      four = ap (λ (row : List (List ℕ)). length row) read;
      is_record = ap (λ (row : List (List ℕ)). get_or row 0 []) read;
      running_read = ap (λ (row : List (List ℕ)). number 1 10 (get_or row 1 [])) read ∙ spelled_is_read 1 10 running (omega arith) (omega arith) (omega arith) r;
      order_read = ap (λ (row : List (List ℕ)). number 1 6 (get_or row 2 [])) read ∙ spelled_is_read 1 6 order (omega arith) (omega arith) (omega arith) o;
      code_read = ap (λ (row : List (List ℕ)). number 3 3 (get_or row 3 [])) read ∙ digits_are_read 3 code (omega arith) c;
    }

-- RKF
module _ (own : List ℕ) (created : ℕ) (source : List ℕ) (refusal : ℕ) (fits : fits_rkf own created source refusal ≡ true) where
  own_in_form : identifier own ≡ true
  unfolding fits_rkf
  own_in_form = and_left (identifier own) _ fits

  source_in_form : identifier source ≡ true
  unfolding fits_rkf
  source_in_form = and_left (identifier source) _ (and_right (identifier own) _ fits)

  moment : is_moment created ≡ true
  unfolding fits_rkf
  moment = and_left (is_moment created) _ (and_right (identifier source) _ (and_right (identifier own) _ fits))

  code_below : (refusal ≡ 0 → ⊥) → refusal < 10 ^ 3
  unfolding fits_rkf
  code_below not_zero =
      let either = and_right (is_moment created) _ (and_right (identifier source) _ (and_right (identifier own) _ fits)) in
      let coded : between 100 307 refusal ≡ true = rw (ne_eqb refusal 0 not_zero) at either in
      let last = leb-true refusal 307 (and_right (leb 100 refusal) _ coded) in
      omega arith

  -- by what it comes to
  module _ (result : List ℕ) (rows : List (List (List ℕ))) (is : rkf own created source refusal ≡ file (header_of (bytes "RKF") own created source result ∷ rows))
      (plain_result : plain result ≡ true) (full_rows : AllFull rows) where
    full : AllFull (header_of (bytes "RKF") own created source result ∷ rows)
    unfolding plain is_plain ascii
    full = (
      header_full (bytes "RKF") own created source result refl (identifier_plain own own_in_form) (identifier_plain source source_in_form) plain_result,
      full_rows,
    )

    rkf_header : HeaderReads (rkf own created source refusal) (bytes "RKF") own created source
    rkf_header = rw is (header_reads (bytes "RKF") own created source result rows full moment)

    rkf_result : field 9 (header (rkf own created source refusal)) ≡ result
    rkf_result = rw is (outcome_read (bytes "RKF") own created source result rows full moment)

    rkf_records : records (rkf own created source refusal) ≡ map line rows
    rkf_records = rw is (others_read (header_of (bytes "RKF") own created source result) rows full)

  rkf_good : refusal ≡ 0 → rkf own created source refusal ≡ file (header_of (bytes "RKF") own created source (bytes "1") ∷ [])
  unfolding rkf rkf_lines
  rkf_good zero_is = rw (eq-eqb refusal 0 zero_is)

  rkf_bad : (refusal ≡ 0 → ⊥)
      → rkf own created source refusal ≡ file (header_of (bytes "RKF") own created source (bytes "0") ∷ record_of 1 0 refusal ∷ [])
  unfolding rkf rkf_lines
  rkf_bad not_zero = rw (ne_eqb refusal 0 not_zero)

  when_good : refusal ≡ 0 → HeaderReads (rkf own created source refusal) (bytes "RKF") own created source
      × (field 9 (header (rkf own created source refusal)) ≡ bytes "1") × (records (rkf own created source refusal) ≡ [])
  unfolding plain is_plain ascii
  when_good zero_is =
      let is = rkf_good zero_is in
      (rkf_header (bytes "1") [] is refl tt, rkf_result (bytes "1") [] is refl tt, rkf_records (bytes "1") [] is refl tt)

  when_bad : (refusal ≡ 0 → ⊥) → HeaderReads (rkf own created source refusal) (bytes "RKF") own created source
      × (field 9 (header (rkf own created source refusal)) ≡ bytes "0") × (records (rkf own created source refusal) ≡ line (record_of 1 0 refusal) ∷ [])
  unfolding plain is_plain ascii
  when_bad not_zero =
      let is = rkf_bad not_zero in
      let rows = record_of 1 0 refusal ∷ [] in
      let full : AllFull (record_of 1 0 refusal ∷ []) = (record_full 1 0 refusal, tt) in
      (rkf_header (bytes "0") rows is refl full, rkf_result (bytes "0") rows is refl full, rkf_records (bytes "0") rows is refl full)

pub rkf_reads_back : RkfReadsBack
rkf_reads_back own created source refusal fits = record {
  header_read = either_way (eqb refusal 0)
      (λ zero_is. (when_good own created source refusal fits (eqb-true refusal 0 zero_is)).0)
      (λ not_zero. (when_bad own created source refusal fits (eqb-false refusal 0 not_zero)).0);
  accepted = λ zero_is. let good = when_good own created source refusal fits zero_is in (good.1, good.2);
  refused = λ not_zero.
      let bad = when_bad own created source refusal fits not_zero in (
        bad.1,
        ap (λ (all : List (List ℕ)). length all) bad.2,
        rw bad.2 (record_reads 1 0 refusal (omega arith) (omega arith) (code_below own created source refusal fits not_zero)),
      );
}

-- OPE: its records
records_full : (codes : List ℕ) (running : ℕ) (orders : List FaultyOrder) → AllFull (ope_records codes running orders)
unfolding ope_records
records_full codes running [] = tt
records_full codes running (order ∷ orders) =
    (record_full running order.number (code_for codes order.fault), records_full codes (running + 1) orders)

as_many_records : (codes : List ℕ) (running : ℕ) (orders : List FaultyOrder) → length (ope_records codes running orders) ≡ length orders
unfolding ope_records
as_many_records codes running [] = refl
as_many_records codes running (order ∷ orders) = ap suc (as_many_records codes (running + 1) orders)

record_at : (codes : List ℕ) (running : ℕ) (orders : List FaultyOrder) (k : ℕ) → k < length orders
    → get_or (map line (ope_records codes running orders)) k [] ≡ line (record_of (running + k) (get_or orders k none_faulty).number (code_for codes (get_or orders k none_faulty).fault))
unfolding ope_records
record_at codes running [] k h = absurd (omega (arith, h))
record_at codes running (order ∷ orders) zero h =
    let same : running + 0 ≡ running = omega arith in rw same
record_at codes running (order ∷ orders) (suc k) h =
    let next : running + suc k ≡ running + 1 + k = omega arith in rw next (record_at codes (running + 1) orders k (omega arith))

code_below_at : (codes : List ℕ) (orders : List FaultyOrder) → are_coded codes orders ≡ true → (k : ℕ) → k < length orders
    → code_for codes (get_or orders k none_faulty).fault < 10 ^ 3
unfolding are_coded
code_below_at codes [] h k less = absurd (omega (arith, less))
code_below_at codes (order ∷ orders) h zero less =
    let code = code_for codes order.fault in
    let last = leb-true code 336 (and_right (leb 308 code) _ (and_left (between 308 336 code) _ h)) in
    omega arith
code_below_at codes (order ∷ orders) h (suc k) less =
    code_below_at codes orders (and_right (between 308 336 (code_for codes order.fault)) _ h) k (omega arith)

-- of any faulty orders that are numbered so
module _ (own : List ℕ) (created : ℕ) (codes source : List ℕ) (orders : List FaultyOrder) (fits : fits_ope own created codes orders ≡ true)
    (formed : identifier source ≡ true) (few : length orders ≤ most_rows) (numbers : (k : ℕ) → (get_or orders k none_faulty).number < 10 ^ 6) where
  abbrev outcome : List ℕ
  outcome = spelled (length orders)

  abbrev rows : List (List (List ℕ))
  rows = ope_records codes 1 orders

  ope_moment : is_moment created ≡ true
  unfolding fits_ope
  ope_moment = and_left (is_moment created) _ (and_right (identifier own) _ fits)

  ope_coded : are_coded codes orders ≡ true
  unfolding fits_ope
  ope_coded = and_right (is_moment created) _ (and_right (identifier own) _ fits)

  ope_own_formed : identifier own ≡ true
  unfolding fits_ope
  ope_own_formed = and_left (identifier own) _ fits

  ope_full : AllFull (header_of (bytes "OPE") own created source outcome ∷ rows)
  unfolding plain is_plain ascii
  ope_full = (
    header_full (bytes "OPE") own created source outcome refl (identifier_plain own ope_own_formed) (identifier_plain source formed)
        (digits_plain (places_of (length orders)) (length orders)),
    records_full codes 1 orders,
  )

  ope_records_lem : records (ope own created codes source orders) ≡ map line rows
  unfolding ope ope_lines
  ope_records_lem = others_read (header_of (bytes "OPE") own created source outcome) rows ope_full

  pub ope_reads : OpeReads (ope own created codes source orders) own created codes source orders
  unfolding ope ope_lines
  ope_reads = record {
    header_read = header_reads (bytes "OPE") own created source outcome rows ope_full ope_moment;
    count_read = ap (λ (s : List ℕ). number 1 6 s) (outcome_read (bytes "OPE") own created source outcome rows ope_full ope_moment)
        ∙ spelled_is_read 1 6 (length orders) (omega arith) (omega arith) (omega arith) (omega arith);
    as_many = ap (λ (all : List (List ℕ)). length all) ope_records_lem ∙ length-map rows line ∙ as_many_records codes 1 orders;
    each = λ k less.
        let next : 1 + k ≡ k + 1 = omega arith in
        let row = ap (λ (all : List (List ℕ)). get_or all k []) ope_records_lem ∙ record_at codes 1 orders k less in
        rw (row, next)
        (record_reads (k + 1) (get_or orders k none_faulty).number (code_for codes (get_or orders k none_faulty).fault) (omega arith) (numbers k) (code_below_at codes orders ope_coded k less));
  }

pub ope_reads_back : OpeReadsBack
ope_reads_back book ident s is_sound is_found own created codes fits =
    let found = found_sound book ident s is_sound is_found in
    ope_reads own created codes (source_of s) (faulty_orders s) fits (source_formed s found.0) (let few = few_faulty 1 s.rows in let all = found.1 in omega arith)
    (λ k. numbers_below 1 s.rows (10 ^ 6) (omega arith) (let all = found.1 in omega arith) k)
