-- "Reading a written file back field by field gives the values put in, for every value that its field allows." (document 02, A2): by the definitions
-- that read an order file.
use Rattle.std.specs.Prelude.{◌≡◌, true, List, [], ℕ, ◌+◌, ◌<◌, length, get_or}
use Rattle.std.proofs.Math.Option.{some}
use Rattle.text.specs.Fields.{fields}
use Rattle.text.specs.Number.{number}
use Rattle.text.specs.Quoted.{bytes}
use Rattle.text.specs.Utf8.{well_formed}
use Rattle.std.specs.Prelude.{Some}
use Rattle.epe.specs.File.{marked, text, header, records, field}
use Rattle.epe.specs.declared.ident.Ident.{Ident}
use Rattle.model.specs.Shipment.{Shipment}
use Rattle.model.specs.Book.{Book, find}
use Rattle.model.specs.Sound.{sound}
use Rattle.report.specs.Rkf.{rkf, fits_rkf}
use Rattle.report.specs.Ope.{FaultyOrder, faulty_orders, code_for, ope, fits_ope, source_of}

-- The byte mark is there, the text behind it is well formed, and the header's fields but the last say what was put in.
pub record HeaderReads (report code own : List ℕ) (created : ℕ) (source : List ℕ) : Type 0 where
  pub is_marked : marked report ≡ true
  pub well_formed_holds : well_formed (text report) ≡ true
  pub nine : length (fields 0x7C (header report)) ≡ 9
  pub is_header : field 1 (header report) ≡ bytes "1"
  pub sender : field 2 (header report) ≡ bytes "PP"
  pub file_code : field 3 (header report) ≡ code
  pub edition : field 4 (header report) ≡ bytes "1.0"
  pub own_read : field 5 (header report) ≡ own
  pub created_read : number 14 14 (field 6 (header report)) ≡ Some created
  pub source_code : field 7 (header report) ≡ bytes "EPE"
  pub source_read : field 8 (header report) ≡ source

-- And a record's.
pub record RecordReads (line : List ℕ) (running order code : ℕ) : Type 0 where
  pub four : length (fields 0x7C line) ≡ 4
  pub is_record : field 1 line ≡ bytes "2"
  pub running_read : number 1 10 (field 2 line) ≡ Some running
  pub order_read : number 1 6 (field 3 line) ≡ Some order
  pub code_read : number 3 3 (field 4 line) ≡ Some code

-- RKF, of a file that was accepted and of one that was refused.
pub record RkfReads (report own : List ℕ) (created : ℕ) (source : List ℕ) (refusal : ℕ) : Type 0 where
  pub header_read : HeaderReads report (bytes "RKF") own created source
  pub accepted : refusal ≡ 0 → (field 9 (header report) ≡ bytes "1") × (records report ≡ [])
  pub refused : (refusal ≡ 0 → ⊥)
      → (field 9 (header report) ≡ bytes "0") × (length (records report) ≡ 1) × RecordReads (get_or (records report) 0 []) 1 0 refusal

abbrev pub RkfReadsBack : Type 0
RkfReadsBack = (own : List ℕ) (created : ℕ) (source : List ℕ) (refusal : ℕ) → fits_rkf own created source refusal ≡ true
    → RkfReads (rkf own created source refusal) own created source refusal

-- OPE, of any shipment of a sound book: how many orders are faulty, and a record to each.
abbrev pub none_faulty : FaultyOrder
none_faulty = record { number = 0; fault = 0 }

pub record OpeReads (report own : List ℕ) (created : ℕ) (codes source : List ℕ) (orders : List FaultyOrder) : Type 0 where
  pub header_read : HeaderReads report (bytes "OPE") own created source
  pub count_read : number 1 6 (field 9 (header report)) ≡ Some (length orders)
  pub as_many : length (records report) ≡ length orders
  pub each : (k : ℕ) → k < length orders
      → RecordReads (get_or (records report) k []) (k + 1) (get_or orders k none_faulty).number (code_for codes (get_or orders k none_faulty).fault)

abbrev pub OpeReadsBack : Type 0
OpeReadsBack = (book : Book) (ident : Ident) (s : Shipment) → sound book ≡ true → find ident book ≡ some s
    → (own : List ℕ) (created : ℕ) (codes : List ℕ) → fits_ope own created codes (faulty_orders s) ≡ true
    → OpeReads (ope own created codes (source_of s) (faulty_orders s)) own created codes (source_of s) (faulty_orders s)
