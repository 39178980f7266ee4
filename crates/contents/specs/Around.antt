-- "Judge the extra address field early. .. Judge it first, in a call of its own that answers whether it is empty, whether it fails question 7 and
-- whether it starts or ends with a space." (document 02, A7) That answer is `said_of` (Faults.antt).
use Rattle.std.specs.Prelude.{◌≡◌, Bool, true, false, cond, not, ◌&&◌, List, [], ◌∷◌, ◌++◌, ℕ, ◌+◌, ◌-◌, eqb, leb, length, get_or, take, drop, Option, Result, Ok, Err}
use Rattle.text.specs.Bytes.{between, has_byte}
use Rattle.text.specs.Fields.{fields}
use Rattle.text.specs.Lines.{stray}
use Rattle.text.specs.Utf8.{well_formed}
use Rattle.text.specs.Utf8Parts.{parts_joined}
use Rattle.epe.specs.Questions.{◌else_no◌, asked}
use Rattle.epe.specs.File.{field}
use Rattle.epe.specs.Refusal.{number_of}
use Rattle.epe.specs.declared.refusal.Refusal.{Refusal}
use Rattle.contents.specs.Faults.{first_of, empty, said_of, fault_questions, first_fault, fault_of}
use Rattle.contents.specs.declared.extra.ExtraSaid.{ExtraSaid}
use Rattle.contents.specs.declared.faults.Fault.{Fault}

-- The number of the record's fault, 0 for none; or refused.
pub data Around : Type 0 where
  Found : ℕ → Around
  Refused : ℕ → Around

-- What code answers, with the paper's number for each fault and for each refusal.
abbrev pub around_of : Result (Option Fault) Refusal → Around
around_of (Ok fault) = Found (first_of fault)
around_of (Err refusal) = Refused (number_of refusal)

-- "A second call gets this answer and the record's bytes before and after the field, never the field itself, and gives the fault; .."
-- The record's field n: the bytes after begin with a bar, so that their second field is the record's thirteenth.
abbrev pub field_around : List ℕ → List ℕ → ℕ → List ℕ
field_around before after n = cond (leb n 11) (field n before) (field (n - 11) after)

-- "eleven fields, each ended by `|`"
unfoldable pub are_ended : ℕ → List ℕ → Bool
are_ended n s = eqb (length (fields 0x7C s)) (n + 1) && empty (field (n + 1) s)

-- "7 to 20, each begun by one"
unfoldable pub are_begun : ℕ → ℕ → List ℕ → Bool
are_begun low high s = between (low + 1) (high + 1) (length (fields 0x7C s)) && empty (field 1 s)

-- "well-formed UTF-8 without CR or LF"
unfoldable pub clean : List ℕ → Bool
clean s = well_formed s && not (stray s)

-- ".. 901 unless those before are eleven fields, each ended by `|`, those after 7 to 20, each begun by one, all well-formed UTF-8 without CR or LF."
unfoldable pub around : List ℕ → List ℕ → Bool
around before after = are_ended 11 before && (are_begun 7 20 after && (clean before && clean after))

unfoldable pub fault_around : ExtraSaid → List ℕ → List ℕ → Around
fault_around said before after =
    asked ((around before after else_no 901) ∷ []) Refused (Found (first_fault (fault_questions (field_around before after) said)))

-- A line cut around its twelfth field: before it eleven fields, each ended by a bar, and after it what its own bar begins.
pub record CutAround (line before more after : List ℕ) : Type 0 where
  pub whole : line ≡ before ++ (more ++ after)
  pub ended : are_ended 11 before ≡ true
  pub one_field : has_byte 0x7C more ≡ false
  pub begun : get_or after 0 0 ≡ 0x7C

-- A record line as intake meets it: "well-formed UTF-8 without CR or LF", and of 11 + 1 + 7 to 20 fields.
pub record RecordLine (line : List ℕ) : Type 0 where
  pub is_clean : clean line ≡ true
  pub fields_held : between 19 32 (length (fields 0x7C line)) ≡ true

-- "For every record it is still the lowest-numbered one." And 901 for no record.
abbrev pub JudgedEarly : Type 0
JudgedEarly = (line before more after : List ℕ) → RecordLine line → CutAround line before more after
    → fault_around (said_of more) before after ≡ Found (fault_of line)

-- Every record can be cut so.
abbrev pub before_extra : List ℕ → List ℕ
before_extra line = parts_joined (0x7C ∷ []) (take 11 (fields 0x7C line)) ++ (0x7C ∷ [])

abbrev pub after_extra : List ℕ → List ℕ
after_extra line = 0x7C ∷ parts_joined (0x7C ∷ []) (drop 12 (fields 0x7C line))

abbrev pub EveryLineIsCut : Type 0
EveryLineIsCut = (line : List ℕ) → between 19 32 (length (fields 0x7C line)) ≡ true
    → CutAround line (before_extra line) (field 12 line) (after_extra line)
