-- The opening of an intake: the file's first questions, those of its name, and the header's fields that the name repeats.
-- Header fields: 1 mark, 2 sender, 3 file code, 4 edition, 5 identifier, 6 unit, 7 created, 8 benefit date, 9 payment kind, 10 benefit kind,
-- 11 order count, 12 sum.
use Rattle.std.specs.Prelude.{not, ◌&&◌, List, [], ◌∷◌, ◌++◌, ℕ, ltb, eqb, length}
use Rattle.text.specs.Bytes.{same}
use Rattle.text.specs.Quoted.{bytes}
use Rattle.text.specs.Utf8.{well_formed}
use Rattle.text.specs.Fields.{fields}
use Rattle.text.specs.Lines.{stray}
use Rattle.epe.specs.Questions.{Question, ◌else_no◌, Verdict, first_no}
use Rattle.epe.specs.Name.{name_part, name_ident, name_questions}
use Rattle.epe.specs.File.{marked, text, header, field}

unfoldable pub file_questions : List ℕ → List Question
file_questions file =
    -- "File longer than 0 bytes? 001"
    (ltb 0 (length file) else_no 1)
    -- "Byte mark present, the rest well-formed UTF-8? 034"
    ∷ (marked file && well_formed (text file) else_no 34)
    ∷ []

unfoldable pub fixed_questions : List ℕ → List Question
fixed_questions line =
    -- "Header has 12 fields, no stray CR or LF? 004"
    (eqb (length (fields 0x7C line)) 12 && not (stray line) else_no 4)
    -- "Field 1 is `1`? 005"
    ∷ (same (field 1 line) (bytes "1") else_no 5)
    -- "Field 2 is `ZUS`? 011"
    ∷ (same (field 2 line) (bytes "ZUS") else_no 11)
    -- "Field 3 is `EPE`? 008"
    ∷ (same (field 3 line) (bytes "EPE") else_no 8)
    -- "Field 4 is `1.0`? 099"
    ∷ (same (field 4 line) (bytes "1.0") else_no 99)
    ∷ []

unfoldable pub repeated_questions : List ℕ → List ℕ → List Question
repeated_questions name line =
    -- "Field 5 equals the name's identifier? 014"
    (same (field 5 line) (name_ident name) else_no 14)
    -- "Field 8 equals `20` + the name's date? 017"
    ∷ (same (field 8 line) (bytes "20" ++ name_part 2 name) else_no 17)
    -- "Field 9 as in the name? 020"
    ∷ (same (field 9 line) (name_part 3 name) else_no 20)
    -- "Field 10 as in the name? 023"
    ∷ (same (field 10 line) (name_part 4 name) else_no 23)
    ∷ []

-- The questions 001 to 023, in order.
unfoldable pub opening_questions : List ℕ → List ℕ → List Question
opening_questions name file =
    file_questions file ++ (name_questions name ++ (fixed_questions (header file) ++ repeated_questions name (header file)))

unfoldable pub opening : List ℕ → List ℕ → Verdict
opening name file = first_no (opening_questions name file)
