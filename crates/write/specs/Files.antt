-- Files that are written: lines of fields, read back by the definitions that read an order file.
use Rattle.std.specs.Prelude.{◌≡◌, Bool, true, false, not, ◌&&◌, ◌||◌, List, [], ◌∷◌, map, ℕ, eqb, length, drop}
use Rattle.text.specs.Bytes.{has_byte}
use Rattle.text.specs.Fields.{fields}
use Rattle.text.specs.Lines.{lines}
use Rattle.text.specs.Utf8.{well_formed}
use Rattle.text.specs.Utf8Parts.{parts_joined}

-- A line is its fields joined by a bar, 7C, with none at its end.
abbrev pub line : List (List ℕ) → List ℕ
line row = parts_joined (0x7C ∷ []) row

-- A file is the byte mark, then its lines joined by CR LF; ".. no CR LF after the last line" (document 02, A2).
abbrev pub file : List (List (List ℕ)) → List ℕ
file rows = 0xEF ∷ 0xBB ∷ 0xBF ∷ parts_joined (0x0D ∷ 0x0A ∷ []) (map line rows)

-- A field without a bar, CR or LF; a line of such fields, at least one; lines of them, at least one, the last of which is not empty.
unfoldable pub is_field : List ℕ → Bool
is_field field = not (has_byte 0x7C field || (has_byte 0x0D field || has_byte 0x0A field))

unfoldable pub are_fields : List (List ℕ) → Bool
are_fields [] = true
are_fields (field ∷ row) = is_field field && are_fields row

abbrev pub is_line : List (List ℕ) → Bool
is_line row = not (eqb (length row) 0) && are_fields row

unfoldable pub are_lines : List (List (List ℕ)) → Bool
are_lines [] = false
are_lines (row ∷ []) = is_line row && not (eqb (length (line row)) 0)
are_lines (row ∷ next ∷ rows) = is_line row && are_lines (next ∷ rows)

-- ".. shown for any list of fields. Reading a written file back field by field gives the values put in": its lines are the lines that were
-- written, and the fields of each are its fields.
abbrev pub ReadsBack : Type 0
ReadsBack = (rows : List (List (List ℕ))) → are_lines rows ≡ true
    → (lines (drop 3 (file rows)) ≡ map line rows) × (map (fields 0x7C) (lines (drop 3 (file rows))) ≡ rows)

-- It is well-formed UTF-8 where each field is, and so is the text behind its byte mark.
unfoldable pub are_well_formed : List (List ℕ) → Bool
are_well_formed [] = true
are_well_formed (field ∷ row) = well_formed field && are_well_formed row

unfoldable pub all_well_formed : List (List (List ℕ)) → Bool
all_well_formed [] = true
all_well_formed (row ∷ rows) = are_well_formed row && all_well_formed rows

abbrev pub WrittenIsWellFormed : Type 0
WrittenIsWellFormed = (rows : List (List (List ℕ))) → all_well_formed rows ≡ true
    → (well_formed (file rows) ≡ true) × (well_formed (drop 3 (file rows)) ≡ true)
