-- A file of lines none of which is empty, read back: its first line, the others, and that its text is well formed.
-- Assumes nothing.
use mathlib.Core.Path.{◌≡◌, refl, ◌∙◌, ap}
use mathlib.Core.Bool.{true, not}
use mathlib.Core.List.{List, [], ◌∷◌, map}
use Prim.Native.Nat.{ℕ, ◌<◌}
use native.Mathlib.Omega.{arith}
use borrow.Author.Tests.{ne_eqb}
use lib.Dec.{eqb}
use lib.ListN.{length, get_or, drop}
use Rattle.text.specs.Fields.{fields}
use Rattle.text.specs.Lines.{lines}
use Rattle.text.specs.Utf8.{well_formed}
use Rattle.text.proofs.Branches.{both_yes}
use Rattle.write.specs.Files.{line, file, are_fields, is_line, are_lines, are_well_formed, all_well_formed}
use Rattle.write.proofs.ReadingBack.{line_read, reads_back}
use Rattle.write.proofs.WellFormed.{written_is_well_formed}

-- A line of fields, well formed and not empty.
pub record Full (row : List (List ℕ)) : Type 0 where
  pub each_is_field : are_fields row ≡ true
  pub each_well_formed : are_well_formed row ≡ true
  pub some : 0 < length row
  pub not_empty : 0 < length (line row)

abbrev pub AllFull : List (List (List ℕ)) → Type 0
AllFull [] = Unit {0}
AllFull (row ∷ rows) = Full row × AllFull rows

above_zero : (n : ℕ) → 0 < n → not (eqb n 0) ≡ true
above_zero n h = rw (ne_eqb n 0 (λ e. omega arith))

is_line_lem : (row : List (List ℕ)) → Full row → is_line row ≡ true
is_line_lem row full = both_yes (not (eqb (length row) 0)) (are_fields row) (above_zero (length row) full.some) full.each_is_field

are_lines_lem : (row : List (List ℕ)) (rows : List (List (List ℕ))) → AllFull (row ∷ rows) → are_lines (row ∷ rows) ≡ true
unfolding are_lines
are_lines_lem row [] full = both_yes (is_line row) (not (eqb (length (line row)) 0)) (is_line_lem row full.0) (above_zero (length (line row)) full.0.not_empty)
are_lines_lem row (next ∷ rows) full = both_yes (is_line row) (are_lines (next ∷ rows)) (is_line_lem row full.0) (are_lines_lem next rows full.1)

all_well_formed_lem : (rows : List (List (List ℕ))) → AllFull rows → all_well_formed rows ≡ true
unfolding all_well_formed
all_well_formed_lem [] full = refl
all_well_formed_lem (row ∷ rows) full = both_yes (are_well_formed row) (all_well_formed rows) full.0.each_well_formed (all_well_formed_lem rows full.1)

pub full_read : (row : List (List ℕ)) → Full row → fields 0x7C (line row) ≡ row
full_read row full = line_read row full.some full.each_is_field

module _ (row : List (List ℕ)) (rows : List (List (List ℕ))) (full : AllFull (row ∷ rows)) where
  pub first_read : fields 0x7C (get_or (lines (drop 3 (file (row ∷ rows)))) 0 []) ≡ row
  first_read =
      ap (λ (all : List (List ℕ)). fields 0x7C (get_or all 0 [])) (reads_back (row ∷ rows) (are_lines_lem row rows full)).0 ∙ full_read row full.0

  pub others_read : drop 1 (lines (drop 3 (file (row ∷ rows)))) ≡ map line rows
  others_read = ap (λ (all : List (List ℕ)). drop 1 all) (reads_back (row ∷ rows) (are_lines_lem row rows full)).0

  pub text_well_formed : well_formed (drop 3 (file (row ∷ rows))) ≡ true
  text_well_formed = (written_is_well_formed (row ∷ rows) (all_well_formed_lem (row ∷ rows) full)).1
