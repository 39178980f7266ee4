-- What is written of well-formed texts is well formed.
-- Assumes nothing.
use mathlib.Core.Path.{◌≡◌, refl}
use mathlib.Core.Bool.{true}
use mathlib.Core.List.{List, [], ◌∷◌, ◌++◌, map}
use Prim.Native.Nat.{ℕ}
use Rattle.text.specs.Utf8.{ascii, tail_octet, lead2, lead3, lead4, point2, point3, point4, surrogate, range2, range3, range4, row2, row3, row4}
use Rattle.text.specs.Utf8.{width, well_formed_after, well_formed}
use Rattle.text.specs.Utf8Parts.{parts_joined}
use Rattle.text.proofs.Branches.{and_left, and_right, both_yes}
use Rattle.text.proofs.Utf8Joined.{joined_well_formed}
use Rattle.write.specs.Files.{line, are_well_formed, all_well_formed, WrittenIsWellFormed}

module _ (between : List ℕ) (is : well_formed between ≡ true) where
  parts_well_formed : (parts : List (List ℕ)) → are_well_formed parts ≡ true → well_formed (parts_joined between parts) ≡ true
  unfolding are_well_formed parts_joined well_formed_after
  parts_well_formed [] h = refl
  parts_well_formed (part ∷ []) h = and_left (well_formed part) true h
  parts_well_formed (part ∷ next ∷ parts) h =
      joined_well_formed part (between ++ parts_joined between (next ∷ parts)) (and_left (well_formed part) (are_well_formed (next ∷ parts)) h)
      (joined_well_formed between (parts_joined between (next ∷ parts)) is (parts_well_formed (next ∷ parts) (and_right (well_formed part) (are_well_formed (next ∷ parts)) h)))

-- a bar, CR LF and the byte mark
parting_well_formed : (well_formed (0x7C ∷ []) ≡ true) × (well_formed (0x0D ∷ 0x0A ∷ []) ≡ true) × (well_formed (0xEF ∷ 0xBB ∷ 0xBF ∷ []) ≡ true)
unfolding well_formed_after width ascii tail_octet lead2 lead3 lead4 point2 point3 point4 surrogate range2 range3 range4 row2 row3 row4
parting_well_formed = (refl, refl, refl)

lines_well_formed : (rows : List (List (List ℕ))) → all_well_formed rows ≡ true → are_well_formed (map line rows) ≡ true
unfolding all_well_formed are_well_formed
lines_well_formed [] h = refl
lines_well_formed (row ∷ rows) h =
    both_yes (well_formed (line row)) (are_well_formed (map line rows))
    (parts_well_formed (0x7C ∷ []) parting_well_formed.0 row (and_left (are_well_formed row) (all_well_formed rows) h))
    (lines_well_formed rows (and_right (are_well_formed row) (all_well_formed rows) h))

pub written_is_well_formed : WrittenIsWellFormed
written_is_well_formed rows h =
    let text = parts_well_formed (0x0D ∷ 0x0A ∷ []) parting_well_formed.1 (map line rows) (lines_well_formed rows h) in
    (joined_well_formed (0xEF ∷ 0xBB ∷ 0xBF ∷ []) (parts_joined (0x0D ∷ 0x0A ∷ []) (map line rows)) parting_well_formed.2 text, text)
