-- "Lengths count code points, not bytes": of every field of a file whose text is well formed.
use Rattle.std.specs.Prelude.{◌≡◌, true, ◌&&◌, List, [], ℕ, length, get_or}
use Rattle.text.specs.Lines.{lines}
use Rattle.text.specs.Utf8.{well_formed, code_points, decoded}
use Rattle.epe.specs.File.{marked, text, field}

-- A text whose length is the number of characters that a decoder steps over.
pub record CharactersCounted (s : List ℕ) : Type 0 where
  pub well_formed_holds : well_formed s ≡ true
  pub characters : code_points s ≡ length (decoded s)

-- "Byte mark present, the rest well-formed UTF-8? 034": where that is answered yes, so is every field n of every line k of the file, the header's and
-- the records'.
abbrev pub FieldsAreCounted : Type 0
FieldsAreCounted = (file : List ℕ) → (marked file && well_formed (text file)) ≡ true → (k n : ℕ) → CharactersCounted (field n (get_or (lines (text file)) k []))
