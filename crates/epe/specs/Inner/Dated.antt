-- What functions on a name's parts promise: they are lent its second part apart, and read the name as if that stood in it.
use Rattle.std.specs.Prelude.{◌≡◌, true, ◌&&◌, ◌||◌, List, [], ◌∷◌, ℕ, ◌+◌, eqb, leb, length, get_or, take, is_some}
use Rattle.std.specs.Option.{unwrap_or}
use Rattle.text.specs.Bytes.{same}
use Rattle.text.specs.Quoted.{bytes}
use Rattle.text.specs.Number.{number}
use Rattle.text.specs.Fields.{fields}
use Rattle.calendar.specs.Calendar.{real}
use Rattle.epe.specs.Ident.{identifier, ident_of}
use Rattle.epe.specs.Questions.{Question, ◌else_no◌}
use Rattle.epe.specs.Name.{name_part, name_ident}
use Rattle.epe.specs.declared.name.Name.{Name}

-- The questions of a name, and its parts, with this second part in place of its own.
unfoldable pub dated_questions : List ℕ → List ℕ → List Question
dated_questions name date =
    (eqb (length (fields 0x2D name)) 4 else_no 3)
    ∷ (same (take 3 name) (bytes "EPE") else_no 7)
    ∷ (eqb (get_or name 3 0) 0x5A else_no 10)
    ∷ (identifier (name_ident name) else_no 13)
    ∷ (is_some (number 6 6 date) && real (20000000 + unwrap_or (number 6 6 date) 0) else_no 16)
    ∷ (same (name_part 3 name) (bytes "A") || same (name_part 3 name) (bytes "B") else_no 19)
    ∷ (is_some (number 1 1 (name_part 4 name)) && leb (unwrap_or (number 1 1 (name_part 4 name)) 0) 4 else_no 22)
    ∷ []

unfoldable pub dated_name : List ℕ → List ℕ → Name
dated_name name date = record {
  ident = ident_of (name_ident name);
  date = record { 0 = 20000000 + unwrap_or (number 6 6 date) 0 };
  payment = get_or (name_part 3 name) 0 0;
  kind = unwrap_or (number 1 1 (name_part 4 name)) 0;
}

-- `meant` is a name with another second part, as far as a name's questions can tell.
pub record Dated (name date meant : List ℕ) : Type 0 where
  pub parts : length (fields 0x2D meant) ≡ length (fields 0x2D name)
  pub first : name_part 1 meant ≡ name_part 1 name
  pub second : name_part 2 meant ≡ date
  pub third : name_part 3 meant ≡ name_part 3 name
  pub fourth : name_part 4 meant ≡ name_part 4 name
  pub start : same (take 3 meant) (bytes "EPE") ≡ same (take 3 name) (bytes "EPE")
  pub behind : same (take 3 name) (bytes "EPE") ≡ true → get_or meant 3 0 ≡ get_or name 3 0
