-- The terms of the kind that a header states are those of its name's kind, where the opening passed: field 10 is the name's fourth part.
-- Assumes nothing.
use mathlib.Core.Path.{◌≡◌, refl, ap}
use mathlib.Core.List.{List, ◌++◌}
use Prim.Native.Nat.{ℕ}
use lib.Dec.{leb}
use mathlib.Core.Bool.{true}
use Rattle.std.specs.Prelude.{Option, Some, None, is_some}
use Rattle.std.specs.Option.{unwrap_or}
use Rattle.text.specs.Number.{number}
use Rattle.text.proofs.Branches.{and_left}
use Rattle.text.proofs.Same.{same_equal}
use Rattle.epe.specs.Name.{name_part, name_questions, name_of}
use Rattle.epe.specs.Opening.{file_questions, fixed_questions, repeated_questions, opening_questions, opening}
use Rattle.epe.specs.File.{header, field}
use Rattle.epe.specs.Profile.{terms_for}
use Rattle.epe.specs.declared.profile.Profile.{Profile}
use Rattle.epe.specs.Questions.{Passed}
use Rattle.epe.proofs.QuestionLaws.{all_yes, yes_behind}
use Rattle.contents.specs.Contents.{stated_kind, stated_terms}

-- what is read is read, whatever stands for nothing
read_alike : (digit : Option ℕ) → is_some digit ≡ true → unwrap_or digit 5 ≡ unwrap_or digit 0
read_alike (Some n) h = refl
read_alike None h = cc

pub stated_kind_lem : (name file : List ℕ) → opening name file ≡ Passed → stated_kind (header file) ≡ (name_of name).kind
unfolding opening opening_questions name_questions file_questions fixed_questions repeated_questions name_of
stated_kind_lem name file passed =
    let line = header file in
    let behind = fixed_questions line ++ repeated_questions name line in
    let named = yes_behind (file_questions file) (name_questions name ++ behind) (all_yes (opening_questions name file) passed) in
    let digit = number 1 1 (name_part 4 name) in
    let read = and_left (is_some digit) (leb (unwrap_or digit 0) 4) named.1.1.1.1.1.1.0 in
    let repeated = yes_behind (fixed_questions line) (repeated_questions name line) (yes_behind (name_questions name) behind named) in
    let tenth = same_equal (field 10 line) (name_part 4 name) repeated.1.1.1.0 in
    rw tenth (read_alike digit read)

pub stated_terms_lem : (profile : Profile) (name file : List ℕ) → opening name file ≡ Passed
    → stated_terms profile (header file) ≡ terms_for profile (name_of name).kind
stated_terms_lem profile name file passed = ap (terms_for profile) (stated_kind_lem name file passed)
