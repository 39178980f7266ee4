-- The fields of an order that stands in two texts, as the functions on its faults find them.
use Rattle.std.specs.Prelude.{cond, List, ℕ, ◌-◌, leb}
use Rattle.epe.specs.Questions.{Question}
use Rattle.epe.specs.File.{field}
use Rattle.contents.specs.Faults.{fault_questions}
use Rattle.contents.specs.declared.extra.ExtraSaid.{ExtraSaid}

-- Up to the eleventh in the front; field n behind it is field n - shift of the back. (A line by itself is both, without a shift.)
abbrev pub field_of_two : List ℕ → List ℕ → ℕ → ℕ → List ℕ
field_of_two front back shift n = cond (leb n 11) (field n front) (field (n - shift) back)

-- What is asked of them.
abbrev pub questions_of_two : List ℕ → List ℕ → ℕ → ExtraSaid → List Question
questions_of_two front back shift said = fault_questions (field_of_two front back shift) said
