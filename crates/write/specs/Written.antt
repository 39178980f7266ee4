-- What is stored in a lent output, and what a writer answers.
use Rattle.std.specs.Prelude.{List, [], ◌∷◌, ◌++◌, ℕ, ◌+◌, leb, length, take, drop, Result, Ok, Err}
use Rattle.epe.specs.Questions.{Question, ◌else_no◌, asked}

-- A text put into an output at a place: the bytes before it and behind it are as they were.
abbrev pub put_at : ℕ → List ℕ → List ℕ → List ℕ
put_at at text output = take at output ++ (text ++ drop (at + length text) output)

-- A text at the start of an output.
abbrev pub written : List ℕ → List ℕ → List ℕ
written text output = text ++ drop (length text) output

-- What a writer answers, so many bytes or the number of the question answered no, and the output as it leaves it.
pub record Wrote : Type 0 where
  pub answer : Result ℕ ℕ
  pub output : List ℕ

-- "Whatever writes to a lent output, here or later, answers the length written; bytes behind it, and after a refusal all, stay as they were."
-- (document 02, A2)
abbrev pub wrote : List ℕ → List ℕ → Wrote
wrote text output = record { answer = Ok (length text); output = written text output }

abbrev pub leaving : List ℕ → ℕ → Wrote
leaving output number = record { answer = Err number; output = output }

-- "30 when the lent output is too short, asked last; .." (document 02, A2): behind the writer's own questions.
unfoldable pub written_after : List Question → List ℕ → List ℕ → Wrote
written_after questions text output = asked (questions ++ ((leb (length text) (length output) else_no 30) ∷ [])) (leaving output) (wrote text output)
