-- What every call on lent memory promises, in one record: demand 2 is stated here, and demand 3 is made of exactly these.
use Rattle.std.specs.Prelude.{◌≡◌, true, List, [], ℕ, ◌≤◌, ◌<◌, length, get_or}
use Rattle.std.proofs.Math.Option.{some, none}
use Rattle.epe.specs.Questions.{asked}
use Rattle.epe.specs.Profile.{profile_questions}
use Rattle.model.specs.Calls.{Call, Intake, Transfer, On, Answer, Refused, Done, changes_nothing}
use Rattle.model.specs.Book.{Book, step}
use Rattle.memory.specs.Layout.{size}
use Rattle.memory.specs.Read.{read_book}

-- The answer where the memory is too short or no sound book: "10"; of an intake 900, unless its profile is refused before, with 905 or 907.
abbrev pub unreadable : Call → Answer
unreadable (Intake profile name file) = asked (profile_questions profile) Refused (Refused 900)
unreadable (Transfer title amount) = Refused 10
unreadable (On ident act) = Refused 10

pub record Does (before : List ℕ) (call : Call) (answer : Answer) (after : List ℕ) : Type 0 where
  pub unsound : read_book before ≡ none → answer ≡ unreadable call
  -- of a sound book, the answer and the book after are those of document 01's book
  pub answers : (book : Book) → read_book before ≡ some book → answer ≡ (step book call).answer
  pub leaves : (book : Book) → read_book before ≡ some book → read_book after ≡ some (step book call).book
  -- "A refusal leaves the book and every lent table as they stood before it", and "Short changes nothing": not a byte
  pub unmoved : changes_nothing answer ≡ true → after ≡ before
  -- memory behind the book is not touched
  pub behind : (j : ℕ) → size ≤ j → get_or after j 0 ≡ get_or before j 0
  pub as_long : length after ≡ length before

-- Making an empty book: "10" where the memory is too short; else it holds a book without shipments, whatever it held. Its first byte alone is written.
pub record MakesEmpty (before : List ℕ) (answer : Answer) (after : List ℕ) : Type 0 where
  pub too_short : length before < size → (answer ≡ Refused 10) × (after ≡ before)
  pub makes : size ≤ length before → (answer ≡ Done) × (read_book after ≡ some [])
  pub elsewhere : (j : ℕ) → 1 ≤ j → get_or after j 0 ≡ get_or before j 0
  pub as_long : length after ≡ length before
