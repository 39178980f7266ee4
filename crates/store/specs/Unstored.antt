-- The book that bytes store. "32 when the bytes aren't a stored sound book, asked first on loading, then 30 when the book's memory is too short."
-- (document 02, A4)
use Rattle.std.specs.Prelude.{◌≡◌, List, ℕ, ◌≤◌, ◌<◌, length, get_or, Result, Ok, Err}
use Rattle.std.proofs.Math.Option.{some}
use Rattle.model.specs.Book.{Book}
use Rattle.memory.specs.Layout.{size}
use Rattle.memory.specs.Read.{read_book}
use Rattle.store.specs.Stored.{Storable, stored}

-- The bytes are those of a sound book.
pub record Stores (bytes : List ℕ) (book : Book) : Type 0 where
  pub storable : Storable book
  pub is_stored : stored book ≡ bytes

-- What loading bytes into memory promises: of those of a sound book, that the memory then holds it, or 30 where the memory is too short; of any other, 32.
-- A refusal leaves every byte, and bytes behind the book stay as they were.
pub record Loads (before bytes : List ℕ) (answer : Result (Unit {0}) ℕ) (after : List ℕ) : Type 0 where
  pub loaded : (book : Book) → Stores bytes book → size ≤ length before → (answer ≡ Ok tt) × (read_book after ≡ some book)
  pub too_short : (book : Book) → Stores bytes book → length before < size → answer ≡ Err 30
  pub not_stored : ((book : Book) → Stores bytes book → ⊥) → answer ≡ Err 32
  pub refused : (number : ℕ) → answer ≡ Err number → after ≡ before
  pub behind : (j : ℕ) → size ≤ j → get_or after j 0 ≡ get_or before j 0
  pub as_long : length after ≡ length before
