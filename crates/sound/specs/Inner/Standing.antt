-- A sound book, and shipments that are left of it.
use Rattle.std.specs.Prelude.{◌≡◌, true, cond, List, ℕ, ◌+◌, ◌≤◌, length, Option, Some, None}
use Rattle.model.specs.Shipment.{most_shipments, most_rows}
use Rattle.model.specs.Book.{Book, rows_in}
use Rattle.model.specs.Sound.{shipments_sound}
use Rattle.memory.specs.Layout.{size}
use Rattle.memory.specs.Read.{shipments_from, book_in, sound_in}

-- n of them, from head i and row k on.
pub record Stands (m : List ℕ) (i k n : ℕ) : Type 0 where
  pub enough : size ≤ length m
  pub few : i + n ≤ most_shipments
  pub rows : k + rows_in (shipments_from m i k n) ≤ most_rows
  pub sound : shipments_sound (shipments_from m i k n) ≡ true

-- The book that memory holds, if it is sound.
unfoldable pub book_of : List ℕ → Option Book
book_of m = cond (sound_in m) (Some (book_in m)) None
