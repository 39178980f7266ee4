-- The book that lent memory holds: none unless the memory is long enough and sound.
use Rattle.std.specs.Prelude.{◌≡◌, List, [], ◌∷◌, Bool, true, cond, ◌&&◌, ℕ, zero, suc, ◌+◌, ◌≤◌, ◌<◌, leb, length, get_or, set}
use Rattle.std.proofs.Math.Option.{Option, some, none}
use Rattle.model.specs.Shipment.{most_shipments, most_rows, Shipment}
use Rattle.model.specs.Book.{Book}
use Rattle.model.specs.Sound.{sound, shipment_sound}
use Rattle.model.specs.declared.Row.{Row}
use Rattle.memory.specs.Layout.{size, head_bytes, row_bytes}
use Rattle.memory.specs.Rows.{row_of}
use Rattle.memory.specs.Heads.{flags_in_form, order_count_in, shipment_in}

-- The n rows from the k-th on.
unfoldable pub rows_from : List ℕ → ℕ → ℕ → List Row
rows_from m k zero = []
rows_from m k (suc n) = row_of (row_bytes m k) ∷ rows_from m (suc k) n

-- The i-th shipment, its rows from the k-th on, and n of them: "the orders' parts follow one another".
abbrev pub orders_at : List ℕ → ℕ → ℕ
orders_at m i = order_count_in (head_bytes m i)

abbrev pub shipment_at : List ℕ → ℕ → ℕ → Shipment
shipment_at m i k = shipment_in (head_bytes m i) (rows_from m k (orders_at m i))

unfoldable pub shipments_from : List ℕ → ℕ → ℕ → ℕ → Book
shipments_from m i k zero = []
shipments_from m i k (suc n) = shipment_at m i k ∷ shipments_from m (suc i) (k + orders_at m i) n

unfoldable pub flags_from : List ℕ → ℕ → ℕ → Bool
flags_from m i zero = true
flags_from m i (suc n) = flags_in_form (head_bytes m i) && flags_from m (suc i) n

abbrev pub shipments_in : List ℕ → ℕ
shipments_in m = get_or m 0 0

unfoldable pub book_in : List ℕ → Book
book_in m = shipments_from m 0 0 (shipments_in m)

-- "Sound means: the memory is long enough, every name part in its form, .."
unfoldable pub sound_in : List ℕ → Bool
sound_in m = leb size (length m) && (flags_from m 0 (shipments_in m) && sound (book_in m))

unfoldable pub read_book : List ℕ → Option Book
read_book m = cond (sound_in m) (some (book_in m)) none

-- Memory that is long enough holds an empty book once its first byte is 0, whatever else it holds.
abbrev pub EmptyIsRead : Type 0
EmptyIsRead = (m : List ℕ) → size ≤ length m → read_book (set m 0 0) ≡ some []

-- A shipment's place in a sound book: head i, its rows from the k-th on.
pub record Sits (m : List ℕ) (i k : ℕ) : Type 0 where
  pub enough : size ≤ length m
  pub few : i < most_shipments
  pub room : k + orders_at m i ≤ most_rows
  pub sound : shipment_sound (shipment_at m i k) ≡ true
