-- Stored bytes as code walks them: body after body, each where the one before it ends.
use Rattle.std.specs.Prelude.{Bool, true, ◌&&◌, List, [], ◌∷◌, ℕ, zero, suc, ◌+◌, ◌*◌, leb, eqb, length, get_or, take, drop}
use Rattle.model.specs.Shipment.{most_shipments, most_rows}
use Rattle.model.specs.Book.{Book}
use Rattle.model.specs.declared.Row.{Row}
use Rattle.memory.specs.Number.{number_at}
use Rattle.memory.specs.Layout.{head_size, row_size}
use Rattle.memory.specs.Rows.{row_of}
use Rattle.memory.specs.Heads.{flags_in_form, order_count_in, shipment_in}
use Rattle.store.specs.Stored.{form}

-- The head of a body that starts at a place, how many orders it says, and how long the body is.
abbrev pub head_from : List ℕ → ℕ → List ℕ
head_from bytes at = take head_size (drop at bytes)

abbrev pub count_from : List ℕ → ℕ → ℕ
count_from bytes at = order_count_in (head_from bytes at)

abbrev pub body_from : List ℕ → ℕ → ℕ
body_from bytes at = head_size + row_size * count_from bytes at

-- So many orders, from a place on.
unfoldable pub rows_from_bytes : List ℕ → ℕ → ℕ → List Row
rows_from_bytes bytes at zero = []
rows_from_bytes bytes at (suc n) = row_of (take row_size (drop at bytes)) ∷ rows_from_bytes bytes (at + row_size) n

-- The book of so many bodies, the first of which starts at a place, whatever the bytes are.
unfoldable pub book_from : List ℕ → ℕ → ℕ → Book
book_from bytes at zero = []
book_from bytes at (suc n) =
    shipment_in (head_from bytes at) (rows_from_bytes bytes (at + head_size) (count_from bytes at)) ∷ book_from bytes (at + body_from bytes at) n

-- Entry i of the contents table says where a body starts and how long it is.
abbrev pub is_entry : List ℕ → ℕ → ℕ → ℕ → Bool
is_entry bytes i start long = eqb (number_at 4 bytes (2 + 8 * i)) start && eqb (number_at 4 bytes (2 + 8 * i + 4)) long

-- The n bodies from the i-th on stand where the table says, without gaps and up to the end, their flags in form, and their orders fit behind k others.
unfoldable pub whole_from : List ℕ → ℕ → ℕ → ℕ → ℕ → Bool
whole_from bytes i k at zero = eqb at (length bytes)
whole_from bytes i k at (suc n) =
    leb (at + head_size) (length bytes)
    && (leb (k + count_from bytes at) most_rows
    && (leb (at + body_from bytes at) (length bytes)
    && (is_entry bytes i at (body_from bytes at)
    && whole_from bytes (suc i) (k + count_from bytes at) (at + body_from bytes at) n)))

-- The flags of so many bodies.
unfoldable pub flags_from_bytes : List ℕ → ℕ → ℕ → Bool
flags_from_bytes bytes at zero = true
flags_from_bytes bytes at (suc n) = flags_in_form (head_from bytes at) && flags_from_bytes bytes (at + body_from bytes at) n

-- All of them: the form, the number of shipments, the contents table.
unfoldable pub is_whole : List ℕ → Bool
is_whole bytes =
    leb 2 (length bytes)
    && (eqb (get_or bytes 0 0) form
    && (leb (get_or bytes 1 0) most_shipments
    && (leb (2 + 8 * get_or bytes 1 0) (length bytes) && whole_from bytes 0 0 (2 + 8 * get_or bytes 1 0) (get_or bytes 1 0))))

abbrev pub book_of : List ℕ → Book
book_of bytes = book_from bytes (2 + 8 * get_or bytes 1 0) (get_or bytes 1 0)

abbrev pub flags_of : List ℕ → Bool
flags_of bytes = flags_from_bytes bytes (2 + 8 * get_or bytes 1 0) (get_or bytes 1 0)
