-- Stored bytes unpacked into memory, body after body.
use Rattle.std.specs.Prelude.{◌≡◌, Bool, true, false, ◌&&◌, List, ℕ, ◌+◌, ◌*◌, ◌-◌, leb, eqb, length, get_or, take, drop, Option, Some, None}
use Rattle.model.specs.Shipment.{most_shipments, most_rows}
use Rattle.model.specs.declared.Row.{Row}
use Rattle.memory.specs.Layout.{head_size, row_size, head_bytes, OnlyShipment}
use Rattle.memory.specs.Rows.{row_of}
use Rattle.memory.specs.Read.{rows_from, flags_from, shipments_in, book_in}
use Rattle.store.specs.Stored.{form}
use Rattle.store.specs.Inner.Walk.{head_from, count_from, body_from, rows_from_bytes, book_from, is_entry, whole_from, flags_from_bytes, is_whole, book_of, flags_of}

-- A body stands whole at a place, as entry i says, and its orders fit behind k others.
abbrev pub is_body : List ℕ → ℕ → ℕ → ℕ → Bool
is_body bytes i k at =
    leb (at + head_size) (length bytes)
    && (leb (k + count_from bytes at) most_rows && (leb (at + body_from bytes at) (length bytes) && is_entry bytes i at (body_from bytes at)))

-- The number of its orders, or none where no body stands so.
abbrev pub IsBody : List ℕ → ℕ → ℕ → ℕ → Option ℕ → Type 0
IsBody bytes i k at (Some count) = (is_body bytes i k at ≡ true) × (count ≡ count_from bytes at)
IsBody bytes i k at None = is_body bytes i k at ≡ false

-- The form, the number of shipments, and room for the contents table.
abbrev pub has_contents : List ℕ → Bool
has_contents bytes =
    leb 2 (length bytes)
    && (eqb (get_or bytes 0 0) form && (leb (get_or bytes 1 0) most_shipments && leb (2 + 8 * get_or bytes 1 0) (length bytes)))

-- The row of an order, where the first of those from a place on is row k.
abbrev pub given_row : List ℕ → ℕ → ℕ → ℕ → Row
given_row bytes at k r = row_of (take row_size (drop (at + row_size * (r - k)) bytes))

-- Head i and the rows from the k-th on are those of the body at a place, and nothing else moved.
pub record BodyUnpacked (bytes : List ℕ) (i k at : ℕ) (m m' : List ℕ) : Type 0 where
  pub head : head_bytes m' i ≡ head_from bytes at
  pub rows : rows_from m' k (count_from bytes at) ≡ rows_from_bytes bytes (at + head_size) (count_from bytes at)
  pub only : OnlyShipment i k (count_from bytes at) m m'

-- The n bodies from a place on are the book in memory, if they are whole.
pub record BodiesUnpacked (bytes : List ℕ) (n : ℕ) (whole : Bool) (m m' : List ℕ) : Type 0 where
  pub answer : whole ≡ whole_from bytes 0 0 (2 + 8 * n) n
  pub as_long : length m' ≡ length m
  pub number : whole ≡ true → shipments_in m' ≡ n
  pub book : whole ≡ true → book_in m' ≡ book_from bytes (2 + 8 * n) n
  pub flags : whole ≡ true → flags_from m' 0 n ≡ flags_from_bytes bytes (2 + 8 * n) n

-- All of it.
pub record Unpacked (bytes : List ℕ) (whole : Bool) (m m' : List ℕ) : Type 0 where
  pub answer : whole ≡ is_whole bytes
  pub as_long : length m' ≡ length m
  pub book : whole ≡ true → book_in m' ≡ book_of bytes
  pub flags : whole ≡ true → flags_from m' 0 (shipments_in m') ≡ flags_of bytes
