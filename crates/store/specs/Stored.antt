-- A book as bytes that travel. "Store a book as a form byte, 1, which each later change of the record raises by 1, then a contents table with each
-- shipment's start and length, then the bodies in the same order without gaps, laid out in docs." (document 02, A4): docs/LAYOUT.md. Numbers are stored
-- least byte first.
use Rattle.std.specs.Prelude.{◌≡◌, Bool, true, false, ◌&&◌, List, [], ◌∷◌, ◌++◌, ℕ, ◌+◌, ◌*◌, ◌≤◌, eqb, length}
use Rattle.std.proofs.Math.Option.{Option, some, none}
use Rattle.money.specs.declared.Money.TheVariants.{K, O}
use Rattle.model.specs.Shipment.{Shipment, most_shipments, most_rows, accepted, returned}
use Rattle.model.specs.Book.{Book}
use Rattle.model.specs.Sound.{sound}
use Rattle.model.specs.declared.Row.{Row}
use Rattle.memory.specs.Layout.{head_size, row_size}
use Rattle.memory.specs.Inner.Enter.{bytes_of}
use Rattle.memory.specs.Inner.Stored.{stage_byte, code_of}
use Rattle.write.specs.Written.{Wrote, leaving, written_after}

-- A go-ahead that came is 1.
abbrev pub flag_byte : Bool → ℕ
flag_byte true = 1
flag_byte false = 0

-- A shipment's head, 66 bytes: identifier and its length, date, A or B, kind, flat part, stage, go-ahead, number of orders, transfers accepted of K and O,
-- surplus returned of K and O, rate.
unfoldable pub head_of : Shipment → List ℕ
head_of s =
    s.agreed.name.ident.bytes
    ++ (s.agreed.name.ident.len
    ∷ (bytes_of 4 s.agreed.name.date.0
    ++ (s.agreed.name.payment
    ∷ s.agreed.name.kind
    ∷ (bytes_of 4 s.agreed.terms.flat.0
    ++ (stage_byte s.stage
    ∷ flag_byte s.go_ahead
    ∷ (bytes_of 2 (length s.rows)
    ++ (bytes_of 8 (accepted K s)
    ++ (bytes_of 8 (accepted O s)
    ++ (bytes_of 8 (returned K s) ++ (bytes_of 8 (returned O s) ++ bytes_of 2 s.agreed.terms.rate.0))))))))))

-- An order, 11 bytes: its amount, the byte of its state, its fee and its remainder.
unfoldable pub order_of : Row → List ℕ
order_of row = bytes_of 4 row.amount.0 ++ (code_of row.state ∷ (bytes_of 4 row.fee.0 ++ bytes_of 2 row.remainder))

unfoldable pub orders_of : List Row → List ℕ
orders_of [] = []
orders_of (row ∷ rows) = order_of row ++ orders_of rows

-- A body: a head, and its orders.
abbrev pub body_of : Shipment → List ℕ
body_of s = head_of s ++ orders_of s.rows

-- The contents table: where each body starts, counted from the form byte, and how long it is.
unfoldable pub contents_from : ℕ → Book → List ℕ
contents_from start [] = []
contents_from start (s ∷ book) = (bytes_of 4 start ++ bytes_of 4 (length (body_of s))) ++ contents_from (start + length (body_of s)) book

unfoldable pub bodies_of : Book → List ℕ
bodies_of [] = []
bodies_of (s ∷ book) = body_of s ++ bodies_of book

-- The form byte, the number of shipments, the contents table, the bodies. "Shipments keep flat part and rate and rows their fee and remainder, so the book's
-- record .. change ..": the first later change (document 02, A5).
abbrev pub form : ℕ
form = 2

unfoldable pub stored : Book → List ℕ
stored book = form ∷ length book ∷ (contents_from (2 + 8 * length book) book ++ bodies_of book)

-- "Storing asks 10, then 30."
unfoldable pub stored_into : Option Book → List ℕ → Wrote
stored_into none output = leaving output 10
stored_into (some book) output = written_after [] (stored book) output

-- "An identifier is held as 17 bytes with its length" (document 01): so is each of a book that memory holds.
unfoldable pub idents_held : Book → Bool
idents_held [] = true
idents_held (s ∷ book) = eqb (length s.agreed.name.ident.bytes) 17 && idents_held book

-- A book that can be stored: a sound one, as memory holds it.
pub record Storable (book : Book) : Type 0 where
  pub is_sound : sound book ≡ true
  pub is_held : idents_held book ≡ true

-- The most bytes that a stored book takes, of "up to 32 shipments" and "2,048 rows" (document 01).
abbrev pub most_stored : ℕ
most_stored = 2 + (8 + head_size) * most_shipments + row_size * most_rows

abbrev pub StoredFits : Type 0
StoredFits = (book : Book) → Storable book → length (stored book) ≤ most_stored

-- "Equal books have equal bytes", since they are a function of the book; and equal bytes are of equal books.
abbrev pub StoredApart : Type 0
StoredApart = (a b : Book) → Storable a → Storable b → stored a ≡ stored b → a ≡ b
