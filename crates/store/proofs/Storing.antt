-- Raw bytes put piece by piece: orders, bodies, the contents table.
-- Assumes nothing.
use mathlib.Core.Path.{◌≡◌, refl}
use mathlib.Core.Bool.{true}
use mathlib.Core.List.{List, [], ◌∷◌, ◌++◌, append_assoc}
use Prim.Native.Nat.{ℕ, suc, ◌+◌, ◌*◌, ◌-◌, ◌/◌, ◌≤◌, ◌<◌}
use native.Mathlib.Nat.{div-div-eq-div-mul}
use native.Mathlib.Numerals.{add-one}
use native.Mathlib.Omega.{arith}
use mir.Syntax.{w32}
use Rattle.std.specs.Int.{to_le_bytes}
use Rattle.model.specs.Shipment.{most_shipments, most_rows}
use Rattle.model.specs.Book.{rows_in}
use Rattle.memory.specs.Layout.{head_bytes, row_bytes}
use Rattle.memory.specs.Read.{orders_at, shipments_from, shipments_in, book_in, sound_in}
use Rattle.memory.specs.Inner.Enter.{bytes_of}
use Rattle.sound.proofs.ReadLaws.{rows_next, sound_parts}
use Rattle.write.specs.Writer.{HasRoom, Writes}
use Rattle.write.specs.declared.Writer.{Writer}
use Rattle.write.proofs.Pieces.{room_first, Left, all_left, left_behind, none_left}
use Rattle.store.specs.Stored.{form}
use Rattle.store.specs.Inner.Raw.{raw_orders, raw_bodies, raw_length, raw_contents, raw_stored}

-- a number of four bytes
pub four_bytes : (n : ℕ) → to_le_bytes w32 n ≡ bytes_of 4 n
four_bytes n = rw (div-div-eq-div-mul (n / 256) 256 256, div-div-eq-div-mul n 256 65_536, div-div-eq-div-mul n 256 256) refl

-- orders: those from row r on are left
pub record OrdersPut (m : List ℕ) (start : Writer) (k n : ℕ) (now : Writer) (r : ℕ) : Type 0 where
  pub left : Left (raw_orders m k n) start (raw_orders m r (k + n - r)) now

pub orders_begun : {m : List ℕ} {start : Writer} {k n : ℕ} → HasRoom (raw_orders m k n) start → OrdersPut m start k n start k
orders_begun {k = k} {n = n} room = let all : k + n - k ≡ n = omega arith in record { left = rw all (all_left room) }

module _ {m : List ℕ} {start : Writer} {k n : ℕ} {now : Writer} {r : ℕ} (so_far : OrdersPut m start k n now r) (more : r < k + n) where
  abbrev others : List ℕ
  others = raw_orders m (suc r) (k + n - suc r)

  next_order : Left (raw_orders m k n) start (row_bytes m r ++ others) now
  unfolding raw_orders
  next_order = let one : k + n - r ≡ suc (k + n - suc r) = omega arith in rw one at so_far.left

  module _ {row : List ℕ} (is : row ≡ row_bytes m r) where
    pub order_room : HasRoom row now
    order_room = rw is (room_first (row_bytes m r) others next_order.room)

    pub orders_on : {next : Writer} → Writes row now next → OrdersPut m start k n next (r + 1)
    orders_on put = rw add-one (record { left = left_behind (row_bytes m r) others next_order (rw is at put) })

pub orders_done : {m : List ℕ} {start : Writer} {k n : ℕ} {now : Writer} {r : ℕ} → OrdersPut m start k n now r → k + n ≤ r → Writes (raw_orders m k n) start now
unfolding raw_orders
orders_done {k = k} {n = n} {r = r} so_far end = let none : k + n - r ≡ 0 = omega arith in none_left (rw none at so_far.left)

-- bodies
pub record BodiesPut (m : List ℕ) (start : Writer) (n k : ℕ) (now : Writer) (i : ℕ) : Type 0 where
  pub few : k + rows_in (shipments_from m i k (n - i)) ≤ most_rows
  pub left : Left (raw_bodies m 0 0 n) start (raw_bodies m i k (n - i)) now

pub bodies_begun : {m : List ℕ} {start : Writer} {n : ℕ} → rows_in (shipments_from m 0 0 n) ≤ most_rows → HasRoom (raw_bodies m 0 0 n) start
    → BodiesPut m start n 0 start 0
bodies_begun {n = n} few room =
    let all : n - 0 ≡ n = omega arith in
    record { few = rw all (omega (arith, few)); left = rw all (all_left room) }

module _ {m : List ℕ} {start : Writer} {n k : ℕ} {now : Writer} {i : ℕ} (so_far : BodiesPut m start n k now i) (more : i < n) where
  abbrev body : List ℕ
  body = head_bytes m i ++ raw_orders m k (orders_at m i)

  one : n - i ≡ suc (n - suc i)
  one = omega arith

  rows_left : k + orders_at m i + rows_in (shipments_from m (suc i) (k + orders_at m i) (n - suc i)) ≤ most_rows
  rows_left = let next = rows_next m i k (n - suc i) in let few = rw one at so_far.few in omega arith

  pub body_rows : k + orders_at m i ≤ most_rows
  body_rows = let rows = rows_left in omega arith

  next_body : Left (raw_bodies m 0 0 n) start (body ++ raw_bodies m (suc i) (k + orders_at m i) (n - suc i)) now
  unfolding raw_bodies
  next_body = rw (append_assoc (head_bytes m i) (raw_orders m k (orders_at m i)) (raw_bodies m (suc i) (k + orders_at m i) (n - suc i))) (rw one at so_far.left)

  pub body_room : HasRoom body now
  body_room = room_first body (raw_bodies m (suc i) (k + orders_at m i) (n - suc i)) next_body.room

  pub bodies_on : {k' : ℕ} {next : Writer} → k' ≡ k + orders_at m i → Writes body now next → BodiesPut m start n k' next (i + 1)
  bodies_on is_k put =
      rw (is_k, add-one) (record { few = rows_left; left = left_behind body (raw_bodies m (suc i) (k + orders_at m i) (n - suc i)) next_body put })

pub bodies_done : {m : List ℕ} {start : Writer} {n k : ℕ} {now : Writer} {i : ℕ} → BodiesPut m start n k now i → n ≤ i → Writes (raw_bodies m 0 0 n) start now
unfolding raw_bodies
bodies_done {n = n} {i = i} so_far end = let none : n - i ≡ 0 = omega arith in none_left (rw none at so_far.left)

-- the contents table
pub record ContentsPut (m : List ℕ) (start : Writer) (n place : ℕ) (now : Writer) (i : ℕ) : Type 0 where
  pub small : place ≤ 2 + 8 * n + i * 800_000
  pub left : Left (raw_contents m 0 (2 + 8 * n) n) start (raw_contents m i place (n - i)) now

pub contents_begun : {m : List ℕ} {start : Writer} {n place : ℕ} → place ≡ 2 + 8 * n → HasRoom (raw_contents m 0 (2 + 8 * n) n) start
    → ContentsPut m start n place start 0
contents_begun {n = n} is room = let all : n - 0 ≡ n = omega arith in rw is (record { small = omega arith; left = rw all (all_left room) })

module _ {m : List ℕ} {start : Writer} {n place : ℕ} {now : Writer} {i : ℕ} (so_far : ContentsPut m start n place now i) (more : i < n) where
  abbrev entry : ℕ → List ℕ
  entry long = bytes_of 4 place ++ bytes_of 4 long

  next_entry : Left (raw_contents m 0 (2 + 8 * n) n) start (entry (raw_length m i) ++ raw_contents m (suc i) (place + raw_length m i) (n - suc i)) now
  unfolding raw_contents
  next_entry =
      let one : n - i ≡ suc (n - suc i) = omega arith in
      rw (append_assoc (bytes_of 4 place) (bytes_of 4 (raw_length m i)) (raw_contents m (suc i) (place + raw_length m i) (n - suc i))) (rw one at so_far.left)

  module _ {long : ℕ} (is : long ≡ raw_length m i) where
    pub entry_room : HasRoom (entry long) now
    entry_room = rw is (room_first (entry (raw_length m i)) (raw_contents m (suc i) (place + raw_length m i) (n - suc i)) next_entry.room)

    pub contents_on : long < 800_000 → {next : Writer} → Writes (entry long) now next → ContentsPut m start n (place + long) next (i + 1)
    contents_on short put = record {
      small = let small = so_far.small in omega arith;
      left = rw (add-one, is) (left_behind (entry (raw_length m i)) (raw_contents m (suc i) (place + raw_length m i) (n - suc i)) next_entry (rw is at put));
    }

pub contents_done : {m : List ℕ} {start : Writer} {n place : ℕ} {now : Writer} {i : ℕ} → ContentsPut m start n place now i → n ≤ i
    → Writes (raw_contents m 0 (2 + 8 * n) n) start now
unfolding raw_contents
contents_done {n = n} {i = i} so_far end = let none : n - i ≡ 0 = omega arith in none_left (rw none at so_far.left)

-- the whole of a sound book
pub raw_is : (m : List ℕ) (n : ℕ) → n ≡ shipments_in m → (form ∷ n ∷ []) ++ (raw_contents m 0 (2 + 8 * n) n ++ raw_bodies m 0 0 n) ≡ raw_stored m
unfolding raw_stored
raw_is m n is = λ i. form ∷ is i ∷ (raw_contents m 0 (2 + 8 * is i) (is i) ++ raw_bodies m 0 0 (is i))

pub book_few : (m : List ℕ) (n : ℕ) → sound_in m ≡ true → n ≡ shipments_in m → n ≤ most_shipments
book_few m n h is = rw is (sound_parts m h).few

pub book_rows : (m : List ℕ) (n : ℕ) → sound_in m ≡ true → n ≡ shipments_in m → rows_in (shipments_from m 0 0 n) ≤ most_rows
unfolding book_in
book_rows m n h is = rw is (sound_parts m h).rows

-- by which orders are put one after the other
pub ruleset orders = (orders_begun, order_room, orders_on, orders_done)

-- bodies
pub ruleset bodies = (bodies_begun, body_rows, body_room, bodies_on, bodies_done)

-- the entries of the contents table
pub ruleset contents = (contents_begun, entry_room, contents_on, contents_done)

-- and a whole book
pub ruleset whole_book = (raw_is, book_rows, book_few)
