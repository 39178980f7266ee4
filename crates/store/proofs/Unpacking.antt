-- Stored bytes unpacked body by body: the memory holds the book of the bodies so far, and those that are left make the whole.
-- Assumes nothing.
use mathlib.Core.Path.{◌≡◌, refl, sym, ◌∙◌, ap}
use mathlib.Core.Bool.{Bool, true, false, ◌&&◌, and_assoc, false≢true}
use mathlib.Core.List.{List, [], ◌∷◌, ◌++◌, append_assoc, append-nil}
use Prim.Native.Nat.{ℕ, zero, suc, ◌+◌, ◌*◌, ◌-◌, ◌≤◌, ◌<◌}
use native.Mathlib.Omega.{arith}
use borrow.Author.Tests.{eq-eqb, ne_eqb, leb-true, le-leb, lt-leb}
use lib.Dec.{leb}
use lib.ListN.{length, get_or, take, drop, set, length-set}
use lib.Seq.{get_or-set_same}
use Rattle.text.proofs.Branches.{and-true, first_no_lem, and_left, and_right, both_ways}
use Rattle.model.specs.Shipment.{Shipment, most_shipments, most_rows}
use Rattle.model.specs.Book.{Book, rows_in}
use Rattle.model.specs.declared.Row.{Row}
use Rattle.memory.specs.Layout.{head_size, row_size, size, head_bytes, row_bytes}
use Rattle.memory.specs.Rows.{row_of}
use Rattle.memory.specs.Heads.{flags_in_form, order_count_in, shipment_in}
use Rattle.memory.specs.Read.{rows_from, shipment_at, shipments_from, flags_from, shipments_in, book_in}
use Rattle.memory.specs.Inner.Enter.{HeadStored}
use Rattle.memory.specs.Inner.Stored.{RowStored}
use Rattle.memory.proofs.Parts.{part_there, number_heads, number_rows}
use Rattle.memory.proofs.Frames.{heads_kept, with_heads, with_rows_lem, only_again}
use Rattle.acts.specs.Inner.Place.{RowsStored}
use Rattle.acts.proofs.RowsInTurn.{one_more_stored}
use Rattle.book.proofs.Appending.{appended, shipments_alike}
use Rattle.store.specs.Inner.Walk.{head_from, count_from, body_from, rows_from_bytes, book_from, is_entry, whole_from, flags_from_bytes}
use Rattle.store.specs.Inner.Unpack.{is_body, given_row, BodyUnpacked, BodiesUnpacked}
use Rattle.store.proofs.Walks.{rows_many}
use Rattle.store.proofs.SoundMemory.{flags_same}

-- a body, as code asks for it, by what is left behind its place
module _ (bytes : List ℕ) (i k at : ℕ) (there : at ≤ length bytes) where
  room_left : (long : ℕ) → leb long (length bytes - at) ≡ leb (at + long) (length bytes)
  room_left long =
      both_ways (leb long (length bytes - at)) (leb (at + long) (length bytes))
      (λ yes. let fits = leb-true long (length bytes - at) yes in le-leb (at + long) (length bytes) (omega arith))
      (λ yes. let fits = leb-true (at + long) (length bytes) yes in le-leb long (length bytes - at) (omega arith))

  pub no_head : length bytes - at < head_size → false ≡ is_body bytes i k at
  no_head short = sym (first_no_lem (leb (at + head_size) (length bytes)) _ (lt-leb (at + head_size) (length bytes) (omega arith)))

  pub body_told : {n : ℕ} {told : Bool} → head_size ≤ length bytes - at → n ≡ count_from bytes at
      → told ≡ (leb (k + n) most_rows && (leb (head_size + row_size * n) (length bytes - at) && is_entry bytes i at (head_size + row_size * n))) → told ≡ is_body bytes i k at
  body_told {n} room is_count told =
      and-true (leb (at + head_size) (length bytes)) _ _ (le-leb (at + head_size) (length bytes) (omega arith))
      (rw (← is_count) (told ∙ ap (λ (t : Bool). leb (k + n) most_rows && (t && is_entry bytes i at (head_size + row_size * n))) (room_left (head_size + row_size * n))))

-- rows of a book with a shipment more
rows_behind : (book : Book) (s : Shipment) → rows_in (book ++ (s ∷ [])) ≡ rows_in book + length s.rows
rows_behind [] s = omega arith
rows_behind (t ∷ book) s = let rest = rows_behind book s in omega arith

-- the rows that were copied, as a list
listed : (m bytes : List ℕ) (at k j n : ℕ) → ((i : ℕ) → i < n → row_of (row_bytes m (k + i)) ≡ row_of (take row_size (drop (at + row_size * (j + i)) bytes)))
    → rows_from m k n ≡ rows_from_bytes bytes (at + row_size * j) n
unfolding rows_from rows_from_bytes
listed m bytes at k j zero each = refl
listed m bytes at k j (suc n) each =
    let row : k + 0 ≡ k = omega arith in
    let entry : at + row_size * (j + 0) ≡ at + row_size * j = omega arith in
    let next : at + row_size * j + row_size ≡ at + row_size * (j + 1) = omega arith in
    let first = rw (row, entry) at (each 0 (omega arith)) in
    let rest = listed m bytes at (suc k) (j + 1) n (λ i within.
    let next_row : suc k + i ≡ k + suc i = omega arith in
    let next_entry : j + 1 + i ≡ j + suc i = omega arith in
    rw (next_row, next_entry) (each (suc i) (omega arith))) in
    rw next (λ t. first t ∷ rest t)

-- order after order
pub one_more_unpacked : (bytes : List ℕ) (at : ℕ) {l m m' order : List ℕ} {k n : ℕ} → k + n < most_rows → RowsStored (given_row bytes at k) k n l m
    → order ≡ take row_size (drop (at + row_size * n) bytes) → RowStored order (k + n) m m' → RowsStored (given_row bytes at k) k (n + 1) l m'
one_more_unpacked bytes at {k = k} {n = n} there rest is stored =
    let place : k + n - k ≡ n = omega arith in
    one_more_stored there rest (stored.row ∙ ap row_of is ∙ ap (λ (j : ℕ). row_of (take row_size (drop (at + row_size * j) bytes))) (sym place)) stored.only

-- a body: its head, and then its rows
pub body_unpacked : (bytes : List ℕ) (i k at : ℕ) {l m m' lent : List ℕ} {n : ℕ} → HeadStored (take (at + head_size - at) (drop at bytes)) i l m
    → RowsStored (given_row bytes (at + head_size) k) k n m m' → n ≡ order_count_in lent → lent ≡ take (at + head_size - at) (drop at bytes)
    → at + body_from bytes at ≤ length bytes → i < most_shipments → BodyUnpacked bytes i k at l m'
body_unpacked bytes i k at {m' = m'} {n = n} stored rows counted is_lent room few =
    let is_head = (part_there bytes at head_size (omega arith)).0 in
    let is_count : n ≡ count_from bytes at = counted ∙ ap order_count_in (is_lent ∙ is_head) in
    let start : at + head_size + row_size * 0 ≡ at + head_size = omega arith in
    record {
      head = heads_kept rows.only i few ∙ stored.bytes ∙ is_head;
      rows = rw (← is_count) (rw start at (listed m' bytes (at + head_size) k 0 n (λ j within.
          let place : k + j - k ≡ 0 + j = omega arith in
          rw place at (rows.rows (k + j) (omega arith) (omega arith)))));
      only = rw (← is_count) (only_again (with_rows_lem stored.only) (with_heads rows.only));
    }

-- flags, head after head
and_yes : (t : Bool) → (t && true) ≡ t
and_yes true = refl
and_yes false = refl

flags_then : (m : List ℕ) (i n : ℕ) → flags_from m i (suc n) ≡ (flags_from m i n && flags_in_form (head_bytes m (i + n)))
unfolding flags_from
flags_then m i zero = let here : i + 0 ≡ i = omega arith in rw here (and_yes (flags_in_form (head_bytes m i)))
flags_then m i (suc n) =
    let next : i + suc n ≡ suc i + n = omega arith in
    rw next (ap (λ (t : Bool). flags_in_form (head_bytes m i) && t) (flags_then m (suc i) n) ∙ sym (and_assoc (flags_in_form (head_bytes m i)) (flags_from m (suc i) n) (flags_in_form (head_bytes m (suc i + n)))))

-- four questions before others
pub four_no : (a b c d e : Bool) → (a && (b && (c && d))) ≡ false → (a && (b && (c && (d && e)))) ≡ false
four_no true true true true e h = absurd (false≢true (sym h))
four_no true true true false e h = refl
four_no true true false d e h = refl
four_no true false c d e h = refl
four_no false b c d e h = refl

pub four_yes : (a b c d e : Bool) → (a && (b && (c && d))) ≡ true → (a && (b && (c && (d && e)))) ≡ e
four_yes true true true true e h = refl
four_yes true true true false e h = absurd (false≢true h)
four_yes true true false d e h = absurd (false≢true h)
four_yes true false c d e h = absurd (false≢true h)
four_yes false b c d e h = absurd (false≢true h)

-- The bodies so far.
pub record Unpacking (bytes : List ℕ) (n : ℕ) (l m : List ℕ) (i at k : ℕ) : Type 0 where
  pub far : i ≤ n
  pub long : at ≤ length bytes
  pub few : k ≤ most_rows
  pub from : k ≡ rows_in (shipments_from m 0 0 i)
  pub whole : whole_from bytes 0 0 (2 + 8 * n) n ≡ whole_from bytes i k at (n - i)
  pub book : shipments_from m 0 0 i ++ book_from bytes at (n - i) ≡ book_from bytes (2 + 8 * n) n
  pub flags : (flags_from m 0 i && flags_from_bytes bytes at (n - i)) ≡ flags_from_bytes bytes (2 + 8 * n) n
  pub as_long : length m ≡ length l

pub unpacking_begun : (bytes : List ℕ) (n : ℕ) (m : List ℕ) → 2 + 8 * n ≤ length bytes → {at : ℕ} → at ≡ 2 + 8 * n → Unpacking bytes n m m 0 at 0
unfolding shipments_from flags_from
unpacking_begun bytes n m room is =
    let all : n - 0 ≡ n = omega arith in
    rw is (record { far = omega arith; long = room; few = omega arith; from = refl; whole = rw all; book = rw all; flags = rw all; as_long = refl })

module _ {bytes : List ℕ} {n : ℕ} {l m : List ℕ} {i at k : ℕ} (so_far : Unpacking bytes n l m i at k) (more : i < n) where
  one_left : n - i ≡ suc (n - suc i)
  one_left = omega arith

  -- a body that is none ends the walk
  pub not_whole : is_body bytes i k at ≡ false → false ≡ whole_from bytes 0 0 (2 + 8 * n) n
  unfolding whole_from
  not_whole none =
      sym
      (so_far.whole
      ∙ ap (λ (j : ℕ). whole_from bytes i k at j) one_left
      ∙ four_no (leb (at + head_size) (length bytes)) (leb (k + count_from bytes at) most_rows) (leb (at + body_from bytes at) (length bytes)) (is_entry bytes i at (body_from bytes at)) _ none)

  module _ (is : is_body bytes i k at ≡ true) where
    abbrev c : ℕ
    c = count_from bytes at

    pub body_room : (at + head_size ≤ length bytes) × (k + c ≤ most_rows) × (at + body_from bytes at ≤ length bytes)
    body_room =
        let rest = and_right (leb (at + head_size) (length bytes)) _ is in
        let behind = and_right (leb (k + c) most_rows) _ rest in (
          leb-true (at + head_size) (length bytes) (and_left (leb (at + head_size) (length bytes)) _ is),
          leb-true (k + c) most_rows (and_left (leb (k + c) most_rows) _ rest),
          leb-true (at + body_from bytes at) (length bytes) (and_left (leb (at + body_from bytes at) (length bytes)) _ behind),
        )

    abbrev s : Shipment
    s = shipment_in (head_from bytes at) (rows_from_bytes bytes (at + head_size) c)

    whole_on : whole_from bytes i k at (suc (n - suc i)) ≡ whole_from bytes (suc i) (k + c) (at + body_from bytes at) (n - suc i)
    unfolding whole_from
    whole_on =
        four_yes (leb (at + head_size) (length bytes)) (leb (k + c) most_rows) (leb (at + body_from bytes at) (length bytes)) (is_entry bytes i at (body_from bytes at)) _ is

    book_on : shipments_from m 0 0 i ++ (s ∷ book_from bytes (at + body_from bytes at) (n - suc i)) ≡ shipments_from m 0 0 i ++ book_from bytes at (n - i)
    unfolding book_from
    book_on = ap (λ (j : ℕ). shipments_from m 0 0 i ++ book_from bytes at j) (sym one_left)

    module _ {m' : List ℕ} (most : n ≤ most_shipments) (body : BodyUnpacked bytes i k at m m') where
      heads_before : (j : ℕ) → j < i → head_bytes m' j ≡ head_bytes m j
      heads_before j before = body.only.other_heads j (omega arith) (λ same. omega arith)

      shipment_new : shipment_at m' i k ≡ s
      shipment_new =
          (λ j. shipment_in (body.head j) (rows_from m' k (order_count_in (body.head j)))) ∙ ap (λ (rows : List Row). shipment_in (head_from bytes at) rows) body.rows

      shipment_more : shipments_from m' 0 0 (suc i) ≡ shipments_from m 0 0 i ++ (s ∷ [])
      shipment_more =
          appended m m' i s heads_before (λ r before. let from = so_far.from in let few = so_far.few in body.only.other_rows r (omega arith) (λ among. omega (arith, among.0)))
          (rw so_far.from at shipment_new)

      flags_on : (flags_from m' 0 (suc i) && flags_from_bytes bytes (at + body_from bytes at) (n - suc i)) ≡ (flags_from m 0 i && flags_from_bytes bytes at (n - i))
      unfolding flags_from_bytes
      flags_on =
          let here : 0 + i ≡ i = omega arith in
          let before = flags_same m m' 0 i (λ j from below. heads_before j (omega arith)) in
          let last = ap (λ (j : ℕ). flags_in_form (head_bytes m' j)) here ∙ ap flags_in_form body.head in
          let rest = flags_from_bytes bytes (at + body_from bytes at) (n - suc i) in
          ap (λ (t : Bool). t && rest) (flags_then m' 0 i ∙ (λ j. before j && last j))
          ∙ and_assoc (flags_from m 0 i) (flags_in_form (head_from bytes at)) rest
          ∙ ap (λ (j : ℕ). flags_from m 0 i && flags_from_bytes bytes at j) (sym one_left)

    rows_on : rows_in (shipments_from m 0 0 i ++ (s ∷ [])) ≡ k + c
    unfolding shipment_in
    rows_on =
        rows_behind (shipments_from m 0 0 i) s
        ∙ (λ t. sym so_far.from t + rows_many bytes (at + head_size) c t)

    pub unpacking_on : {m' : List ℕ} {at' k' : ℕ} → n ≤ most_shipments → BodyUnpacked bytes i k at m m' → at' ≡ at + body_from bytes at → k' ≡ k + c
        → Unpacking bytes n l m' (i + 1) at' k'
    unpacking_on {m'} most body is_at is_k =
        let next : i + 1 ≡ suc i = omega arith in
        let room = body_room in
        let fits = room.1 in
        let ends = room.2 in
        let grown = shipment_more most body in
        rw (next, is_at, is_k) (record {
          far = omega arith;
          long = ends;
          few = fits;
          from = sym (ap rows_in grown ∙ rows_on);
          whole = so_far.whole ∙ ap (λ (j : ℕ). whole_from bytes i k at j) one_left ∙ whole_on;
          book =
              ap (λ (book : Book). book ++ book_from bytes (at + body_from bytes at) (n - suc i)) grown
              ∙ append_assoc (shipments_from m 0 0 i) (s ∷ []) (book_from bytes (at + body_from bytes at) (n - suc i))
              ∙ book_on ∙ so_far.book;
          flags = flags_on most body ∙ so_far.flags;
          as_long = body.only.as_long ∙ so_far.as_long;
        })

-- what is left of the walk where every body is unpacked: its end
module _ {bytes : List ℕ} {n : ℕ} {l m : List ℕ} {i at k : ℕ} (so_far : Unpacking bytes n l m i at k) where
  pub bodies_refused : i < n → is_body bytes i k at ≡ false → BodiesUnpacked bytes n false l m
  bodies_refused more none = record {
    answer = not_whole so_far more none;
    as_long = so_far.as_long;
    number = λ yes. absurd (false≢true yes);
    book = λ yes. absurd (false≢true yes);
    flags = λ yes. absurd (false≢true yes);
  }

  -- and bytes behind the last body, or too few for it
  pub bodies_left : n ≤ i → (at ≡ length bytes → ⊥) → BodiesUnpacked bytes n false l m
  unfolding whole_from
  bodies_left all other =
      let none : n - i ≡ 0 = (let far = so_far.far in omega arith) in
      record {
        answer = sym (so_far.whole ∙ ap (λ (j : ℕ). whole_from bytes i k at j) none ∙ ne_eqb at (length bytes) other);
        as_long = so_far.as_long;
        number = λ yes. absurd (false≢true yes);
        book = λ yes. absurd (false≢true yes);
        flags = λ yes. absurd (false≢true yes);
      }

  pub bodies_unpacked : {m' : List ℕ} → n ≤ i → at ≡ length bytes → size ≤ length m → m' ≡ set m 0 n → BodiesUnpacked bytes n true l m'
  unfolding whole_from book_from flags_from_bytes book_in
  bodies_unpacked {m'} all here enough is =
      let none : n - i ≡ 0 = (let far = so_far.far in omega arith) in
      let end : i ≡ n = (let far = so_far.far in omega arith) in
      let number : shipments_in m' ≡ n = ap (λ (l : List ℕ). get_or l 0 0) is ∙ get_or-set_same m 0 n 0 (omega arith) in
      let heads : (j : ℕ) → head_bytes m' j ≡ head_bytes m j = λ j. ap (λ (l : List ℕ). head_bytes l j) is ∙ number_heads m n j in
      let rows : (r : ℕ) → row_bytes m' r ≡ row_bytes m r = λ r. ap (λ (l : List ℕ). row_bytes l r) is ∙ number_rows m n r in
      let alike = shipments_alike m m' 0 0 n (λ j from below. heads j) (λ r from below. rows r) in
      record {
        answer = sym (so_far.whole ∙ ap (λ (j : ℕ). whole_from bytes i k at j) none ∙ eq-eqb at (length bytes) here);
        as_long = ap length is ∙ length-set m 0 n ∙ so_far.as_long;
        number = λ yes. number;
        book = λ yes.
            ap (λ (j : ℕ). shipments_from m' 0 0 j) number ∙ alike ∙ ap (λ (j : ℕ). shipments_from m 0 0 j) (sym end)
            ∙ sym (append-nil (shipments_from m 0 0 i)) ∙ ap (λ (j : ℕ). shipments_from m 0 0 i ++ book_from bytes at j) (sym none) ∙ so_far.book;
        flags = λ yes.
            flags_same m m' 0 n (λ j from below. heads j) ∙ ap (λ (j : ℕ). flags_from m 0 j) (sym end)
            ∙ sym (and_yes (flags_from m 0 i)) ∙ ap (λ (j : ℕ). flags_from m 0 i && flags_from_bytes bytes at j) (sym none) ∙ so_far.flags;
      }

-- by which bodies are unpacked one after the other
pub ruleset unpacking = (unpacking_begun, unpacking_on, body_room, bodies_refused, bodies_left, bodies_unpacked)
