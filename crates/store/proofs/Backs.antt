-- The bytes of a book are walked as a whole, and the walk reads that book.
-- Assumes nothing.
use mathlib.Core.Path.{◌≡◌, refl, sym, ◌∙◌, ap}
use mathlib.Core.Bool.{true}
use mathlib.Core.List.{List, [], ◌∷◌, ◌++◌, append_assoc}
use Prim.Native.Nat.{ℕ, suc, ◌+◌, ◌*◌, ◌^◌, ◌≤◌, ◌<◌}
use native.Mathlib.Omega.{arith}
use borrow.Author.Tests.{eqb-true, le-leb, eq-eqb}
use lib.Dec.{leb, eqb}
use lib.ListN.{length, take, drop, length-append}
use lib.Seq.{take_at}
use Rattle.text.proofs.Branches.{and_left, and_right, both_yes}
use Rattle.money.specs.declared.Money.TheVariants.{K, O}
use Rattle.fee.specs.declared.Terms.{Terms}
use Rattle.model.specs.Shipment.{Shipment, most_shipments, most_rows}
use Rattle.model.specs.Book.{Book, rows_in}
use Rattle.model.specs.Sound.{rows_sound, shipment_sound, shipments_sound}
use Rattle.model.specs.declared.Row.{Row}
use Rattle.model.specs.declared.Stage.{Stage}
use Rattle.model.proofs.SoundParts.{in_order}
use Rattle.model.proofs.StaysSound.{book_in_order, first_in_order}
use Rattle.memory.specs.Number.{number_at}
use Rattle.memory.specs.Layout.{head_size, row_size}
use Rattle.memory.specs.Rows.{row_of}
use Rattle.memory.specs.Heads.{flags_in_form, order_count_in, shipment_in}
use Rattle.memory.specs.Inner.Enter.{bytes_of}
use Rattle.memory.proofs.EnterLaws.{name_fits}
use Rattle.store.specs.Stored.{form, head_of, order_of, orders_of, body_of, contents_from, bodies_of, stored, idents_held, Storable, StoredFits, StoredApart}
use Rattle.store.specs.Inner.Walk.{head_from, count_from, body_from, rows_from_bytes, book_from, is_entry, whole_from, flags_from_bytes, is_whole, book_of, flags_of}
use Rattle.store.proofs.Fields.{behind_field, number_there}
use Rattle.store.proofs.Heads.{HasRoom, orders_back, head_back, head_long, flags_back}
use Rattle.store.proofs.Orders.{order_long, orders_long, first_row, order_back}

-- a sound shipment has room in its fields
has_room : (s : Shipment) → shipment_sound s ≡ true → length s.agreed.name.ident.bytes ≡ 17 → length s.rows ≤ most_rows → HasRoom s
has_room s h held few =
    let parts = in_order s h in
    let k = parts.moneys K in
    let o = parts.moneys O in
    let flat = parts.terms_fit_holds.0 in
    let rate = parts.terms_fit_holds.1 in
    let ak = k.accepted_fits in
    let ao = o.accepted_fits in
    let rk = k.returned_fits in
    let ro = o.returned_fits in
    record {
      ident = held;
      date = (name_fits s.agreed.name parts.name_in_form).date;
      flat = omega arith;
      rate = omega arith;
      orders = omega arith;
      accepted_k = omega arith;
      accepted_o = omega arith;
      returned_k = omega arith;
      returned_o = omega arith;
    }

module _ (bytes : List ℕ) where
  rows_back : (terms : Terms) (stage : Stage) (rows : List Row) (at : ℕ) (behind : List ℕ) → rows_sound terms stage rows ≡ true → drop at bytes ≡ orders_of rows ++ behind
      → rows_from_bytes bytes at (length rows) ≡ rows
  unfolding rows_from_bytes orders_of
  rows_back terms stage [] at behind h is = refl
  rows_back terms stage (row ∷ rows) at behind h is =
      let first = first_row terms stage row rows h in
      let parted = is ∙ append_assoc (order_of row) (orders_of rows) behind in
      let here = ap (λ (l : List ℕ). take row_size l) parted ∙ take_at (order_of row) (orders_of rows ++ behind) row_size (order_long row) in
      let read = ap row_of here ∙ order_back row first.0 in
      let rest = rows_back terms stage rows (at + row_size) behind first.1 (behind_field bytes at (order_of row) (orders_of rows ++ behind) row_size (order_long row) parted) in
      λ i. read i ∷ rest i

-- the bodies from one on, where the table and they stand
record Back (bytes : List ℕ) (i k at : ℕ) (rest : Book) : Type 0 where
  book : book_from bytes at (length rest) ≡ rest
  whole : whole_from bytes i k at (length rest) ≡ true
  flags : flags_from_bytes bytes at (length rest) ≡ true

module _ (bytes : List ℕ) (short : length bytes < 256 ^ 4) where
  -- one body
  module _ (s : Shipment) (more : Book) (at : ℕ) (room : HasRoom s) (is : drop at bytes ≡ bodies_of (s ∷ more)) where
    parted : drop at bytes ≡ head_of s ++ (orders_of s.rows ++ bodies_of more)
    unfolding bodies_of
    parted = is ∙ append_assoc (head_of s) (orders_of s.rows) (bodies_of more)

    head_there : head_from bytes at ≡ head_of s
    head_there = ap (λ (l : List ℕ). take head_size l) parted ∙ take_at (head_of s) (orders_of s.rows ++ bodies_of more) head_size (head_long s room)

    count_there : count_from bytes at ≡ length s.rows
    count_there = ap order_count_in head_there ∙ orders_back s room

    body_there : body_from bytes at ≡ length (body_of s)
    body_there =
        let a = length-append (head_of s) (orders_of s.rows) in
        let b = head_long s room in
        let c = orders_long s.rows in
        let d = count_there in
        omega arith

    rows_there : rows_sound s.agreed.terms s.stage s.rows ≡ true → rows_from_bytes bytes (at + head_size) (count_from bytes at) ≡ s.rows
    rows_there h =
        ap (λ (c : ℕ). rows_from_bytes bytes (at + head_size) c) count_there
        ∙ rows_back bytes s.agreed.terms s.stage s.rows (at + head_size) (bodies_of more) h
        (behind_field bytes at (head_of s) (orders_of s.rows ++ bodies_of more) head_size (head_long s room) parted)

    body_behind : drop (at + length (body_of s)) bytes ≡ bodies_of more
    unfolding bodies_of
    body_behind = behind_field bytes at (body_of s) (bodies_of more) (length (body_of s)) refl is

  -- one entry
  module _ (s : Shipment) (more : Book) (i at : ℕ) (tail : List ℕ) (table : drop (2 + 8 * i) bytes ≡ contents_from at (s ∷ more) ++ tail)
      (start_small : at < 256 ^ 4) (length_small : length (body_of s) < 256 ^ 4) where
    abbrev others : List ℕ
    others = contents_from (at + length (body_of s)) more ++ tail

    entry_parted : drop (2 + 8 * i) bytes ≡ bytes_of 4 at ++ (bytes_of 4 (length (body_of s)) ++ others)
    unfolding contents_from
    entry_parted =
        table
        ∙ append_assoc (bytes_of 4 at ++ bytes_of 4 (length (body_of s))) (contents_from (at + length (body_of s)) more) tail
        ∙ append_assoc (bytes_of 4 at) (bytes_of 4 (length (body_of s))) others

    second_parted : drop (2 + 8 * i + 4) bytes ≡ bytes_of 4 (length (body_of s)) ++ others
    second_parted = behind_field bytes (2 + 8 * i) (bytes_of 4 at) (bytes_of 4 (length (body_of s)) ++ others) 4 refl entry_parted

    entry_there : is_entry bytes i at (length (body_of s)) ≡ true
    entry_there =
        both_yes (eqb (number_at 4 bytes (2 + 8 * i)) at) (eqb (number_at 4 bytes (2 + 8 * i + 4)) (length (body_of s)))
        (eq-eqb (number_at 4 bytes (2 + 8 * i)) at (number_there bytes (2 + 8 * i) 4 at (bytes_of 4 (length (body_of s)) ++ others) start_small entry_parted))
        (eq-eqb (number_at 4 bytes (2 + 8 * i + 4)) (length (body_of s)) (number_there bytes (2 + 8 * i + 4) 4 (length (body_of s)) others length_small second_parted))

    table_behind : drop (2 + 8 * suc i) bytes ≡ others
    table_behind =
        let next : 2 + 8 * suc i ≡ 2 + 8 * i + 4 + 4 = omega arith in
        ap (λ (j : ℕ). drop j bytes) next ∙ behind_field bytes (2 + 8 * i + 4) (bytes_of 4 (length (body_of s))) others 4 refl second_parted

  bodies_back : (rest : Book) (i k at : ℕ) (tail : List ℕ) → shipments_sound rest ≡ true → idents_held rest ≡ true → k + rows_in rest ≤ most_rows
      → at + length (bodies_of rest) ≡ length bytes → drop at bytes ≡ bodies_of rest → drop (2 + 8 * i) bytes ≡ contents_from at rest ++ tail → Back bytes i k at rest
  unfolding book_from whole_from flags_from_bytes idents_held bodies_of
  bodies_back [] i k at tail h held few long is table = record { book = refl; whole = eq-eqb at (length bytes) (omega arith); flags = refl }
  bodies_back (s ∷ more) i k at tail h held few long is table =
      let sounds = first_in_order s more h in
      let ident = eqb-true (length s.agreed.name.ident.bytes) 17 (and_left (eqb (length s.agreed.name.ident.bytes) 17) _ held) in
      let room = has_room s sounds.first ident (omega arith) in
      let parts = in_order s sounds.first in
      let all = length-append (body_of s) (bodies_of more) in
      let head_size_lem = head_long s room in
      let with_orders = length-append (head_of s) (orders_of s.rows) in
      let count = count_there s more at room is in
      let body = body_there s more at room is in
      let head = head_there s more at room is in
      let next = at + length (body_of s) in
      let rest =
      bodies_back more (suc i) (k + length s.rows) next tail sounds.rest (and_right (eqb (length s.agreed.name.ident.bytes) 17) _ held) (omega arith) (omega arith)
      (body_behind s more at room is) (table_behind s more i at tail table (omega arith) (omega arith)) in
      let entry = entry_there s more i at tail table (omega arith) (omega arith) in
      record {
        book = (λ j. shipment_in (head j) (rows_there s more at room is parts.rows_sound j) ∷ book_from bytes (at + body j) (length more)) ∙ (λ j. head_back s room j ∷ rest.book j);
        whole =
            both_yes (leb (at + head_size) (length bytes)) _ (le-leb (at + head_size) (length bytes) (omega arith))
            (both_yes (leb (k + count_from bytes at) most_rows) _ (le-leb (k + count_from bytes at) most_rows (omega arith))
            (both_yes (leb (at + body_from bytes at) (length bytes)) _ (le-leb (at + body_from bytes at) (length bytes) (omega arith))
            (both_yes (is_entry bytes i at (body_from bytes at)) _ (ap (λ (n : ℕ). is_entry bytes i at n) body ∙ entry)
            ((λ j. whole_from bytes (suc i) (k + count j) (at + body j) (length more)) ∙ rest.whole))));
        flags =
            both_yes (flags_in_form (head_from bytes at)) _ (ap flags_in_form head ∙ flags_back s room) ((λ j. flags_from_bytes bytes (at + body j) (length more)) ∙ rest.flags);
      }

-- how long a table and bodies are
contents_long : (book : Book) (start : ℕ) → length (contents_from start book) ≡ 8 * length book
unfolding contents_from
contents_long [] start = refl
contents_long (s ∷ book) start =
    let a = length-append (bytes_of 4 start ++ bytes_of 4 (length (body_of s))) (contents_from (start + length (body_of s)) book) in
    let b = contents_long book (start + length (body_of s)) in
    omega arith

pub bodies_long : (book : Book) → shipments_sound book ≡ true → idents_held book ≡ true → rows_in book ≤ most_rows → length (bodies_of book) ≡ head_size * length book + row_size * rows_in book
unfolding bodies_of idents_held
bodies_long [] h held few = refl
bodies_long (s ∷ book) h held few =
    let sounds = first_in_order s book h in
    let ident = eqb-true (length s.agreed.name.ident.bytes) 17 (and_left (eqb (length s.agreed.name.ident.bytes) 17) _ held) in
    let room = has_room s sounds.first ident (omega arith) in
    let rest = bodies_long book sounds.rest (and_right (eqb (length s.agreed.name.ident.bytes) 17) _ held) (omega arith) in
    let a = length-append (body_of s) (bodies_of book) in
    let b = length-append (head_of s) (orders_of s.rows) in
    let c = head_long s room in
    let d = orders_long s.rows in
    omega arith

-- the whole
pub record Unstored (book : Book) : Type 0 where
  pub whole : is_whole (stored book) ≡ true
  pub flags : flags_of (stored book) ≡ true
  pub same : book_of (stored book) ≡ book

pub stored_long : (book : Book) → Storable book → length (stored book) ≡ 2 + (8 + head_size) * length book + row_size * rows_in book
unfolding stored
stored_long book is =
    let parts = book_in_order book is.is_sound in
    let a = length-append (contents_from (2 + 8 * length book) book) (bodies_of book) in
    let b = contents_long book (2 + 8 * length book) in
    let c = bodies_long book parts.shipments is.is_held parts.rows_fit in
    omega arith

pub unstored : (book : Book) → Storable book → Unstored book
unfolding is_whole stored
unstored book is =
    let parts = book_in_order book is.is_sound in
    let n = length book in
    let at = 2 + 8 * n in
    let contents = contents_from at book in
    let bodies = bodies_of book in
    let bytes : List ℕ = form ∷ n ∷ (contents ++ bodies) in
    let few = parts.few in
    let fit = parts.rows_fit in
    let long = stored_long book is in
    let table_size = contents_long book at in
    let bodies_size = bodies_long book parts.shipments is.is_held fit in
    let here : 2 + 8 * 0 ≡ 2 = refl in
    let back =
    bodies_back bytes (omega arith) book 0 0 at bodies parts.shipments is.is_held (omega arith) (omega arith)
    (behind_field bytes 2 contents bodies (8 * n) table_size refl) refl in
    record {
      whole =
          both_yes (leb 2 (length bytes)) _ (le-leb 2 (length bytes) (omega arith))
          (both_yes true _ refl
          (both_yes (leb n most_shipments) _ (le-leb n most_shipments few)
          (both_yes (leb at (length bytes)) _ (le-leb at (length bytes) (omega arith)) back.whole)));
      flags = back.flags;
      same = back.book;
    }

pub stored_apart : StoredApart
stored_apart a b is_a is_b same = sym (unstored a is_a).same ∙ ap book_of same ∙ (unstored b is_b).same

pub stored_fits : StoredFits
stored_fits book is =
    let parts = book_in_order book is.is_sound in
    let few = parts.few in
    let rows = parts.rows_fit in
    let long = stored_long book is in
    omega arith
