-- Bytes that are walked as a whole stored book are those of the book that the walk reads.
-- Assumes nothing.
use mathlib.Core.Path.{◌≡◌, refl, sym, ◌∙◌, ap}
use mathlib.Core.Bool.{true}
use mathlib.Core.List.{List, [], ◌∷◌, ◌++◌, append_assoc}
use Prim.Native.Nat.{ℕ, zero, suc, ◌+◌, ◌*◌, ◌≤◌, ◌<◌}
use native.Mathlib.Omega.{arith}
use borrow.Author.Tests.{leb-true, eqb-true}
use lib.Dec.{leb, eqb}
use lib.ListN.{length, get_or, take, drop, length-append, length-drop, take-append-drop}
use lib.Seq.{drop-drop, drop-length, length-take-le, get_or-drop}
use Rattle.text.proofs.Branches.{and_left, and_right}
use Rattle.model.specs.Shipment.{most_shipments, most_rows}
use Rattle.fee.specs.declared.Terms.{Terms}
use Rattle.model.specs.Sound.{rows_sound, shipments_sound, sound}
use Rattle.model.specs.declared.Row.{Row}
use Rattle.model.specs.declared.Stage.{Stage}
use Rattle.model.proofs.SoundParts.{in_order}
use Rattle.model.proofs.StaysSound.{book_in_order, first_in_order}
use Rattle.memory.specs.Number.{number_at}
use Rattle.memory.specs.Layout.{head_size, row_size}
use Rattle.memory.specs.Rows.{row_of}
use Rattle.memory.specs.Heads.{flags_in_form, shipment_in}
use Rattle.memory.specs.Inner.Enter.{bytes_of}
use Rattle.store.specs.Stored.{form, head_of, order_of, orders_of, contents_from, bodies_of, stored}
use Rattle.store.specs.Inner.Walk.{head_from, count_from, body_from, rows_from_bytes, book_from, is_entry, whole_from, flags_from_bytes, is_whole, book_of, flags_of}
use Rattle.store.proofs.Fields.{number_then, byte_then}
use Rattle.store.proofs.Heads.{head_forth}
use Rattle.store.proofs.Orders.{orders_long, first_row, order_forth}

pub rows_many : (bytes : List ℕ) (at n : ℕ) → length (rows_from_bytes bytes at n) ≡ n
unfolding rows_from_bytes
rows_many bytes at zero = refl
rows_many bytes at (suc n) = ap suc (rows_many bytes (at + row_size) n)

pub books_many : (bytes : List ℕ) (at n : ℕ) → length (book_from bytes at n) ≡ n
unfolding book_from
books_many bytes at zero = refl
books_many bytes at (suc n) = ap suc (books_many bytes (at + body_from bytes at) n)

taken_small : (n : ℕ) (l : List ℕ) → ((j : ℕ) → get_or l j 0 < 256) → (j : ℕ) → get_or (take n l) j 0 < 256
taken_small zero l small j = omega arith
taken_small (suc n) [] small j = small j
taken_small (suc n) (b ∷ l) small zero = small 0
taken_small (suc n) (b ∷ l) small (suc j) = taken_small n l (λ i. small (suc i)) j

pub joined_small : (a b : List ℕ) → ((j : ℕ) → get_or a j 0 < 256) → ((j : ℕ) → get_or b j 0 < 256) → (j : ℕ) → get_or (a ++ b) j 0 < 256
joined_small [] b small_a small_b j = small_b j
joined_small (x ∷ a) b small_a small_b zero = small_a 0
joined_small (x ∷ a) b small_a small_b (suc j) = joined_small a b (λ i. small_a (suc i)) small_b j

module _ (bytes : List ℕ) (small : (j : ℕ) → get_or bytes j 0 < 256) where
  pub part_small : (at n j : ℕ) → get_or (take n (drop at bytes)) j 0 < 256
  part_small at n j = taken_small n (drop at bytes) (λ i. rw (get_or-drop at bytes i 0) (small (at + i))) j

  -- bytes and those behind them
  then_rest : (at n : ℕ) → take n (drop at bytes) ++ drop (at + n) bytes ≡ drop at bytes
  then_rest at n = ap (λ (l : List ℕ). take n (drop at bytes) ++ l) (sym (drop-drop n at bytes)) ∙ take-append-drop n (drop at bytes)

  -- orders
  rows_forth : (terms : Terms) (stage : Stage) (at n : ℕ) → at + row_size * n ≤ length bytes → rows_sound terms stage (rows_from_bytes bytes at n) ≡ true
      → {rest : List ℕ} → rest ≡ drop (at + row_size * n) bytes → orders_of (rows_from_bytes bytes at n) ++ rest ≡ drop at bytes
  unfolding rows_from_bytes orders_of
  rows_forth terms stage at zero room h is = let here : at + row_size * 0 ≡ at = omega arith in is ∙ ap (λ (j : ℕ). drop j bytes) here
  rows_forth terms stage at (suc n) room h {rest} is =
      let row = take row_size (drop at bytes) in
      let parts = first_row terms stage (row_of row) (rows_from_bytes bytes (at + row_size) n) h in
      let place : at + row_size + row_size * n ≡ at + row_size * suc n = omega arith in
      let next = rows_forth terms stage (at + row_size) n (omega arith) parts.1 (is ∙ ap (λ (j : ℕ). drop j bytes) (sym place)) in
      let left = length-drop at bytes in
      let long = length-take-le row_size (drop at bytes) (omega arith) in
      let here = order_forth row long (part_small at row_size) parts.0.known in
      append_assoc (order_of (row_of row)) (orders_of (rows_from_bytes bytes (at + row_size) n)) rest ∙ (λ i. here i ++ next i) ∙ then_rest at row_size

  -- a head
  one_head : (at c : ℕ) (rows : List Row) → at + head_size ≤ length bytes → flags_in_form (head_from bytes at) ≡ true → length rows ≡ c → count_from bytes at ≡ c
      → head_of (shipment_in (head_from bytes at) rows) ≡ head_from bytes at
  one_head at c rows room flags many count =
      let left = length-drop at bytes in
      head_forth (head_from bytes at) (length-take-le head_size (drop at bytes) (omega arith)) (part_small at head_size) flags rows (count ∙ sym many)

  -- a body is as long as its head says
  body_long : (at : ℕ) (rows : List Row) → at + head_size ≤ length bytes → flags_in_form (head_from bytes at) ≡ true → length rows ≡ count_from bytes at
      → length (head_of (shipment_in (head_from bytes at) rows) ++ orders_of rows) ≡ body_from bytes at
  body_long at rows room flags many =
      let head = ap (λ (l : List ℕ). length l) (one_head at (count_from bytes at) rows room flags many refl) in
      let left = length-drop at bytes in
      let long = length-take-le head_size (drop at bytes) (omega arith) in
      let a = length-append (head_of (shipment_in (head_from bytes at) rows)) (orders_of rows) in
      let b = orders_long rows in
      omega arith

  -- bodies
  bodies_forth : (i k at n : ℕ) → whole_from bytes i k at n ≡ true → flags_from_bytes bytes at n ≡ true → shipments_sound (book_from bytes at n) ≡ true
      → bodies_of (book_from bytes at n) ≡ drop at bytes
  unfolding whole_from flags_from_bytes book_from bodies_of shipment_in
  bodies_forth i k at zero whole flags h = sym (ap (λ (j : ℕ). drop j bytes) (eqb-true at (length bytes) whole) ∙ drop-length bytes)
  bodies_forth i k at (suc n) whole flags h =
      let c = count_from bytes at in
      let next = at + body_from bytes at in
      let rows = rows_from_bytes bytes (at + head_size) c in
      let s = shipment_in (head_from bytes at) rows in
      let fits = and_right (leb (at + head_size) (length bytes)) _ whole in
      let behind = and_right (leb (k + c) most_rows) _ fits in
      let room = leb-true next (length bytes) (and_left (leb next (length bytes)) _ behind) in
      let table = and_right (leb next (length bytes)) _ behind in
      let later = and_right (is_entry bytes i at (body_from bytes at)) _ table in
      let sounds = first_in_order s (book_from bytes next n) h in
      let rest = bodies_forth (suc i) (k + c) next n later (and_right (flags_in_form (head_from bytes at)) _ flags) sounds.rest in
      let place : at + head_size + row_size * c ≡ next = omega arith in
      let head = one_head at c rows (leb-true (at + head_size) (length bytes) (and_left (leb (at + head_size) (length bytes)) _ whole)) (and_left (flags_in_form (head_from bytes at)) _ flags) (rows_many bytes (at + head_size) c) refl in
      let orders = rows_forth s.agreed.terms s.stage (at + head_size) c (omega arith) (in_order s sounds.first).rows_sound (rest ∙ ap (λ (j : ℕ). drop j bytes) (sym place)) in
      append_assoc (head_of s) (orders_of rows) (bodies_of (book_from bytes next n)) ∙ (λ j. head j ++ orders j) ∙ then_rest at head_size

  -- the contents table
  contents_forth : (i k at n : ℕ) → whole_from bytes i k at n ≡ true → flags_from_bytes bytes at n ≡ true → 2 + 8 * (i + n) ≤ length bytes
      → {rest : List ℕ} → rest ≡ drop (2 + 8 * (i + n)) bytes → contents_from at (book_from bytes at n) ++ rest ≡ drop (2 + 8 * i) bytes
  unfolding whole_from flags_from_bytes book_from contents_from shipment_in
  contents_forth i k at zero whole flags room is = let here : 2 + 8 * (i + 0) ≡ 2 + 8 * i = omega arith in is ∙ ap (λ (j : ℕ). drop j bytes) here
  contents_forth i k at (suc n) whole flags room {rest} is =
      let c = count_from bytes at in
      let long = body_from bytes at in
      let next = at + long in
      let rows = rows_from_bytes bytes (at + head_size) c in
      let s = shipment_in (head_from bytes at) rows in
      let place = 2 + 8 * i in
      let fits = and_right (leb (at + head_size) (length bytes)) _ whole in
      let behind = and_right (leb (k + c) most_rows) _ fits in
      let table = and_right (leb next (length bytes)) _ behind in
      let entry = and_left (is_entry bytes i at long) _ table in
      let later = and_right (is_entry bytes i at long) _ table in
      let start = eqb-true (number_at 4 bytes place) at (and_left (eqb (number_at 4 bytes place) at) _ entry) in
      let length_there = eqb-true (number_at 4 bytes (place + 4)) long (and_right (eqb (number_at 4 bytes place) at) _ entry) in
      let body = body_long at rows (leb-true (at + head_size) (length bytes) (and_left (leb (at + head_size) (length bytes)) _ whole)) (and_left (flags_in_form (head_from bytes at)) _ flags) (rows_many bytes (at + head_size) c) in
      let all : 2 + 8 * (i + suc n) ≡ 2 + 8 * (suc i + n) = omega arith in
      let more = contents_forth (suc i) (k + c) next n later (and_right (flags_in_form (head_from bytes at)) _ flags) (omega arith) (is ∙ ap (λ (j : ℕ). drop j bytes) all) in
      let after : 2 + 8 * suc i ≡ place + 4 + 4 = omega arith in
      let second = number_then bytes small 4 (place + 4) (omega arith) (more ∙ ap (λ (j : ℕ). drop j bytes) after) in
      let first = number_then bytes small 4 place (omega arith) second in
      let others = contents_from next (book_from bytes next n) in
      (λ j. ((bytes_of 4 at ++ bytes_of 4 (body j)) ++ contents_from (at + body j) (book_from bytes next n)) ++ rest)
      ∙ append_assoc (bytes_of 4 at ++ bytes_of 4 long) others rest
      ∙ append_assoc (bytes_of 4 at) (bytes_of 4 long) (others ++ rest)
      ∙ (λ j. bytes_of 4 (sym start j) ++ (bytes_of 4 (sym length_there j) ++ (others ++ rest)))
      ∙ first

  -- all of it
  pub whole_is_stored : is_whole bytes ≡ true → flags_of bytes ≡ true → sound (book_of bytes) ≡ true → stored (book_of bytes) ≡ bytes
  unfolding is_whole stored
  whole_is_stored whole flags is_sound =
      let n = get_or bytes 1 0 in
      let at = 2 + 8 * n in
      let two = leb-true 2 (length bytes) (and_left (leb 2 (length bytes)) _ whole) in
      let formed = and_right (leb 2 (length bytes)) _ whole in
      let first = eqb-true (get_or bytes 0 0) form (and_left (eqb (get_or bytes 0 0) form) _ formed) in
      let counted = and_right (eqb (get_or bytes 0 0) form) _ formed in
      let tabled = and_right (leb n most_shipments) _ counted in
      let room = leb-true at (length bytes) (and_left (leb at (length bytes)) _ tabled) in
      let walked = and_right (leb at (length bytes)) _ tabled in
      let sounds = book_in_order (book_of bytes) is_sound in
      let bodies = bodies_forth 0 0 at n walked flags sounds.shipments in
      let here : 2 + 8 * (0 + n) ≡ at = omega arith in
      let contents = contents_forth 0 0 at n walked flags (omega arith) (bodies ∙ ap (λ (j : ℕ). drop j bytes) (sym here)) in
      let many = books_many bytes at n in
      let tail = byte_then bytes small 1 (omega arith) contents in
      let whole_of = byte_then bytes small 0 (omega arith) tail in
      (λ j. form ∷ many j ∷ (contents_from (2 + 8 * many j) (book_of bytes) ++ bodies_of (book_of bytes)))
      ∙ ap (λ (b : ℕ). b ∷ n ∷ (contents_from at (book_of bytes) ++ bodies_of (book_of bytes))) (sym first)
      ∙ whole_of
