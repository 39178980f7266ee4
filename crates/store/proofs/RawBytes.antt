-- The bytes of the book in sound memory are those that lie there.
-- Assumes nothing.
use mathlib.Core.Path.{◌≡◌, refl, sym, ◌∙◌, ap}
use mathlib.Core.Bool.{true}
use mathlib.Core.List.{List, ◌∷◌, ◌++◌, append_assoc}
use Prim.Native.Nat.{ℕ, zero, suc, ◌+◌, ◌*◌, ◌≤◌, ◌<◌}
use native.Mathlib.Omega.{arith}
use lib.ListN.{length, get_or, take, drop, length-append}
use Rattle.text.proofs.Branches.{and_left, and_right}
use Rattle.fee.specs.declared.Terms.{Terms}
use Rattle.model.specs.Shipment.{most_shipments, most_rows}
use Rattle.model.specs.Book.{rows_in}
use Rattle.model.specs.Sound.{rows_sound, shipments_sound}
use Rattle.model.specs.declared.Stage.{Stage}
use Rattle.model.proofs.SoundParts.{in_order}
use Rattle.model.proofs.StaysSound.{book_in_order, first_in_order}
use Rattle.memory.specs.Layout.{head_size, head_at, amount_at, fee_at, remainder_at, code_at, size, head_bytes, row_bytes}
use Rattle.memory.specs.Rows.{row_of}
use Rattle.memory.specs.Heads.{flags_in_form, shipment_in}
use Rattle.memory.specs.Read.{rows_from, orders_at, shipment_at, shipments_from, flags_from, shipments_in, book_in, sound_in}
use Rattle.memory.specs.Inner.Enter.{bytes_of}
use Rattle.memory.proofs.Columns.{rows_many}
use Rattle.sound.proofs.ReadLaws.{shipments_many}
use Rattle.store.specs.Stored.{form, head_of, orders_of, body_of, contents_from, bodies_of, stored}
use Rattle.store.specs.Inner.Raw.{raw_orders, raw_bodies, raw_length, raw_contents, raw_stored}
use Rattle.store.proofs.Heads.{head_forth}
use Rattle.store.proofs.Orders.{orders_long, first_row, order_forth}
use Rattle.store.proofs.Walks.{joined_small, part_small}
use Rattle.store.proofs.SoundMemory.{head_size_lem, row_size_lem, long_enough, flags_in_form_lem, book_sound, few_shipments}

module _ (m : List ℕ) (small : (j : ℕ) → get_or m j 0 < 256) (enough : size ≤ length m) where
  head_small : (i j : ℕ) → get_or (head_bytes m i) j 0 < 256
  unfolding head_bytes
  head_small i j = part_small m small (head_at i) head_size j

  row_small : (k j : ℕ) → get_or (row_bytes m k) j 0 < 256
  unfolding row_bytes
  row_small k =
      let amount = take 4 (drop (amount_at k) m) in
      let code = take 1 (drop (code_at k) m) in
      let fee = take 4 (drop (fee_at k) m) in
      let remainder = take 2 (drop (remainder_at k) m) in
      joined_small amount (code ++ (fee ++ remainder)) (part_small m small (amount_at k) 4)
      (joined_small code (fee ++ remainder) (part_small m small (code_at k) 1)
      (joined_small fee remainder (part_small m small (fee_at k) 4) (part_small m small (remainder_at k) 2)))

  orders_raw : (terms : Terms) (stage : Stage) (k n : ℕ) → k + n ≤ most_rows → rows_sound terms stage (rows_from m k n) ≡ true → orders_of (rows_from m k n) ≡ raw_orders m k n
  unfolding rows_from orders_of raw_orders
  orders_raw terms stage k zero room h = refl
  orders_raw terms stage k (suc n) room h =
      let parts = first_row terms stage (row_of (row_bytes m k)) (rows_from m (suc k) n) h in
      let here = order_forth (row_bytes m k) (row_size_lem m enough k (omega arith)) (row_small k) parts.0.known in
      let rest = orders_raw terms stage (suc k) n (omega arith) parts.1 in
      λ i. here i ++ rest i

  head_raw : (i k : ℕ) → i < most_shipments → flags_in_form (head_bytes m i) ≡ true → head_of (shipment_at m i k) ≡ head_bytes m i
  head_raw i k few flags =
      head_forth (head_bytes m i) (head_size_lem m enough i few) (head_small i) flags (rows_from m k (orders_at m i)) (sym (rows_many m k (orders_at m i)))

  body_size : (i k : ℕ) → i < most_shipments → flags_in_form (head_bytes m i) ≡ true → length (body_of (shipment_at m i k)) ≡ raw_length m i
  unfolding shipment_in
  body_size i k few flags =
      let a = length-append (head_of (shipment_at m i k)) (orders_of (rows_from m k (orders_at m i))) in
      let b = ap (λ (l : List ℕ). length l) (head_raw i k few flags) in
      let c = head_size_lem m enough i few in
      let d = orders_long (rows_from m k (orders_at m i)) in
      let e = rows_many m k (orders_at m i) in
      omega arith

  bodies_raw : (i k n : ℕ) → i + n ≤ most_shipments → k + rows_in (shipments_from m i k n) ≤ most_rows → flags_from m i n ≡ true → shipments_sound (shipments_from m i k n) ≡ true
      → bodies_of (shipments_from m i k n) ≡ raw_bodies m i k n
  unfolding shipments_from flags_from bodies_of raw_bodies shipment_in
  bodies_raw i k zero room few flags h = refl
  bodies_raw i k (suc n) room few flags h =
      let s = shipment_at m i k in
      let others = shipments_from m (suc i) (k + orders_at m i) n in
      let sounds = first_in_order s others h in
      let many = rows_many m k (orders_at m i) in
      let here = and_left (flags_in_form (head_bytes m i)) (flags_from m (suc i) n) flags in
      let head = head_raw i k (omega arith) here in
      let orders = orders_raw s.agreed.terms s.stage k (orders_at m i) (omega arith) (in_order s sounds.first).rows_sound in
      let rest = bodies_raw (suc i) (k + orders_at m i) n (omega arith) (omega arith) (and_right (flags_in_form (head_bytes m i)) (flags_from m (suc i) n) flags) sounds.rest in
      append_assoc (head_of s) (orders_of (rows_from m k (orders_at m i))) (bodies_of others) ∙ (λ j. head j ++ (orders j ++ rest j))

  contents_raw : (i k start n : ℕ) → i + n ≤ most_shipments → flags_from m i n ≡ true → contents_from start (shipments_from m i k n) ≡ raw_contents m i start n
  unfolding shipments_from flags_from contents_from raw_contents
  contents_raw i k start zero room flags = refl
  contents_raw i k start (suc n) room flags =
      let body = body_size i k (omega arith) (and_left (flags_in_form (head_bytes m i)) (flags_from m (suc i) n) flags) in
      let others = shipments_from m (suc i) (k + orders_at m i) n in
      let rest = contents_raw (suc i) (k + orders_at m i) (start + raw_length m i) n (omega arith) (and_right (flags_in_form (head_bytes m i)) (flags_from m (suc i) n) flags) in
      (λ j. (bytes_of 4 start ++ bytes_of 4 (body j)) ++ contents_from (start + body j) others)
      ∙ append_assoc (bytes_of 4 start) (bytes_of 4 (raw_length m i)) (contents_from (start + raw_length m i) others)
      ∙ ap (λ (l : List ℕ). bytes_of 4 start ++ (bytes_of 4 (raw_length m i) ++ l)) rest

-- of sound memory
module _ (m : List ℕ) (small : (j : ℕ) → get_or m j 0 < 256) (h : sound_in m ≡ true) where
  abbrev n : ℕ
  n = shipments_in m

  pub stored_raw : stored (book_in m) ≡ raw_stored m
  unfolding stored raw_stored book_in
  stored_raw =
      let parts = book_in_order (book_in m) (book_sound m h) in
      let rows = parts.rows_fit in
      let many = shipments_many m 0 0 n in
      let contents = contents_raw m small (long_enough m h) 0 0 (2 + 8 * n) n (omega (arith, few_shipments m h)) (flags_in_form_lem m h) in
      let bodies = bodies_raw m small (long_enough m h) 0 0 n (omega (arith, few_shipments m h)) (omega arith) (flags_in_form_lem m h) parts.shipments in
      (λ j. form ∷ many j ∷ (contents_from (2 + 8 * many j) (shipments_from m 0 0 n) ++ bodies_of (shipments_from m 0 0 n)))
      ∙ (λ j. form ∷ n ∷ (contents j ++ bodies j))
