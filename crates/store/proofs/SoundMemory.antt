-- The book in sound memory can be stored, and memory that is longer holds it too.
-- Assumes nothing.
use mathlib.Core.Path.{◌≡◌, refl, ◌∙◌, ap}
use mathlib.Core.Bool.{true, ◌&&◌}
use mathlib.Core.List.{List, ◌++◌}
use mathlib.Core.Option.{some}
use Prim.Native.Nat.{ℕ, zero, suc, ◌+◌, ◌≤◌, ◌<◌}
use native.Mathlib.Omega.{arith}
use borrow.Author.Tests.{le-leb, eq-eqb}
use lib.Dec.{eqb}
use lib.ListN.{length, take, drop, length-append, length-drop, get_or-append}
use lib.Seq.{length-take-le, take-append-le, drop-append-le}
use Rattle.text.proofs.Branches.{both_yes}
use Rattle.model.specs.Shipment.{most_shipments, most_rows}
use Rattle.model.specs.Sound.{sound}
use Rattle.model.proofs.StaysSound.{book_in_order}
use Rattle.memory.specs.Layout.{head_size, head_at, amount_at, fee_at, remainder_at, code_at, size, head_bytes, row_bytes, IsHead, IsRow}
use Rattle.memory.specs.Heads.{flags_in_form, shipment_in}
use Rattle.memory.specs.Read.{orders_at, shipments_from, flags_from, shipments_in, book_in, sound_in, read_book}
use Rattle.memory.proofs.Parts.{part_long}
use Rattle.sound.proofs.ReadLaws.{sound_parts}
use Rattle.book.proofs.Appending.{shipments_alike}
use Rattle.store.specs.Stored.{idents_held, Storable}

-- heads that are as they were have their flags
pub flags_same : (m m' : List ℕ) (i n : ℕ) → ((j : ℕ) → i ≤ j → j < i + n → head_bytes m' j ≡ head_bytes m j) → flags_from m' i n ≡ flags_from m i n
unfolding flags_from
flags_same m m' i zero heads = refl
flags_same m m' i (suc n) heads =
    let here = ap flags_in_form (heads i (omega arith) (omega arith)) in
    let rest = flags_same m m' (suc i) n (λ j from below. heads j (omega arith) (omega arith)) in
    λ t. here t && rest t

module _ (m : List ℕ) (enough : size ≤ length m) where
  pub head_size_lem : (i : ℕ) → i < most_shipments → IsHead (head_bytes m i)
  unfolding head_bytes
  head_size_lem i few = part_long m (head_at i) head_size (omega arith)

  pub row_size_lem : (k : ℕ) → k < most_rows → IsRow (row_bytes m k)
  unfolding row_bytes
  row_size_lem k few =
      let amount = part_long m (amount_at k) 4 (omega arith) in
      let code = part_long m (code_at k) 1 (omega arith) in
      let fee = part_long m (fee_at k) 4 (omega arith) in
      let remainder = part_long m (remainder_at k) 2 (omega arith) in
      simp length-append (omega arith)

  idents_held_lem : (i k n : ℕ) → i + n ≤ most_shipments → idents_held (shipments_from m i k n) ≡ true
  unfolding shipments_from idents_held shipment_in
  idents_held_lem i k zero room = refl
  idents_held_lem i k (suc n) room =
      let long = head_size_lem i (omega arith) in
      both_yes (eqb (length (take 17 (head_bytes m i))) 17) _ (eq-eqb (length (take 17 (head_bytes m i))) 17 (length-take-le 17 (head_bytes m i) (omega arith)))
      (idents_held_lem (suc i) (k + orders_at m i) n (omega arith))

module _ (m : List ℕ) (h : sound_in m ≡ true) where
  abbrev n : ℕ
  n = shipments_in m

  pub long_enough : size ≤ length m
  long_enough = (sound_parts m h).enough

  pub flags_in_form_lem : flags_from m 0 n ≡ true
  flags_in_form_lem = (sound_parts m h).flags

  pub book_sound : sound (book_in m) ≡ true
  book_sound = (sound_parts m h).book

  pub few_shipments : n ≤ most_shipments
  few_shipments = (sound_parts m h).few

  pub sound_storable : Storable (book_in m)
  unfolding book_in
  sound_storable = record { is_sound = book_sound; is_held = idents_held_lem m long_enough 0 0 n (omega (arith, few_shipments)) }

  -- bytes behind the memory
  module _ (rest : List ℕ) where
    part_before : (at long : ℕ) → at + long ≤ length m → take long (drop at (m ++ rest)) ≡ take long (drop at m)
    part_before at long within =
        let left = length-drop at m in
        ap (λ (l : List ℕ). take long l) (drop-append-le at m rest (omega arith)) ∙ take-append-le long (drop at m) rest (omega arith)

    head_before : (j : ℕ) → j < most_shipments → head_bytes (m ++ rest) j ≡ head_bytes m j
    unfolding head_bytes
    head_before j few = let enough = long_enough in part_before (head_at j) head_size (omega arith)

    row_before : (r : ℕ) → r < most_rows → row_bytes (m ++ rest) r ≡ row_bytes m r
    unfolding row_bytes
    row_before r few =
        let enough = long_enough in
        let amount = part_before (amount_at r) 4 (omega arith) in
        let code = part_before (code_at r) 1 (omega arith) in
        let fee = part_before (fee_at r) 4 (omega arith) in
        let remainder = part_before (remainder_at r) 2 (omega arith) in
        λ i. amount i ++ (code i ++ (fee i ++ remainder i))

    number_before : shipments_in (m ++ rest) ≡ n
    number_before = let enough = long_enough in get_or-append m rest 0 0 (omega arith)

    book_before : book_in (m ++ rest) ≡ book_in m
    unfolding book_in
    book_before =
        let few = few_shipments in
        let rows = (book_in_order (book_in m) book_sound).rows_fit in
        ap (λ (j : ℕ). shipments_from (m ++ rest) 0 0 j) number_before
        ∙ shipments_alike m (m ++ rest) 0 0 n (λ j from below. head_before j (omega arith)) (λ r from below. row_before r (omega arith))

    pub read_before : read_book (m ++ rest) ≡ some (book_in m)
    unfolding read_book sound_in
    read_before =
        let few = few_shipments in
        let enough = long_enough in
        let long = length-append m rest in
        let flags =
        ap (λ (j : ℕ). flags_from (m ++ rest) 0 j) number_before ∙ flags_same m (m ++ rest) 0 n (λ j from below. head_before j (omega arith)) ∙ flags_in_form_lem in
        rw (le-leb size (length (m ++ rest)) (omega arith), flags, book_before, book_sound)
