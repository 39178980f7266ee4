-- Soundness as code walks it, shipment after shipment and then the identifiers, is soundness of the book that the memory holds.
-- Assumes nothing.
use mathlib.Core.Path.{◌≡◌, refl}
use mathlib.Core.Bool.{Bool, true, false, not, cond, ◌&&◌}
use mathlib.Core.List.{List}
use Prim.Native.Nat.{ℕ, zero, suc, ◌+◌, ◌≤◌}
use native.Mathlib.Omega.{arith}
use borrow.Author.Tests.{leb-true, le-leb}
use lib.Dec.{leb}
use lib.ListN.{length}
use Rattle.text.proofs.Branches.{both_yes, both_ways}
use Rattle.epe.specs.Ident.{same_ident}
use Rattle.model.specs.Shipment.{most_shipments, most_rows}
use Rattle.model.specs.Book.{is_unknown, rows_in}
use Rattle.model.specs.Sound.{shipment_sound, shipments_sound, sound}
use Rattle.model.proofs.SoundParts.{halves}
use Rattle.memory.specs.Layout.{size, head_bytes}
use Rattle.memory.specs.Heads.{name_in, flags_in_form, shipment_in}
use Rattle.memory.specs.Read.{orders_at, shipment_at, shipments_from, flags_from, shipments_in, book_in, sound_in}
use Rattle.sound.specs.Inner.Walk.{sound_at, sound_from, others_from, apart_from, WalkIsSound}
use Rattle.sound.proofs.ReadLaws.{shipments_many, rows_next, sound_parts}

unless : (t u : Bool) → cond t false u ≡ (not t && u)
unless true u = refl
unless false u = refl

module _ (m : List ℕ) where
  unknown_others : (head : List ℕ) (i k n : ℕ) → is_unknown (name_in head).ident (shipments_from m i k n) ≡ others_from head m i n
  unfolding shipments_from shipment_in others_from
  unknown_others head i k zero = refl
  unknown_others head i k (suc n) =
      rw (unknown_others head (suc i) (k + orders_at m i) n)
      (unless (same_ident (name_in head).ident (name_in (head_bytes m i)).ident) (others_from head m (suc i) n))

  -- a sound book's shipments are sound by the walk
  walked : (i k n : ℕ) → flags_from m i n ≡ true → k + rows_in (shipments_from m i k n) ≤ most_rows
      → shipments_sound (shipments_from m i k n) ≡ true → sound_from m i k n ≡ true
  unfolding flags_from shipments_from shipments_sound sound_from sound_at
  walked i k zero flags rows h = refl
  walked i k (suc n) flags rows h =
      let room = le-leb (k + orders_at m i) most_rows (omega (arith, rows_next m i k n)) in
      both_yes _ _ (both_yes (flags_in_form (head_bytes m i)) _ (search halves) (both_yes _ (shipment_sound (shipment_at m i k)) room (search halves)))
      (walked (suc i) (k + orders_at m i) n (search halves) (omega (arith, rows_next m i k n)) (search halves))

  -- and apart
  apart : (i k n : ℕ) → shipments_sound (shipments_from m i k n) ≡ true → apart_from m i n ≡ true
  unfolding shipments_from shipments_sound shipment_in apart_from
  apart i k zero h = refl
  apart i k (suc n) h =
      let known : is_unknown (name_in (head_bytes m i)).ident (shipments_from m (suc i) (k + orders_at m i) n) ≡ true = search halves in
      both_yes _ _ (rw (unknown_others (head_bytes m i) (suc i) (k + orders_at m i) n) at known) (apart (suc i) (k + orders_at m i) n (search halves))

  -- what the walk tells
  walk_flags : (i k n : ℕ) → sound_from m i k n ≡ true → flags_from m i n ≡ true
  unfolding flags_from sound_from sound_at
  walk_flags i k zero h = refl
  walk_flags i k (suc n) h = both_yes (flags_in_form (head_bytes m i)) _ (search halves) (walk_flags (suc i) (k + orders_at m i) n (search halves))

  walk_rows : (i k n : ℕ) → k ≤ most_rows → sound_from m i k n ≡ true → k + rows_in (shipments_from m i k n) ≤ most_rows
  unfolding shipments_from sound_from sound_at
  walk_rows i k zero room h = omega arith
  walk_rows i k (suc n) room h =
      let next = leb-true (k + orders_at m i) most_rows (search halves) in
      omega (arith, rows_next m i k n, walk_rows (suc i) (k + orders_at m i) n next (search halves))

  walk_shipments : (i k n : ℕ) → sound_from m i k n ≡ true → apart_from m i n ≡ true → shipments_sound (shipments_from m i k n) ≡ true
  unfolding shipments_from shipments_sound shipment_in sound_from sound_at apart_from
  walk_shipments i k zero h a = refl
  walk_shipments i k (suc n) h a =
      let others : others_from (head_bytes m i) m (suc i) n ≡ true = search halves in
      let unknown : is_unknown (name_in (head_bytes m i)).ident (shipments_from m (suc i) (k + orders_at m i) n) ≡ true =
      rw (unknown_others (head_bytes m i) (suc i) (k + orders_at m i) n) others in
      both_yes (shipment_sound (shipment_at m i k)) _ (search halves)
      (both_yes _ _ unknown (walk_shipments (suc i) (k + orders_at m i) n (search halves) (search halves)))

  abbrev walk : Bool
  walk = leb (shipments_in m) most_shipments && (sound_from m 0 0 (shipments_in m) && apart_from m 0 (shipments_in m))

  book_walked : sound_in m ≡ true → walk ≡ true
  unfolding book_in
  book_walked h =
      let n = shipments_in m in
      let held = sound_parts m h in
      both_yes _ _ (le-leb n most_shipments held.few)
      (both_yes _ _ (walked 0 0 n held.flags (omega (arith, held.rows)) held.shipments) (apart 0 0 n held.shipments))

  walked_book : size ≤ length m → walk ≡ true → sound_in m ≡ true
  unfolding book_in sound_in sound
  walked_book enough h =
      let n = shipments_in m in
      let each : sound_from m 0 0 n ≡ true = search halves in
      let few = leb-true n most_shipments (search halves) in
      both_yes _ _ (le-leb size (length m) enough)
      (both_yes _ _ (walk_flags 0 0 n each)
      (both_yes _ _ (le-leb (length (book_in m)) most_shipments (omega (arith, shipments_many m 0 0 n)))
      (both_yes _ _ (le-leb (rows_in (book_in m)) most_rows (omega (arith, walk_rows 0 0 n (omega arith) each)))
      (walk_shipments 0 0 n each (search halves)))))

pub walk_is_sound : WalkIsSound
walk_is_sound m enough = both_ways _ _ (book_walked m) (walked_book m enough)

pub as_walked : (m : List ℕ) (n : ℕ) (r : Bool) → size ≤ length m → n ≡ shipments_in m
    → r ≡ (leb n most_shipments && (sound_from m 0 0 n && apart_from m 0 n)) → r ≡ sound_in m
as_walked m n r enough n_is told = rw (walk_is_sound m enough, ← n_is) told
