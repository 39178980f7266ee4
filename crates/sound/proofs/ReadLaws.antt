-- How much is read of the memory, and what a sound one holds.
-- Assumes nothing.
use mathlib.Core.Path.{◌≡◌, refl, ap}
use mathlib.Core.Bool.{true}
use mathlib.Core.List.{List}
use Prim.Native.Nat.{ℕ, zero, suc, ◌+◌, ◌≤◌}
use native.Mathlib.Omega.{arith}
use borrow.Author.Tests.{leb-true}
use lib.ListN.{length}
use Rattle.model.specs.Shipment.{most_shipments, most_rows}
use Rattle.model.specs.Book.{rows_in}
use Rattle.model.specs.Sound.{shipments_sound, sound}
use Rattle.model.proofs.SoundParts.{halves}
use Rattle.memory.specs.Layout.{size}
use Rattle.memory.specs.Heads.{shipment_in}
use Rattle.memory.specs.Read.{orders_at, shipments_from, flags_from, shipments_in, book_in, sound_in}
use Rattle.memory.proofs.Columns.{rows_many}

module _ (m : List ℕ) where
  pub shipments_many : (i k n : ℕ) → length (shipments_from m i k n) ≡ n
  unfolding shipments_from
  shipments_many i k zero = refl
  shipments_many i k (suc n) = ap suc (shipments_many (suc i) (k + orders_at m i) n)

  -- the rows of one shipment, and of those after it
  pub rows_next : (i k n : ℕ) → rows_in (shipments_from m i k (suc n)) ≡ orders_at m i + rows_in (shipments_from m (suc i) (k + orders_at m i) n)
  unfolding shipments_from shipment_in
  rows_next i k n = ap (λ rows. rows + rows_in (shipments_from m (suc i) (k + orders_at m i) n)) (rows_many m k (orders_at m i))

pub record SoundParts (m : List ℕ) : Type 0 where
  pub enough : size ≤ length m
  pub flags : flags_from m 0 (shipments_in m) ≡ true
  pub book : sound (book_in m) ≡ true
  pub few : shipments_in m ≤ most_shipments
  pub rows : rows_in (book_in m) ≤ most_rows
  pub shipments : shipments_sound (book_in m) ≡ true

pub sound_parts : (m : List ℕ) → sound_in m ≡ true → SoundParts m
unfolding sound_in sound book_in
sound_parts m h =
    let few = leb-true (length (book_in m)) most_shipments (search halves) in
    record {
      enough = leb-true size (length m) (search halves);
      flags = search halves;
      book = search halves;
      few = omega (arith, shipments_many m 0 0 (shipments_in m));
      rows = leb-true (rows_in (book_in m)) most_rows (search halves);
      shipments = search halves depth 7;
    }
