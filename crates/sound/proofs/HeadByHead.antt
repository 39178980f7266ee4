-- A walk over the heads: what each turn leaves to do is still the whole.
-- Assumes nothing.
use mathlib.Core.Path.{◌≡◌}
use mathlib.Core.Bool.{true, not, ◌&&◌}
use mathlib.Core.List.{List}
use Prim.Native.Nat.{ℕ, suc, ◌+◌, ◌-◌, ◌≤◌, ◌<◌}
use native.Mathlib.Numerals.{add-one}
use native.Mathlib.Omega.{arith}
use borrow.Author.Tests.{leb-true}
use Rattle.epe.specs.Ident.{same_ident}
use Rattle.model.specs.Shipment.{most_rows}
use Rattle.model.proofs.SoundParts.{halves}
use Rattle.memory.specs.Layout.{head_bytes}
use Rattle.memory.specs.Heads.{name_in}
use Rattle.memory.specs.Read.{orders_at}
use Rattle.sound.specs.Inner.Walk.{sound_at, sound_from, others_from, apart_from}

-- what lies before an end, from a place on
further : (i end : ℕ) → i < end → end - i ≡ suc (end - (i + 1))
further i end more = omega arith

none_left : (i end : ℕ) → end ≤ i → end - i ≡ 0
none_left i end done = omega arith

module _ (m : List ℕ) where
  -- whether the heads from the j-th on are of others
  pub others_more : (head : List ℕ) (j end : ℕ) → j < end
      → others_from head m j (end - j) ≡ (not (same_ident (name_in head).ident (name_in (head_bytes m j)).ident) && others_from head m (j + 1) (end - (j + 1)))
  unfolding others_from
  others_more head j end more = rw (further j end more, add-one j)

  pub others_all : (head : List ℕ) (j end : ℕ) → end ≤ j → others_from head m j (end - j) ≡ true
  unfolding others_from
  others_all head j end done = rw (none_left j end done)

  -- whether the heads from the i-th on are apart
  pub apart_more : (i end : ℕ) → i < end
      → apart_from m i (end - i) ≡ (others_from (head_bytes m i) m (i + 1) (end - (i + 1)) && apart_from m (i + 1) (end - (i + 1)))
  unfolding apart_from
  apart_more i end more = rw (further i end more, add-one i)

  pub apart_all : (i end : ℕ) → end ≤ i → apart_from m i (end - i) ≡ true
  unfolding apart_from
  apart_all i end done = rw (none_left i end done)

  -- whether the shipments from the i-th on are sound
  pub sound_more : (i k end : ℕ) → i < end
      → sound_from m i k (end - i) ≡ (sound_at m i k && sound_from m (i + 1) (k + orders_at m i) (end - (i + 1)))
  unfolding sound_from
  sound_more i k end more = rw (further i end more, add-one i)

  pub sound_all : (i k end : ℕ) → end ≤ i → sound_from m i k (end - i) ≡ true
  unfolding sound_from
  sound_all i k end done = rw (none_left i end done)

  pub sound_room : (i k : ℕ) → sound_at m i k ≡ true → k + orders_at m i ≤ most_rows
  unfolding sound_at
  sound_room i k h = leb-true (k + orders_at m i) most_rows (search halves)
