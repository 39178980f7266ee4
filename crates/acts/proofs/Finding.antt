-- A place that is found is that of a shipment of the book.
-- Assumes nothing.
use mathlib.Core.Path.{◌≡◌, sym, ap, ◌∙◌}
use mathlib.Core.Bool.{Bool, true, false}
use mathlib.Core.List.{List}
use Rattle.std.specs.Prelude.{Some, None}
use Prim.Native.Nat.{ℕ, zero, suc, ◌+◌, ◌-◌, ◌≤◌, ◌<◌}
use native.Mathlib.Numerals.{add-one}
use native.Mathlib.Omega.{arith}
use Rattle.text.proofs.Branches.{either_way}
use Rattle.model.specs.Book.{rows_in}
use Rattle.model.specs.Sound.{shipment_sound, shipments_sound}
use Rattle.model.proofs.SoundParts.{halves}
use Rattle.memory.specs.Layout.{head_bytes}
use Rattle.memory.specs.Heads.{order_count_in}
use Rattle.memory.specs.declared.place.Place.{Place}
use Rattle.memory.specs.Read.{orders_at, shipment_at, shipments_from}
use Rattle.sound.proofs.ReadLaws.{rows_next}
use Rattle.acts.specs.Inner.Place.{place_at, place_from}

-- Head i and row k are found among the n heads from the j-th on, whose rows begin at the s-th.
pub data Found (is : List ℕ → Bool) (m : List ℕ) (i k : ℕ) : ℕ → ℕ → ℕ → Type 0 where
  here : {n : ℕ} → is (head_bytes m i) ≡ true → Found is m i k i k (suc n)
  further : {j s n : ℕ} → is (head_bytes m j) ≡ false → Found is m i k (suc j) (s + orders_at m j) n → Found is m i k j s (suc n)

module _ (is : List ℕ → Bool) (m : List ℕ) where
  pub found : (i k j s n : ℕ) → place_from is m j s n ≡ Some (place_at i k) → Found is m i k j s n
  unfolding place_from
  found i k j s zero e = let never : ◌≡◌ {A = ℕ} 0 1 = cc in absurd (omega arith)
  found i k j s (suc n) e =
      either_way (is (head_bytes m j))
      (λ fits.
      let same = rw fits at e in
      let place : place_at j s ≡ place_at i k = cc in
      let head : j ≡ i = ap (λ (place : Place). place.head) place in
      let row : s ≡ k = ap (λ (place : Place). place.row) place in
      rw (head, row) (here (rw head at fits)))
      (λ other. further other (found i k (suc j) (s + orders_at m j) n (rw other at e)))

-- as code looks: head after head
module _ (is : List ℕ → Bool) (m : List ℕ) {head : List ℕ} {t : Bool} (i k n : ℕ) (is_head : head ≡ head_bytes m i) (told : t ≡ is head) (more : i < n) where
  test_is : is (head_bytes m i) ≡ t
  test_is = sym (told ∙ ap is is_head)

  left : n - i ≡ suc (n - (i + 1))
  left = omega arith

  pub found_here : t ≡ true → place_from is m i k (n - i) ≡ Some (place_at i k)
  unfolding place_from
  found_here fits = rw left (rw (test_is ∙ fits))

  pub looked_on : {rows : ℕ} → rows ≡ order_count_in head → t ≡ false → place_from is m (i + 1) (k + rows) (n - (i + 1)) ≡ place_from is m i k (n - i)
  unfolding place_from
  looked_on {rows} orders other =
      let count : rows ≡ orders_at m i = orders ∙ ap order_count_in is_head in
      rw left (rw (test_is ∙ other, add-one, count))

pub none_left : (is : List ℕ → Bool) (m : List ℕ) (i k n : ℕ) → n ≤ i → place_from is m i k (n - i) ≡ None
unfolding place_from
none_left is m i k n h = let none : n - i ≡ 0 = omega arith in rw none

-- What that says of the place.
pub record Within (m : List ℕ) (i k j s n : ℕ) : Type 0 where
  pub from : j ≤ i
  pub below : i < j + n
  pub rows_from_lem : s ≤ k
  pub rows_below : k + orders_at m i ≤ s + rows_in (shipments_from m j s n)
  pub is_sound : shipments_sound (shipments_from m j s n) ≡ true → shipment_sound (shipment_at m i k) ≡ true

pub within : {is : List ℕ → Bool} {m : List ℕ} {i k j s n : ℕ} → Found is m i k j s n → Within m i k j s n
unfolding shipments_from shipments_sound
within {is} {m} {i} {k} (here {n} fits) = record {
  from = omega arith;
  below = omega arith;
  rows_from_lem = omega arith;
  rows_below = omega (arith, rows_next m i k n);
  is_sound = λ h. search halves;
}
within {is} {m} (further {j} {s} {n} other rest) =
    let later = within rest in
    record {
      from = omega arith;
      below = omega arith;
      rows_from_lem = omega arith;
      rows_below = omega (arith, rows_next m j s n);
      is_sound = λ h. later.is_sound (search halves);
    }
