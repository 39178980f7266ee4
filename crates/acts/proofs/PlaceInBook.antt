-- A place that was looked for in memory tells whether that is a sound book, and a shipment's place is one where a sound shipment sits.
-- Assumes nothing.
use mathlib.Core.Path.{◌≡◌}
use mathlib.Core.Bool.{Bool, true, false}
use mathlib.Core.List.{List}
use Prim.Native.Nat.{ℕ}
use native.Mathlib.Omega.{arith}
use Rattle.std.specs.Prelude.{None, Ok, Err}
use Rattle.text.proofs.Branches.{either_way}
use Rattle.memory.specs.Read.{shipments_in, book_in, sound_in, Sits}
use Rattle.memory.specs.declared.place.Place.{Place}
use Rattle.sound.proofs.ReadLaws.{sound_parts}
use Rattle.acts.specs.declared.refusal.Refusal.{Refusal}
use Rattle.acts.specs.declared.refusal.Refusal.TheVariants.{Unsound, Unknown}
use Rattle.acts.specs.Inner.Place.{place_from, place_in}
use Rattle.acts.proofs.PassedOn.{none_of, some_of}
use Rattle.acts.proofs.Finding.{Found, found, within}

-- what a place tells of the memory in which it was looked for
module _ (is : List ℕ → Bool) (m : List ℕ) where
  pub no_place : {A : Type 0} {refusal : Refusal} → Err refusal ≡ place_in is m → (refusal ≡ Unsound → sound_in m ≡ false → A)
      → (refusal ≡ Unknown → sound_in m ≡ true → place_from is m 0 0 (shipments_in m) ≡ None → A) → A
  unfolding place_in
  no_place {A} {refusal} e unsound unknown =
      either_way (sound_in m)
      (λ held. let none = none_of _ Unknown (rw held at e) in unknown none.1 held none.0)
      (λ other. let same = rw other at e in unsound (cc) other)

  pub at_place : (place : Place) → Ok place ≡ place_in is m → (sound_in m ≡ true) × Found is m place.head place.row 0 0 (shipments_in m)
  unfolding place_in
  at_place place e =
      either_way (sound_in m) (λ h. (h, found is m place.head place.row 0 0 (shipments_in m) (some_of _ Unknown (rw h at e)))) (λ h. let other = rw h at e in cc)

pub sits : (is : List ℕ → Bool) {m : List ℕ} {place : Place} → Ok place ≡ place_in is m → Sits m place.head place.row
unfolding book_in
sits is {m} {place} e =
    let placed = at_place is m place e in
    let whole = sound_parts m placed.0 in
    let found_within = within placed.1 in
    record { enough = whole.enough; few = omega arith; room = omega arith; sound = found_within.is_sound whole.shipments }
