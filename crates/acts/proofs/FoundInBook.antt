-- The shipment of an identifier is the one at its place.
-- Assumes nothing.
use mathlib.Core.Path.{◌≡◌, refl}
use mathlib.Core.Bool.{true}
use mathlib.Core.List.{List}
use mathlib.Core.Option.{some, none}
use Rattle.std.specs.Prelude.{None, Ok}
use Prim.Native.Nat.{ℕ, zero, suc, ◌+◌}
use Rattle.text.proofs.Branches.{either_way}
use Rattle.epe.specs.declared.ident.Ident.{Ident}
use Rattle.model.specs.Book.{is_called, find}
use Rattle.memory.specs.Layout.{head_bytes}
use Rattle.memory.specs.Heads.{shipment_in}
use Rattle.memory.specs.declared.place.Place.{Place}
use Rattle.memory.specs.Read.{orders_at, shipment_at, shipments_from, shipments_in, book_in, sound_in}
use Rattle.acts.specs.Inner.Place.{called_in, place_from, place_in}
use Rattle.acts.proofs.Finding.{Found, here, further}
use Rattle.acts.proofs.PlaceInBook.{at_place}

module _ (ident : Ident) (m : List ℕ) where
  by_head : (i k : ℕ) → is_called ident (shipment_at m i k) ≡ called_in ident (head_bytes m i)
  unfolding shipment_in
  by_head i k = refl

  find_none : (j s n : ℕ) → place_from (called_in ident) m j s n ≡ None → find ident (shipments_from m j s n) ≡ none
  unfolding place_from shipments_from
  find_none j s zero e = refl
  find_none j s (suc n) e =
      either_way (called_in ident (head_bytes m j))
      (λ fits. let same = rw fits at e in cc)
      (λ other. rw (by_head j s, other) (find_none (suc j) (s + orders_at m j) n (rw other at e)))

  find_at : {i k j s n : ℕ} → Found (called_in ident) m i k j s n → find ident (shipments_from m j s n) ≡ some (shipment_at m i k)
  unfolding shipments_from
  find_at {i} {k} (here fits) = rw (by_head i k, fits)
  find_at (further {j} {s} other later) = rw (by_head j s, other) (find_at later)

  pub none_found : place_from (called_in ident) m 0 0 (shipments_in m) ≡ None → find ident (book_in m) ≡ none
  unfolding book_in
  none_found = find_none 0 0 (shipments_in m)

  pub found_at : {place : Place} → Ok place ≡ place_in (called_in ident) m → (sound_in m ≡ true) × (find ident (book_in m) ≡ some (shipment_at m place.head place.row))
  unfolding book_in
  found_at {place} e = let placed = at_place (called_in ident) m place e in (placed.0, find_at placed.1)
