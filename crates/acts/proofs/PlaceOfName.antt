-- The shipment of a whole name is that of its identifier, if the rest of the name fits: in a sound book identifiers are all different.
-- Assumes nothing.
use mathlib.Core.Path.{◌≡◌, refl, sym, ap, ◌∙◌}
use mathlib.Core.Bool.{Bool, true, false, not, false≢true}
use mathlib.Core.List.{List}
use Rattle.std.specs.Prelude.{Option, Some, None, Ok, Err, ok_or, is_some}
use Prim.Native.Nat.{ℕ, zero, suc, ◌+◌, ◌≤◌, ◌<◌}
use native.Mathlib.Omega.{arith}
use lib.ListN.{length}
use Rattle.text.proofs.Branches.{either_way}
use Rattle.epe.specs.declared.name.Name.{Name}
use Rattle.epe.proofs.IdentLaws.{same_is_equal}
use Rattle.model.specs.Shipment.{most_shipments}
use Rattle.model.specs.Book.{is_unknown, same_name}
use Rattle.model.specs.Sound.{shipments_sound}
use Rattle.model.proofs.SoundParts.{halves}
use Rattle.memory.specs.Layout.{size, head_bytes}
use Rattle.memory.specs.Heads.{name_in, shipment_in}
use Rattle.memory.specs.Read.{orders_at, shipments_from, shipments_in, book_in, sound_in}
use Rattle.sound.proofs.ReadLaws.{sound_parts}
use Rattle.memory.specs.declared.place.Place.{Place}
use Rattle.acts.specs.declared.refusal.Refusal.{Refusal}
use Rattle.acts.specs.declared.refusal.Refusal.TheVariants.{Unknown}
use Rattle.acts.specs.Inner.Place.{called_in, named_in, place_at, place_from, place_in}
use Rattle.acts.proofs.Finding.{Found, here, further, found, within}
use Rattle.acts.proofs.PassedOn.{none_of, some_of}
use Rattle.acts.proofs.UnknownIdent.{none_unknown}

none_is : (looked : Option Place) → not (is_some looked) ≡ true → looked ≡ None
none_is None h = refl
none_is (Some place) h = absurd (false≢true h)

module _ (name : Name) (m : List ℕ) where
  abbrev called : List ℕ → Bool
  called = called_in name.ident

  abbrev named : List ℕ → Bool
  named = named_in name

  not_named : (head : List ℕ) → called head ≡ false → named head ≡ false
  unfolding same_name
  not_named head other = rw other

  -- of no identifier, so of no name
  none_named : (j s n : ℕ) → place_from called m j s n ≡ None → place_from named m j s n ≡ None
  unfolding place_from
  none_named j s zero e = refl
  none_named j s (suc n) e =
      either_way (called (head_bytes m j))
      (λ fits. let same = rw fits at e in cc)
      (λ other. rw (not_named (head_bytes m j) other) (none_named (suc j) (s + orders_at m j) n (rw other at e)))

  -- the first of the identifier is of the name, or none is
  first_named : {i k j s n : ℕ} → Found called m i k j s n → named (head_bytes m i) ≡ true → place_from named m j s n ≡ Some (place_at i k)
  unfolding place_from
  first_named (here same) fits = rw fits
  first_named (further {j} other later) fits = rw (not_named (head_bytes m j) other) (first_named later fits)

  first_other : {i k j s n : ℕ} → Found called m i k j s n → named (head_bytes m i) ≡ false → shipments_sound (shipments_from m j s n) ≡ true
      → place_from named m j s n ≡ None
  unfolding place_from shipments_from shipments_sound shipment_in
  first_other {i} {k} (here {n} same) differs h =
      let ident : name.ident ≡ (name_in (head_bytes m i)).ident = (same_is_equal _ _).0 same in
      let unknown : is_unknown (name_in (head_bytes m i)).ident (shipments_from m (suc i) (k + orders_at m i) n) ≡ true = search halves in
      let none = sym (none_unknown name.ident m (suc i) (k + orders_at m i) n)
      ∙ ap (λ ident. is_unknown ident (shipments_from m (suc i) (k + orders_at m i) n)) ident
      ∙ unknown in
      rw differs (none_named (suc i) (k + orders_at m i) n (none_is _ none))
  first_other (further {j} other later) differs h = rw (not_named (head_bytes m j) other) (first_other later differs (search halves))

  -- as code looks: by the identifier, and then at the name of the head that was found
  module _ (held : sound_in m ≡ true) {n : ℕ} {looked : Option Place} (count : n ≡ shipments_in m) (is_looked : looked ≡ place_from called m 0 0 n) where
    placed : {found : Option Place} → looked ≡ found → place_from called m 0 0 (shipments_in m) ≡ found
    placed same = ap (place_from called m 0 0) (sym count) ∙ sym is_looked ∙ same

    pub named_unknown : {refusal : Refusal} → Err refusal ≡ ok_or looked Unknown → Err refusal ≡ place_in named m
    unfolding place_in
    named_unknown {refusal} none =
        let same = none_of looked Unknown none in
        rw (held, none_named 0 0 (shipments_in m) (placed same.0), same.1)

    module _ {place : Place} (same : Ok place ≡ ok_or looked Unknown) where
      found_called : Found called m place.head place.row 0 0 (shipments_in m)
      found_called = found called m place.head place.row 0 0 (shipments_in m) (placed (some_of looked Unknown same))

      pub head_there : (place.head < most_shipments) × (size ≤ length m)
      head_there =
          let parts = sound_parts m held in
          let there = within found_called in
          (omega (arith, parts.few), parts.enough)

      module _ {head : List ℕ} {t : Bool} (is_head : head ≡ head_bytes m place.head) (told : t ≡ named head) where
        name_is : named (head_bytes m place.head) ≡ t
        name_is = sym (told ∙ ap named is_head)

        pub named_at : t ≡ true → Ok place ≡ place_in named m
        unfolding place_in
        named_at fits = rw (held, first_named found_called (name_is ∙ fits))

        pub named_other : t ≡ false → Err Unknown ≡ place_in named m
        unfolding place_in book_in
        named_other differs = rw (held, first_other found_called (name_is ∙ differs) (sound_parts m held).shipments)

pub ruleset of_name = (sound_parts, head_there, named_unknown, named_at, named_other)
