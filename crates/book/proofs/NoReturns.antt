-- The refusal of a return that there is not is decided where the shipment is found.
-- Assumes nothing.
use mathlib.Core.Path.{◌≡◌, sym, ap, ◌∙◌}
use mathlib.Core.Bool.{Bool, true, false}
use mathlib.Core.List.{List}
use Rattle.std.specs.Prelude.{Ok, Err}
use Prim.Native.Nat.{ℕ}
use Rattle.epe.specs.declared.ident.Ident.{Ident}
use Rattle.model.specs.Shipment.{Shipment, is_paired}
use Rattle.memory.specs.declared.place.Place.{Place}
use Rattle.memory.specs.Read.{shipment_at, read_book}
use Rattle.acts.specs.Refusal.{number_of}
use Rattle.acts.specs.declared.refusal.Refusal.{Refusal}
use Rattle.acts.specs.Inner.Place.{called_in, place_in}
use Rattle.acts.proofs.PlaceInBook.{no_place}
use Rattle.acts.proofs.FoundInBook.{none_found, found_at}
use Rattle.book.specs.NoReturn.{no_return}

module _ (ident : Ident) (m : List ℕ) where
  pub refused_unplaced : {refusal : Refusal} → Err refusal ≡ place_in (called_in ident) m → number_of refusal ≡ no_return ident (read_book m)
  unfolding read_book
  refused_unplaced e =
      no_place (called_in ident) m e (λ same unsound. rw (same, unsound)) (λ same held none. rw (same, held, none_found ident m none))

  module _ {place : Place} (placed : Ok place ≡ place_in (called_in ident) m) (t : Shipment) (is : t ≡ shipment_at m place.head place.row)
      {paired : Bool} (is-paired : paired ≡ is_paired t.stage) where
    stage_is : is_paired (shipment_at m place.head place.row).stage ≡ paired
    stage_is = sym (is-paired ∙ ap (λ (s : Shipment). is_paired s.stage) is)

    pub refused_paired : paired ≡ true → 22 ≡ no_return ident (read_book m)
    unfolding read_book
    refused_paired h = let found = found_at ident m placed in rw (found.0, found.1, stage_is ∙ h)

    pub refused_not_paired : paired ≡ false → 19 ≡ no_return ident (read_book m)
    unfolding read_book
    refused_not_paired h = let found = found_at ident m placed in rw (found.0, found.1, stage_is ∙ h)

pub ruleset refuses = (refused_unplaced, refused_paired, refused_not_paired)
