-- An identifier is unknown to the book where no place is found for it.
-- Assumes nothing.
use mathlib.Core.Path.{◌≡◌, refl}
use mathlib.Core.Bool.{not}
use mathlib.Core.List.{List}
use Prim.Native.Nat.{ℕ, zero, suc, ◌+◌}
use Rattle.std.specs.Prelude.{is_some}
use Rattle.text.proofs.Branches.{either_way}
use Rattle.epe.specs.declared.ident.Ident.{Ident}
use Rattle.model.specs.Book.{is_unknown}
use Rattle.memory.specs.Layout.{head_bytes}
use Rattle.memory.specs.Heads.{shipment_in}
use Rattle.memory.specs.Read.{orders_at, shipments_from}
use Rattle.acts.specs.Inner.Place.{called_in, place_from}

pub none_unknown : (ident : Ident) (m : List ℕ) (i k n : ℕ) → is_unknown ident (shipments_from m i k n) ≡ not (is_some (place_from (called_in ident) m i k n))
unfolding place_from shipments_from shipment_in
none_unknown ident m i k zero = refl
none_unknown ident m i k (suc n) =
    let rest = none_unknown ident m (suc i) (k + orders_at m i) n in
    either_way (called_in ident (head_bytes m i)) (λ called. rw called) (λ other. rw other rest)
