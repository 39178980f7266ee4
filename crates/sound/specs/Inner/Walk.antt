-- Soundness as code walks it: shipment after shipment, then the identifiers.
use Rattle.std.specs.Prelude.{◌≡◌, Bool, true, not, ◌&&◌, List, ℕ, zero, suc, ◌+◌, ◌≤◌, leb, length}
use Rattle.epe.specs.Ident.{same_ident}
use Rattle.model.specs.Shipment.{most_shipments, most_rows}
use Rattle.model.specs.Sound.{shipment_sound}
use Rattle.memory.specs.Layout.{size, head_bytes}
use Rattle.memory.specs.Heads.{name_in, flags_in_form}
use Rattle.memory.specs.Read.{orders_at, shipment_at, shipments_in, sound_in}

unfoldable pub sound_at : List ℕ → ℕ → ℕ → Bool
sound_at m i k = flags_in_form (head_bytes m i) && (leb (k + orders_at m i) most_rows && shipment_sound (shipment_at m i k))

unfoldable pub sound_from : List ℕ → ℕ → ℕ → ℕ → Bool
sound_from m i k zero = true
sound_from m i k (suc n) = sound_at m i k && sound_from m (suc i) (k + orders_at m i) n

-- n heads from the j-th on have another identifier than a head.
unfoldable pub others_from : List ℕ → List ℕ → ℕ → ℕ → Bool
others_from head m j zero = true
others_from head m j (suc n) = not (same_ident (name_in head).ident (name_in (head_bytes m j)).ident) && others_from head m (suc j) n

unfoldable pub apart_from : List ℕ → ℕ → ℕ → Bool
apart_from m i zero = true
apart_from m i (suc n) = others_from (head_bytes m i) m (suc i) n && apart_from m (suc i) n

-- This walk answers whether memory that is long enough is sound.
abbrev pub WalkIsSound : Type 0
WalkIsSound = (m : List ℕ) → size ≤ length m
    → sound_in m ≡ (leb (shipments_in m) most_shipments && (sound_from m 0 0 (shipments_in m) && apart_from m 0 (shipments_in m)))
