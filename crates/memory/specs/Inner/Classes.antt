-- What soundness asks of a row's state, as code joins it. Only the contracts below `is_sound` need these.
use Rattle.std.specs.Prelude.{not, ℕ, ◌+◌}
use Rattle.model.specs.Shipment.{only_if, is_faulty}
use Rattle.model.specs.Sound.{fault_in_range, before_pairing}
use Rattle.model.specs.declared.State.{State}

-- What soundness asks of a state, as bits to join over a shipment's rows: 1 where it is Faulty, 2 where only a Paired shipment may have it, 4 where
-- its fault is out of range.
abbrev pub class_of : State → ℕ
class_of state = only_if (is_faulty state) 1 + (only_if (not (before_pairing state)) 2 + only_if (not (fault_in_range state)) 4)
