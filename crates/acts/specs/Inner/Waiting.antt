-- The rows of a shipment that is Waiting.
use Rattle.std.specs.Prelude.{◌≡◌, true, List}
use Rattle.fee.specs.declared.Terms.{Terms}
use Rattle.model.specs.Sound.{rows_sound}
use Rattle.model.specs.declared.Row.{Row}
use Rattle.model.specs.declared.Stage.TheVariants.{Waiting}

-- Rows are sound in a shipment that is Waiting, on some terms.
pub record SoundInWaiting (rows : List Row) : Type 0 where
  pub terms : Terms
  pub is : rows_sound terms Waiting rows ≡ true
