-- What the private steps of `is_well_formed` promise. No public contract cites it.
use Rattle.std.specs.Prelude.{◌≡◌, List, ℕ, ◌<◌, ◌≤◌, length}
use Rattle.text.specs.Utf8.{well_formed, width_at}

-- A step from a text to one further on passes no fault and makes none: what is left is as well formed as before.
pub record Past (s t : List ℕ) : Type 0 where
  pub shorter : length t < length s
  pub same : well_formed t ≡ well_formed s

-- A character of so many octets starts a text, and ends within it.
pub record IsWidth (s : List ℕ) (w : ℕ) : Type 0 where
  pub value : w ≡ width_at s 0
  pub some : 0 < w
  pub within : w ≤ length s
