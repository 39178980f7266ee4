-- What a writer does: it has an output, and a place up to which that is written.
use Rattle.std.specs.Prelude.{◌≡◌, List, ℕ, ◌+◌, ◌≤◌, length}
use Rattle.write.specs.Written.{put_at}
use Rattle.write.specs.declared.Writer.{Writer}

-- A text fits behind what is written.
pub record HasRoom (text : List ℕ) (before : Writer) : Type 0 where
  pub fits : before.at + length text ≤ length before.output.now

-- A text was written: it stands behind what was there, and the next one goes behind it.
pub record Writes (text : List ℕ) (before after : Writer) : Type 0 where
  pub fits : before.at + length text ≤ length before.output.now
  pub same_output : after.output.ghost_name ≡ before.output.ghost_name
  pub output_after : after.output.now ≡ put_at before.at text before.output.now
  pub place : after.at ≡ before.at + length text
