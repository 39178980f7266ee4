-- The walk over a text's lines, one after the other: a file's header is the first, its records are those after it.
-- Assumes nothing.
use mathlib.Core.Path.{◌≡◌, refl, sym, ◌∙◌}
use mathlib.Core.Bool.{cond}
use mathlib.Core.List.{List, [], ◌∷◌}
use Prim.Native.Nat.{ℕ, ◌+◌, ◌<◌, ◌≤◌}
use native.Mathlib.Decide.{dec_lt}
use native.Mathlib.Omega.{arith}
use borrow.Author.Tests.{lt-ltb, le-ltb, le-leb, lt-leb}
use lib.Dec.{ltb}
use lib.ListN.{length, take, drop}
use Rattle.text.specs.Bytes.{same, part}
use Rattle.text.specs.Lines.{parted, lines}
use Rattle.text.proofs.LineEnds.{line_end_le, line_here, last_line_here}
use Rattle.text.proofs.Places.{part_from_start, part_to_end}
use Rattle.epe.specs.File.{text, header, records}
use Rattle.epe.specs.Inner.Walk.{lines_from, line_end, next_line, body}

module _ (s : List ℕ) (at : ℕ) where
  here : at ≤ length s → lines_from at s ≡ parted (drop at s)
  unfolding lines_from
  here h = rw (le-leb at (length s) h)

  pub walked_out : length s < at → lines_from at s ≡ []
  unfolding lines_from
  walked_out h = rw (lt-leb at (length s) h)

next_inside : (s : List ℕ) (at : ℕ) → line_end at s < length s → next_line at s ≡ line_end at s + 2
unfolding next_line
next_inside s at h = rw (lt-ltb (line_end at s) (length s) h)

next_outside : (s : List ℕ) (at : ℕ) → length s ≤ line_end at s → next_line at s ≡ length s + 1
unfolding next_line
next_outside s at h = rw (le-ltb (line_end at s) (length s) h)

-- the place of the next line, as the code finds it
pub next_of : (t s : List ℕ) (at end : ℕ) → t ≡ s → end ≡ line_end at t → (next : ℕ)
    → next ≡ cond (ltb end (length t)) (end + 2) (length t + 1) → next ≡ next_line at s
unfolding next_line
next_of t s at end same ends next e = rw (ends, same) at e

-- the line at a place, and the lines after it
pub walk_on : (s : List ℕ) (at : ℕ) → at ≤ length s → lines_from at s ≡ part at (line_end at s) s ∷ lines_from (next_line at s) s
walk_on s at h = go (dec_lt (line_end at s) (length s))
  where
    go : Dec (line_end at s < length s) → lines_from at s ≡ part at (line_end at s) s ∷ lines_from (next_line at s) s
    go (yes l) =
        let first = line_here s at (line_end at s) refl l in
        rw (next_inside s at l, here s at h, here s (line_end at s + 2) first.0) first.1
    go (no l) =
        let e : line_end at s ≡ length s = omega (arith, line_end_le s at (line_end at s) refl h) in
        rw (next_outside s at (omega arith), here s at h, walked_out s (length s + 1) (omega arith), e, part_to_end s at)
        (last_line_here s at (line_end at s) refl h (omega arith))

-- a walk goes on towards the end
pub next_later : (s : List ℕ) (at : ℕ) → at ≤ length s → at < next_line at s
next_later s at h = go (dec_lt (line_end at s) (length s))
  where
    go : Dec (line_end at s < length s) → at < next_line at s
    go (yes l) = omega (arith, next_inside s at l)
    go (no l) = omega (arith, next_outside s at (omega arith))

-- the header and the records of a file, as the walk meets them
module _ (file : List ℕ) where
  unwalked : lines (text file) ≡ part 0 (line_end 0 (body file)) (body file) ∷ lines_from (next_line 0 (body file)) (body file)
  unfolding lines
  unwalked = sym (here (body file) 0 (omega arith)) ∙ walk_on (body file) 0 (omega arith)

  pub header_first : header file ≡ part 0 (line_end 0 (body file)) (body file)
  header_first = rw unwalked

  pub records_after : records file ≡ lines_from (next_line 0 (body file)) (body file)
  records_after = rw unwalked

-- the header's line as the code finds it
pub header_line : (file t line : List ℕ) (end : ℕ) → t ≡ body file → end ≡ line_end 0 t → line ≡ take end t → line ≡ header file
header_line file t line end same ends lined = rw (header_first file, ← same) (rw ends at (lined ∙ sym (part_from_start t end)))
