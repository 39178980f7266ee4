-- The lines of a text from a place on, as a walk over the records meets them.
use Rattle.std.specs.Prelude.{cond, List, [], ℕ, ◌+◌, leb, ltb, length, drop}
use Rattle.text.specs.Lines.{parted, without_last_end, line_stop}
use Rattle.epe.specs.File.{text}

-- The lines that start at a place or later; a place past the end has none.
unfoldable pub lines_from : ℕ → List ℕ → List (List ℕ)
lines_from at s = cond (leb at (length s)) (parted (drop at s)) []

-- Where the line ends that starts at a place, and where the next one starts: behind the CR LF, or past the end.
abbrev pub line_end : ℕ → List ℕ → ℕ
line_end at s = at + line_stop (drop at s)

unfoldable pub next_line : ℕ → List ℕ → ℕ
next_line at s = cond (ltb (line_end at s) (length s)) (line_end at s + 2) (length s + 1)

-- The file's text without the byte mark and without one CR LF at its very end.
abbrev pub body : List ℕ → List ℕ
body file = without_last_end (text file)
