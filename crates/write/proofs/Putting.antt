-- Texts put into an output one behind the other.
-- Assumes nothing.
use mathlib.Core.Path.{◌≡◌, sym, ◌∙◌, ap}
use mathlib.Core.List.{List, [], ◌∷◌, ◌++◌, append_assoc}
use Prim.Native.Nat.{ℕ, ◌+◌, ◌≤◌, ◌<◌}
use native.Mathlib.Numerals.{add-one}
use native.Mathlib.Omega.{arith}
use lib.ListN.{length, take, drop, set, length-append, length-drop, take-append-drop}
use lib.Seq.{length-take-le, take-take, take-append-le, take-add, take-append_seam, drop-append_seam, drop-drop, drop_at, set_split}
use Rattle.write.specs.Written.{put_at, written}

-- what stands before a place, and from there on, once a text was put there
module _ (at : ℕ) (text output : List ℕ) (within : at ≤ length output) where
  pub before_put : (place : ℕ) → place ≤ at → take place (put_at at text output) ≡ take place output
  before_put place h =
      let long = length-take-le at output within in
      take-append-le place (take at output) (text ++ drop (at + length text) output) (omega arith) ∙ take-take place at output h

  pub from_put : drop at (put_at at text output) ≡ text ++ drop (at + length text) output
  from_put = drop_at (take at output) (text ++ drop (at + length text) output) at (length-take-le at output within)

pub put_length : (at : ℕ) (text output : List ℕ) → at + length text ≤ length output → length (put_at at text output) ≡ length output
put_length at text output fits =
    let a = length-append (take at output) (text ++ drop (at + length text) output) in
    let b = length-append text (drop (at + length text) output) in
    let c = length-take-le at output (omega arith) in
    let d = length-drop (at + length text) output in
    omega arith

pub put_none : (at : ℕ) (output : List ℕ) → put_at at [] output ≡ output
put_none at output = let same : at + 0 ≡ at = omega arith in rw same (take-append-drop at output)

pub put_one : (at b : ℕ) (output : List ℕ) → at < length output → set output at b ≡ put_at at (b ∷ []) output
put_one at b output h = set_split output at b h ∙ ap (λ (k : ℕ). take at output ++ (b ∷ drop k output)) (sym (add-one at))

module _ (at : ℕ) (first second output : List ℕ) (fits : at + length first + length second ≤ length output) where
  all : at + length (first ++ second) ≡ at + length first + length second
  all = let l = length-append first second in omega arith

  -- the second text put before the first
  pub put_behind : put_at at first (put_at (at + length first) second output) ≡ put_at at (first ++ second) output
  put_behind =
      let next = at + length first in
      rw (before_put next second output (omega arith) at (omega arith), from_put next second output (omega arith), all, append_assoc first second (drop (at + length first + length second) output))

  -- and after it
  pub put_then : put_at (at + length first) second (put_at at first output) ≡ put_at at (first ++ second) output
  put_then =
      let next = at + length first in
      let from_first = from_put at first output (omega arith) in
      let before : take next (put_at at first output) ≡ take at output ++ first =
      take-add at (length first) (put_at at first output)
      ∙ (λ i. before_put at first output (omega arith) at (omega arith) i ++ take (length first) (from_first i))
      ∙ ap (λ (s : List ℕ). take at output ++ s) (take-append_seam first (drop next output)) in
      let behind : drop (next + length second) (put_at at first output) ≡ drop (next + length second) output =
      sym (drop-drop (length second) next (put_at at first output))
      ∙ ap (λ (s : List ℕ). drop (length second) s)
      (sym (drop-drop (length first) at (put_at at first output)) ∙ ap (λ (s : List ℕ). drop (length first) s) from_first ∙ drop-append_seam first (drop next output))
      ∙ drop-drop (length second) next output in
      rw (before, behind, all)
      (append_assoc (take at output) first (second ++ drop (next + length second) output)
      ∙ ap (λ (s : List ℕ). take at output ++ s) (sym (append_assoc first second (drop (next + length second) output))))

-- at the start
pub put_first : (text output : List ℕ) → put_at 0 text output ≡ written text output
put_first text output = let same : 0 + length text ≡ length text = omega arith in rw same
