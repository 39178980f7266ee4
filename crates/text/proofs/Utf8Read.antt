-- What is read is written: a well-formed text decodes to scalar values, and their octets are the text.
-- Assumes nothing.
use mathlib.Core.Path.{◌≡◌, refl, sym, ◌∙◌, ap}
use mathlib.Core.Bool.{Bool, true, false, cond, not}
use mathlib.Core.List.{List, [], ◌∷◌, ◌++◌}
use Prim.Native.Nat.{ℕ, zero, suc, pred, ◌+◌, ◌*◌, ◌/◌, ◌%◌, ◌<◌, ◌≤◌}
use native.Mathlib.Omega.{arith}
use lib.Dec.{eqb}
use lib.ListN.{get_or, drop}
use borrow.Author.Tests.{le-leb, lt-leb, ltb-true, eqb-false}
use Rattle.text.specs.Utf8.{ascii, point2, point3, point4, surrogate, row2, row3, row4}
use Rattle.text.specs.Utf8.{width_at, well_formed_after, point_at, decoded_after}
use Rattle.text.specs.Utf8Encoded.{scalar, all_scalar, encoded, encoded_all, ReadIsWritten}
use Rattle.text.proofs.Branches.{branches}
use Rattle.text.proofs.Places.{from_here}
use Rattle.text.proofs.Utf8Laws.{by_rows, row2_says, row3_says, row4_says, stands_within}
use Rattle.text.proofs.Utf8Written.{by_ranges}

-- the octets that a row takes are those of the code point that they write
two_read : (a b : ℕ) → row2 a b ≡ true → encoded (point2 a b) ≡ a ∷ b ∷ []
unfolding point2
two_read a b h =
    let r = row2_says a b h in
    let x : 0b1100_0000 + point2 a b / 64 ≡ a = omega arith in
    let y : 0b1000_0000 + point2 a b % 64 ≡ b = omega arith in
    by_ranges (λ o. o ≡ a ∷ b ∷ []) (point2 a b)
    (λ l. absurd (omega arith)) (λ l m. rw (x, y)) (λ l m. absurd (omega arith)) (λ l. absurd (omega arith))

three_read : (a b c : ℕ) → row3 a b c ≡ true → encoded (point3 a b c) ≡ a ∷ b ∷ c ∷ []
unfolding point3
three_read a b c h =
    let r = row3_says a b c h in
    let x : 0b1110_0000 + point3 a b c / 4096 ≡ a = omega arith in
    let y : 0b1000_0000 + point3 a b c / 64 % 64 ≡ b = omega arith in
    let z : 0b1000_0000 + point3 a b c % 64 ≡ c = omega arith in
    by_ranges (λ o. o ≡ a ∷ b ∷ c ∷ []) (point3 a b c)
    (λ l. absurd (omega arith)) (λ l m. absurd (omega arith)) (λ l m. rw (x, y, z)) (λ l. absurd (omega arith))

-- a number in groups of six bits, taken apart again
module _ (w x y z : ℕ) (hx : x < 64) (hy : y < 64) (hz : z < 64) where
  abbrev number : ℕ
  number = w * 262144 + x * 4096 + y * 64 + z

  groups : (number / 262144 ≡ w) × (number / 4096 ≡ w * 64 + x) × (number / 64 ≡ w * 4096 + x * 64 + y) × (number % 64 ≡ z)
  groups = (omega arith, omega arith, omega arith, omega arith)

four_read : (a b c d : ℕ) → row4 a b c d ≡ true → encoded (point4 a b c d) ≡ a ∷ b ∷ c ∷ d ∷ []
unfolding point4
four_read a b c d h =
    let r = row4_says a b c d h in
    let g = groups (a % 8) (b % 64) (c % 64) (d % 64) (omega arith) (omega arith) (omega arith) in
    let w : 0b1111_0000 + point4 a b c d / 262144 ≡ a = rw g.0 (omega arith) in
    let x : 0b1000_0000 + point4 a b c d / 4096 % 64 ≡ b = rw g.1 (omega arith) in
    let y : 0b1000_0000 + point4 a b c d / 64 % 64 ≡ c = rw g.2 (omega arith) in
    let z : 0b1000_0000 + point4 a b c d % 64 ≡ d = rw g.3 (omega arith) in
    by_ranges (λ o. o ≡ a ∷ b ∷ c ∷ d ∷ []) (point4 a b c d)
    (λ l. absurd (omega arith)) (λ l m. absurd (omega arith)) (λ l m. absurd (omega arith)) (λ l. rw (w, x, y, z))

-- a number up to 0x10FFFF that is no surrogate is scalar
is_scalar : (p : ℕ) → p ≤ 0x10FFFF → not (surrogate p) ≡ true → scalar p ≡ true
unfolding scalar
is_scalar p h n = sym (search branches depth 12)

below_surrogates : (p : ℕ) → p < 0xD800 → not (surrogate p) ≡ true
unfolding surrogate
below_surrogates p h = rw (lt-leb 0xD800 p h)

above_surrogates : (p : ℕ) → 0xDFFF < p → not (surrogate p) ≡ true
unfolding surrogate
above_surrogates p h = rw (le-leb 0xD800 p (omega arith), lt-leb p 0xDFFF h)

-- the first n octets of the text a ∷ s are those of the scalar value p
abbrev Writes : ℕ → List ℕ → ℕ → ℕ → Type 0
Writes a s n p = (scalar p ≡ true) × (encoded p ++ drop (pred n) s ≡ a ∷ s)

one_ascii : (a : ℕ) (s : List ℕ) → ascii a ≡ true → Writes a s 1 a
unfolding ascii
one_ascii a s e =
    let l = ltb-true a 0x80 e in
    let o = by_ranges (λ o. o ≡ a ∷ []) a (λ m. refl) (λ m n. absurd (omega arith)) (λ m n. absurd (omega arith)) (λ m. absurd (omega arith)) in
    (is_scalar a (omega arith) (below_surrogates a (omega arith)), ap (λ o. o ++ s) o)

-- so for every row
module _ (a : ℕ) (s : List ℕ) where
  abbrev second : ℕ
  second = get_or s 0 0

  abbrev third : ℕ
  third = get_or s 1 0

  abbrev fourth : ℕ
  fourth = get_or s 2 0

  one_row2 : row2 a second ≡ true → Writes a s 2 (point2 a second)
  one_row2 e =
      let r = row2_says a second e in
      let s₀ = from_here s 0 (stands_within s 0 (omega arith)) in
      (is_scalar (point2 a second) (omega arith) (below_surrogates (point2 a second) (omega arith)), rw (two_read a second e) (cc))

  one_row3 : row3 a second third ≡ true → Writes a s 3 (point3 a second third)
  one_row3 e =
      let r = row3_says a second third e in
      let s₀ = from_here s 0 (stands_within s 0 (omega arith)) in
      let s₁ = from_here s 1 (stands_within s 1 (omega arith)) in
      (is_scalar (point3 a second third) (omega arith) r.5, rw (three_read a second third e) (cc))

  one_row4 : row4 a second third fourth ≡ true → Writes a s 4 (point4 a second third fourth)
  one_row4 e =
      let r = row4_says a second third fourth e in
      let s₀ = from_here s 0 (stands_within s 0 (omega arith)) in
      let s₁ = from_here s 1 (stands_within s 1 (omega arith)) in
      let s₂ = from_here s 2 (stands_within s 2 (omega arith)) in
      (is_scalar (point4 a second third fourth) r.5 (above_surrogates (point4 a second third fourth) (omega arith)), rw (four_read a second third fourth e) (cc))

  one_written : (width_at (a ∷ s) 0 ≡ 0 → ⊥) → Writes a s (width_at (a ∷ s) 0) (point_at (a ∷ s) 0)
  one_written =
      by_rows (a ∷ s) 0 (λ n p. (n ≡ 0 → ⊥) → Writes a s n p)
      (λ e n. one_ascii a s e) (λ e n. one_row2 e) (λ e n. one_row3 e) (λ e n. one_row4 e) (λ p n. absurd (n refl))

-- a text that is well formed from a character on has one there, and is well formed behind it
pub well_formed_here : (t u : Bool) → cond t false u ≡ true → (t ≡ false) × (u ≡ true)
well_formed_here true u h = (sym h, cc)
well_formed_here false u h = (refl, h)

-- and so on to the end; `skip` more octets belong to the last character
all_read : (skip : ℕ) (s : List ℕ) → well_formed_after skip s ≡ true
    → (all_scalar (decoded_after skip s) ≡ true) × (encoded_all (decoded_after skip s) ≡ drop skip s)
unfolding well_formed_after decoded_after all_scalar encoded_all
all_read zero [] h = (refl, refl)
all_read (suc skip) [] h = (refl, refl)
all_read (suc skip) (a ∷ s) h = all_read skip s h
all_read zero (a ∷ s) h =
    let here = well_formed_here (eqb (width_at (a ∷ s) 0) 0) _ h in
    let one = one_written a s (eqb-false (width_at (a ∷ s) 0) 0 here.0) in
    let rest = all_read (pred (width_at (a ∷ s) 0)) s here.1 in
    (rw one.0 rest.0, ap (λ t. encoded (point_at (a ∷ s) 0) ++ t) rest.1 ∙ one.1)

pub read_is_written : ReadIsWritten
read_is_written s h = all_read 0 s h
