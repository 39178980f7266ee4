-- Laws of octets and of the characters that they write, as the functions of `utf8` meet them.
-- Assumes nothing.
use mathlib.Core.Path.{◌≡◌}
use mathlib.Core.Bool.{true, false, not}
use mathlib.Core.List.{List}
use Prim.Native.Nat.{ℕ, ◌+◌, ◌/◌, ◌<◌, ◌≤◌}
use native.Mathlib.Decide.{dec_lt}
use native.Mathlib.Omega.{arith}
use lib.Bits.{bit_or, or_add_and, and_le_l, and_le_r}
use lib.ListN.{length, get_or, get_or-eq_default}
use borrow.Author.Tests.{ne_eqb, eqb-true, lt-ltb, le-ltb, ltb-true, leb-true}
use Rattle.text.specs.Utf8.{ascii, tail_octet, lead2, lead3, lead4, point2, point3, point4, surrogate, range2, range3, range4}
use Rattle.text.specs.Utf8.{row2, row3, row4, width, width_at, point_at}
use Rattle.text.proofs.Branches.{and_left, and_right, either_way}

-- bits that are joined are ASCII only where both were
pub joined_ascii : (a b : ℕ) → ascii (bit_or a b) ≡ true → (ascii a ≡ true) × (ascii b ≡ true)
unfolding ascii
joined_ascii a b h =
    let l : bit_or a b < 128 = ltb-true (bit_or a b) 128 h in
    (lt-ltb a 128 (omega (arith, or_add_and a b, and_le_r a b)), lt-ltb b 128 (omega (arith, or_add_and a b, and_le_l a b)))

-- the forms of octets exclude one another
pub lead2_apart : (a : ℕ) → lead2 a ≡ true → ascii a ≡ false
unfolding lead2 ascii
lead2_apart a h = le-ltb a 128 (omega (arith, eqb-true (a / 32) 6 h))

pub lead3_apart : (a : ℕ) → lead3 a ≡ true → (ascii a ≡ false) × (lead2 a ≡ false)
unfolding lead3 lead2 ascii
lead3_apart a h =
    let e = eqb-true (a / 16) 14 h in
    (le-ltb a 128 (omega arith), ne_eqb (a / 32) 6 (omega arith))

pub lead4_apart : (a : ℕ) → lead4 a ≡ true → (ascii a ≡ false) × (lead2 a ≡ false) × (lead3 a ≡ false)
unfolding lead4 lead3 lead2 ascii
lead4_apart a h =
    let e = eqb-true (a / 8) 30 h in
    (le-ltb a 128 (omega arith), ne_eqb (a / 32) 6 (omega arith), ne_eqb (a / 16) 14 (omega arith))

-- what stands at a place, by the row of the table that it fits: how many octets, and the code point that they write
module _ (s : List ℕ) (i : ℕ) where
  abbrev first : ℕ
  first = get_or s i 0

  abbrev second : ℕ
  second = get_or s (i + 1) 0

  abbrev third : ℕ
  third = get_or s (i + 2) 0

  abbrev fourth : ℕ
  fourth = get_or s (i + 3) 0

  pub by_ascii : ascii first ≡ true → (width_at s i ≡ 1) × (point_at s i ≡ first)
  unfolding width point_at
  by_ascii h = (rw h, rw h)

  pub by_row2 : row2 first second ≡ true → (width_at s i ≡ 2) × (point_at s i ≡ point2 first second)
  unfolding width point_at row2
  by_row2 h =
      let l = and_left (lead2 first) _ h in
      let n = lead2_apart first l in
      (rw (n, h), rw (n, l))

  pub by_row3 : row3 first second third ≡ true → (width_at s i ≡ 3) × (point_at s i ≡ point3 first second third)
  unfolding width point_at row2 row3
  by_row3 h =
      let l = and_left (lead3 first) _ h in
      let n = lead3_apart first l in
      (rw (n.0, n.1, h), rw (n.0, n.1, l))

  pub by_row4 : row4 first second third fourth ≡ true → (width_at s i ≡ 4) × (point_at s i ≡ point4 first second third fourth)
  unfolding width point_at row2 row3 row4
  by_row4 h =
      let l = and_left (lead4 first) _ h in
      let n = lead4_apart first l in
      (rw (n.0, n.1, n.2, h), rw (n.0, n.1, n.2))

  -- what holds by every row, and where none fits, holds of what stands there
  pub by_rows : (P : ℕ → ℕ → Type 0)
      → (ascii first ≡ true → P 1 first)
      → (row2 first second ≡ true → P 2 (point2 first second))
      → (row3 first second third ≡ true → P 3 (point3 first second third))
      → (row4 first second third fourth ≡ true → P 4 (point4 first second third fourth))
      → ((p : ℕ) → P 0 p)
      → P (width_at s i) (point_at s i)
  unfolding width
  by_rows P one two three four none =
      either_way (ascii first) (λ h. rw ((by_ascii h).0, (by_ascii h).1) (one h)) λ n₁.
      either_way (row2 first second) (λ h. rw ((by_row2 h).0, (by_row2 h).1) (two h)) λ n₂.
      either_way (row3 first second third) (λ h. rw ((by_row3 h).0, (by_row3 h).1) (three h)) λ n₃.
      either_way (row4 first second third fourth) (λ h. rw ((by_row4 h).0, (by_row4 h).1) (four h)) λ n₄.
      rw (n₁, n₂, n₃, n₄) (none (point_at s i))

-- what a row says in numbers
pub ruleset rows = (and_left, and_right, eqb-true, leb-true)

pub row2_says : (a b : ℕ) → row2 a b ≡ true → (a / 32 ≡ 6) × (b / 64 ≡ 2) × (0x80 ≤ point2 a b) × (point2 a b ≤ 0x7FF)
unfolding row2 lead2 tail_octet range2
row2_says a b h = search rows depth 8

pub row3_says : (a b c : ℕ) → row3 a b c ≡ true
    → (a / 16 ≡ 14) × (b / 64 ≡ 2) × (c / 64 ≡ 2) × (0x800 ≤ point3 a b c) × (point3 a b c ≤ 0xFFFF) × (not (surrogate (point3 a b c)) ≡ true)
unfolding row3 lead3 tail_octet range3
row3_says a b c h = search rows depth 8

pub row4_says : (a b c d : ℕ) → row4 a b c d ≡ true
    → (a / 8 ≡ 30) × (b / 64 ≡ 2) × (c / 64 ≡ 2) × (d / 64 ≡ 2) × (0x10000 ≤ point4 a b c d) × (point4 a b c d ≤ 0x10FFFF)
unfolding row4 lead4 tail_octet range4
row4_says a b c d h = search rows depth 8

not_below : {a b : ℕ} → (a < b → ⊥) → b ≤ a
not_below n = omega arith

-- past the end of a text stands 0
pub stands_within : (s : List ℕ) (i : ℕ) → 0 < get_or s i 0 → i < length s
stands_within s i h = go (dec_lt i (length s))
  where
    go : Dec (i < length s) → i < length s
    go (yes l) = l
    go (no n) = absurd (omega (arith, get_or-eq_default s 0 (not_below n)))

-- so a row that fits ends within the text
pub row2_fits : (s : List ℕ) → row2 (get_or s 0 0) (get_or s 1 0) ≡ true → 2 ≤ length s
row2_fits s e = let r = row2_says (get_or s 0 0) (get_or s 1 0) e in omega (arith, stands_within s 1 (omega arith))

pub row3_fits : (s : List ℕ) → row3 (get_or s 0 0) (get_or s 1 0) (get_or s 2 0) ≡ true → 3 ≤ length s
row3_fits s e = let r = row3_says (get_or s 0 0) (get_or s 1 0) (get_or s 2 0) e in omega (arith, stands_within s 2 (omega arith))

pub row4_fits : (s : List ℕ) → row4 (get_or s 0 0) (get_or s 1 0) (get_or s 2 0) (get_or s 3 0) ≡ true → 4 ≤ length s
row4_fits s e =
    let r = row4_says (get_or s 0 0) (get_or s 1 0) (get_or s 2 0) (get_or s 3 0) e in
    omega (arith, stands_within s 3 (omega arith))

-- so a character ends within the text that it starts in
pub ends_within : (s : List ℕ) (i : ℕ) → i < length s → i + width_at s i ≤ length s
ends_within s i h =
    by_rows s i (λ n p. i + n ≤ length s) (λ e. omega arith)
    (λ e. let r = row2_says (get_or s i 0) (get_or s (i + 1) 0) e in omega (arith, stands_within s (i + 1) (omega arith)))
    (λ e. let r = row3_says (get_or s i 0) (get_or s (i + 1) 0) (get_or s (i + 2) 0) e in omega (arith, stands_within s (i + 2) (omega arith)))
    (λ e. let r = row4_says (get_or s i 0) (get_or s (i + 1) 0) (get_or s (i + 2) 0) (get_or s (i + 3) 0) e in omega (arith, stands_within s (i + 3) (omega arith)))
    (λ p. omega arith)

-- and is at most four octets wide
pub width_at_most_four : (s : List ℕ) (i : ℕ) → width_at s i ≤ 4
width_at_most_four s i = by_rows s i (λ n p. n ≤ 4) (λ e. omega arith) (λ e. omega arith) (λ e. omega arith) (λ e. omega arith) (λ p. omega arith)
