-- What is written is read: the octets of scalar values are well formed, and decode to these.
-- Assumes nothing.
use mathlib.Core.Path.{◌≡◌, refl, sym, ◌∙◌, ap}
use mathlib.Core.Bool.{true, false}
use mathlib.Core.List.{List, [], ◌∷◌, ◌++◌}
use Prim.Native.Nat.{ℕ, suc, ◌+◌, ◌*◌, ◌/◌, ◌%◌, ◌<◌, ◌≤◌}
use native.Mathlib.Nat.{div-add-mod'}
use native.Mathlib.Omega.{arith}
use lib.Dec.{leb, eqb-suc-zero}
use lib.ListN.{length}
use lib.Pow.{shr-shr}
use borrow.Author.Tests.{lt-ltb, leb-true, leb-false, not-true}
use Rattle.text.specs.Utf8.{ascii, tail_octet, lead2, lead3, lead4, point2, point3, point4, surrogate, range2, range3, range4, row2, row3, row4}
use Rattle.text.specs.Utf8.{width_at, well_formed_after, well_formed, point_at, decoded_after, decoded}
use Rattle.text.specs.Utf8Encoded.{scalar, all_scalar, encoded, encoded_all, WrittenIsRead}
use Rattle.text.proofs.Branches.{branches, and_left, and_right, cond_either}
use Rattle.text.proofs.Utf8Laws.{by_ascii, by_row2, by_row3, by_row4}

-- what holds of each row's octets holds of the octets of a character number
pub by_ranges : (P : List ℕ → Type 0) (p : ℕ)
    → (p ≤ 0x7F → P (p ∷ []))
    → (0x7F < p → p ≤ 0x7FF → P ((0b1100_0000 + p / 64) ∷ (0b1000_0000 + p % 64) ∷ []))
    → (0x7FF < p → p ≤ 0xFFFF → P ((0b1110_0000 + p / 4096) ∷ (0b1000_0000 + p / 64 % 64) ∷ (0b1000_0000 + p % 64) ∷ []))
    → (0xFFFF < p → P ((0b1111_0000 + p / 262144) ∷ (0b1000_0000 + p / 4096 % 64) ∷ (0b1000_0000 + p / 64 % 64) ∷ (0b1000_0000 + p % 64) ∷ []))
    → P (encoded p)
unfolding encoded
by_ranges P p one two three four =
    cond_either P (leb p 0x7F) _ _ (λ e. one (leb-true p 0x7F e)) λ n₁.
    cond_either P (leb p 0x7FF) _ _ (λ e. two (leb-false p 0x7F n₁) (leb-true p 0x7FF e)) λ n₂.
    cond_either P (leb p 0xFFFF) _ _ (λ e. three (leb-false p 0x7FF n₂) (leb-true p 0xFFFF e)) λ n₃.
    four (leb-false p 0xFFFF n₃)

-- a tail octet, made and read
six_bits : (x : ℕ) → x < 64 → ((0b1000_0000 + x) / 64 ≡ 0b10) × ((0b1000_0000 + x) % 64 ≡ x)
six_bits x h = (omega arith, omega arith)

-- a number in groups of six bits, joined again
in_sixes : (p : ℕ) → p / 262144 * 262144 + p / 4096 % 64 * 4096 + p / 64 % 64 * 64 + p % 64 ≡ p
in_sixes p =
    let x : p / 262144 * 64 + p / 4096 % 64 ≡ p / 4096 = rw (shr-shr p 12 6) at (div-add-mod' (p / 4096) 64) in
    let y : p / 4096 * 64 + p / 64 % 64 ≡ p / 64 = rw (shr-shr p 6 6) at (div-add-mod' (p / 64) 64) in
    joined (p / 262144) (p / 4096 % 64) (p / 64 % 64) (p % 64) (p / 4096) (p / 64) p x y (div-add-mod' p 64)
  where
    joined : (w x y z q r p : ℕ) → w * 64 + x ≡ q → q * 64 + y ≡ r → r * 64 + z ≡ p → w * 262144 + x * 4096 + y * 64 + z ≡ p
    joined w x y z q r p e f g = omega arith

-- the octets of a character number fit their row, and write the number
two_written : (p : ℕ) → 0x7F < p → p ≤ 0x7FF
    → (row2 (0b1100_0000 + p / 64) (0b1000_0000 + p % 64) ≡ true) × (point2 (0b1100_0000 + p / 64) (0b1000_0000 + p % 64) ≡ p)
unfolding row2 lead2 tail_octet range2 point2
two_written p l h =
    let a : (0b1100_0000 + p / 64) / 32 ≡ 0b110 = omega arith in
    let b = six_bits (p % 64) (omega arith) in
    let e : (0b1100_0000 + p / 64) % 32 * 64 + (0b1000_0000 + p % 64) % 64 ≡ p = omega arith in
    (rw (e, b.0) (sym (search branches depth 12)), e)

three_written : (p : ℕ) → 0x7FF < p → p ≤ 0xFFFF → surrogate p ≡ false
    → (row3 (0b1110_0000 + p / 4096) (0b1000_0000 + p / 64 % 64) (0b1000_0000 + p % 64) ≡ true)
    × (point3 (0b1110_0000 + p / 4096) (0b1000_0000 + p / 64 % 64) (0b1000_0000 + p % 64) ≡ p)
unfolding row3 lead3 tail_octet range3 point3
three_written p l h n =
    let a : (0b1110_0000 + p / 4096) / 16 ≡ 0b1110 = omega arith in
    let b = six_bits (p / 64 % 64) (omega arith) in
    let c = six_bits (p % 64) (omega arith) in
    let e : (0b1110_0000 + p / 4096) % 16 * 4096 + (0b1000_0000 + p / 64 % 64) % 64 * 64 + (0b1000_0000 + p % 64) % 64 ≡ p = omega (arith, shr-shr p 6 6) in
    (rw (e, n, b.0, c.0) (sym (search branches depth 12)), e)

four_written : (p : ℕ) → 0xFFFF < p → p ≤ 0x10FFFF
    → (row4 (0b1111_0000 + p / 262144) (0b1000_0000 + p / 4096 % 64) (0b1000_0000 + p / 64 % 64) (0b1000_0000 + p % 64) ≡ true)
    × (point4 (0b1111_0000 + p / 262144) (0b1000_0000 + p / 4096 % 64) (0b1000_0000 + p / 64 % 64) (0b1000_0000 + p % 64) ≡ p)
unfolding row4 lead4 tail_octet range4 point4
four_written p l h =
    let a : (0b1111_0000 + p / 262144) / 8 ≡ 0b11110 = omega arith in
    let x : (0b1111_0000 + p / 262144) % 8 ≡ p / 262144 = omega arith in
    let b = six_bits (p / 4096 % 64) (omega arith) in
    let c = six_bits (p / 64 % 64) (omega arith) in
    let d = six_bits (p % 64) (omega arith) in
    let e = in_sixes p in
    (rw (x, b.1, c.1, d.1, e, a, b.0, c.0, d.0) (sym (search branches depth 12)), rw (x, b.1, c.1, d.1) e)

-- octets that are read as p: what follows them is judged and read as it is by itself
abbrev Reads : ℕ → List ℕ → List ℕ → Type 0
Reads p o t = (well_formed (o ++ t) ≡ well_formed t) × (decoded (o ++ t) ≡ p ∷ decoded t)

-- a reader steps over the octets of a character
stepped_over : (o t : List ℕ) → (well_formed_after (length o) (o ++ t) ≡ well_formed t) × (decoded_after (length o) (o ++ t) ≡ decoded t)
unfolding well_formed_after decoded_after
stepped_over [] t = (refl, refl)
stepped_over (a ∷ o) t = stepped_over o t

reads : (p a : ℕ) (o t : List ℕ) → width_at (a ∷ (o ++ t)) 0 ≡ suc (length o) → point_at (a ∷ (o ++ t)) 0 ≡ p → Reads p (a ∷ o) t
unfolding well_formed_after decoded_after
reads p a o t w q = (rw (w, eqb-suc-zero (length o)) (stepped_over o t).0, rw (w, q, (stepped_over o t).1))

-- one character
one_read : (p : ℕ) (t : List ℕ) → scalar p ≡ true → Reads p (encoded p) t
unfolding scalar ascii
one_read p t h =
    by_ranges (λ o. Reads p o t) p
    (λ b. let r = by_ascii (p ∷ t) 0 (lt-ltb p 0x80 (omega arith)) in reads p p [] t r.0 r.1)
    (λ a b.
    let w = two_written p a b in
    let r = by_row2 (_ ∷ _ ∷ t) 0 w.0 in
    reads p _ (_ ∷ []) t r.0 (r.1 ∙ w.1))
    (λ a b.
    let w = three_written p a b (not-true (surrogate p) (and_right (leb p 0x10FFFF) _ h)) in
    let r = by_row3 (_ ∷ _ ∷ _ ∷ t) 0 w.0 in
    reads p _ (_ ∷ _ ∷ []) t r.0 (r.1 ∙ w.1))
    (λ a.
    let w = four_written p a (leb-true p 0x10FFFF (and_left (leb p 0x10FFFF) _ h)) in
    let r = by_row4 (_ ∷ _ ∷ _ ∷ _ ∷ t) 0 w.0 in
    reads p _ (_ ∷ _ ∷ _ ∷ []) t r.0 (r.1 ∙ w.1))

pub written_is_read : WrittenIsRead
unfolding all_scalar encoded_all well_formed_after decoded_after
written_is_read [] h = (refl, refl)
written_is_read (p ∷ ps) h =
    let one = one_read p (encoded_all ps) (and_left (scalar p) _ h) in
    let rest = written_is_read ps (and_right (scalar p) _ h) in
    (one.0 ∙ rest.0, one.1 ∙ ap (λ l. p ∷ l) rest.1)
