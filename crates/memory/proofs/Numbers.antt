-- A number stored is read back, whatever its width, and no other byte moves; two numbers are equal just where their bytes are.
-- Assumes nothing.
use mathlib.Core.Path.{◌≡◌, refl, sym, ap, ◌∙◌}
use mathlib.Core.Bool.{Bool, ◌&&◌, and_assoc}
use mathlib.Core.List.{List, [], ◌∷◌, ◌++◌, append_assoc}
use Prim.Native.Nat.{ℕ, zero, suc, ◌+◌, ◌*◌, ◌-◌, ◌/◌, ◌%◌, ◌^◌, ◌<◌, ◌≤◌}
use native.Mathlib.Omega.{arith}
use native.Mathlib.Nat.{pow-suc, div-div-eq-div-mul, zero-add, add-zero, suc-add}
use borrow.Author.Tests.{eq-eqb, eqb-true}
use borrow.Rule.Slice.PartMut.{put_mid, Post-is}
use lib.Dec.{eqb}
use lib.ListN.{length, get_or, set, take, drop, replicate, length-set, length-drop, take-append-drop, get_or-append}
use lib.Seq.{get_or-set_same, get_or-set_other, get_or-append-add, get_or-take, get_or-drop, drop-cons, drop-set-lt, length-take-le, take-suc, take-set-le}
use Rattle.std.proofs.Common.{rules, Fits, w8}
use Rattle.std.specs.Int.{w64, from_le_bytes, to_le_bytes}
use Rattle.text.specs.Bytes.{same}
use Rattle.text.proofs.Branches.{and_left, and_right, both_yes, both_ways}
use Rattle.memory.specs.Number.{number_at, with_number, StoredIsRead}
use Rattle.memory.specs.Inner.Enter.{bytes_of}

-- numbers whose bytes are the same, one by one, wherever they lie
pub number_alike : (width : ℕ) (l l' : List ℕ) (p q : ℕ) → ((j : ℕ) → j < width → get_or l (p + j) 0 ≡ get_or l' (q + j) 0)
    → number_at width l p ≡ number_at width l' q
unfolding number_at
number_alike zero l l' p q same = refl
number_alike (suc width) l l' p q same =
    let first = rw (add-zero p, add-zero q) at (same 0 (omega arith)) in
    let rest = number_alike width l l' (suc p) (suc q) (λ j h.
    let next_p : suc p + j ≡ p + suc j = omega arith in
    let next_q : suc q + j ≡ q + suc j = omega arith in
    rw (next_p, next_q) (same (suc j) (omega arith))) in
    omega (arith, first, rest)

pub stored_is_read : (width : ℕ) (m : List ℕ) (at n : ℕ) → StoredIsRead width m at n
unfolding number_at with_number
stored_is_read zero m at n = record { back = λ room fits. omega arith; before = λ j h. refl; behind = λ j h. refl; as_long = refl }
stored_is_read (suc width) m at n =
    let rest = stored_is_read width (set m at (n % 256)) (suc at) (n / 256) in
    record {
      back = λ room fits.
          omega (
            arith,
            rest.before at (omega arith),
            get_or-set_same m at (n % 256) 0 (omega arith),
            rest.back (omega (arith, length-set m at (n % 256))) (omega (arith, pow-suc 256 width)),
          );
      before = λ j h. rest.before j (omega arith) ∙ get_or-set_other m at j (n % 256) 0 (omega arith);
      behind = λ j h. rest.behind j (omega arith) ∙ get_or-set_other m at j (n % 256) 0 (omega arith);
      as_long = rest.as_long ∙ length-set m at (n % 256);
    }

-- the lowest byte
pub lowest_byte : (width : ℕ) (m : List ℕ) (at : ℕ) → get_or m at 0 < 256 → number_at (suc width) m at % 256 ≡ get_or m at 0
unfolding number_at
lowest_byte width m at byte = omega arith

-- as many bytes as a number's width say a number below that power of 256
number_low : (width : ℕ) (l : List ℕ) (p : ℕ) → ((j : ℕ) → get_or l j 0 < 256) → number_at width l p < 256 ^ width
unfolding number_at
number_low zero l p bytes = omega arith
number_low (suc width) l p bytes = omega (arith, bytes p, number_low width l (suc p) bytes, pow-suc 256 width)

-- what std reads of eight bytes, and zeros behind a number, which change nothing
eight_read : (l : List ℕ) → from_le_bytes w64 l ≡ number_at 8 l 0
unfolding number_at
eight_read l = omega arith

padded : (width k : ℕ) (l : List ℕ) (p : ℕ) → width ≤ k → ((j : ℕ) → p + width ≤ j → get_or l j 0 ≡ 0) → number_at k l p ≡ number_at width l p
unfolding number_at
padded zero zero l p fits zeros = refl
padded zero (suc k) l p fits zeros = omega (arith, zeros p, padded zero k l (suc p) (omega arith) (λ j h. zeros j (omega arith)))
padded (suc width) zero l p fits zeros = absurd (omega arith)
padded (suc width) (suc k) l p fits zeros = omega (arith, padded width k l (suc p) (omega arith) (λ j h. zeros j (omega arith)))

zero_there : (n i : ℕ) → get_or {A = ℕ} (replicate n 0) i 0 ≡ 0
zero_there zero i = refl
zero_there (suc n) zero = refl
zero_there (suc n) (suc i) = zero_there n i

-- a part of eight bytes at most, copied before zeros
module _ (width at : ℕ) (m part : List ℕ) (enough : at + width ≤ length m) (fits : width ≤ 8) (part_is : part ≡ take (at + width - at) (drop at m)) where
  as_wide : part ≡ take width (drop at m)
  as_wide = let same : at + width - at ≡ width = omega arith in rw same at part_is

  part_long : length part ≡ width
  part_long = ap length as_wide ∙ length-take-le width (drop at m) (omega (arith, length-drop at m))

  abbrev before_zeros : List ℕ
  before_zeros = part ++ drop width (replicate 8 0)

  byte_there : (j : ℕ) → j < width → get_or before_zeros (0 + j) 0 ≡ get_or m (at + j) 0
  byte_there j h =
      let place : 0 + j ≡ j = omega arith in
      rw place
      (get_or-append part (drop width (replicate 8 0)) 0 j (omega (arith, part_long))
      ∙ ap (λ (l : List ℕ). get_or l j 0) as_wide
      ∙ get_or-take width (drop at m) j 0 h
      ∙ get_or-drop at m j 0)

  zeros_behind : (j : ℕ) → 0 + width ≤ j → get_or before_zeros j 0 ≡ 0
  zeros_behind j h =
      let place : j ≡ length part + (j - width) = omega (arith, part_long) in
      ap (λ (p : ℕ). get_or before_zeros p 0) place
      ∙ get_or-append-add part (drop width (replicate 8 0)) (j - width) 0
      ∙ get_or-drop width (replicate 8 0) (j - width) 0
      ∙ zero_there 8 (width + (j - width))

  pub number_read : ((j : ℕ) → get_or m j 0 < 256) → (n : ℕ) → n ≡ from_le_bytes w64 before_zeros → (n ≡ number_at width m at) × (n < 256 ^ width)
  number_read bytes n is =
      let same : n ≡ number_at width m at =
      is ∙ eight_read before_zeros ∙ padded width 8 before_zeros 0 fits zeros_behind ∙ number_alike width before_zeros m 0 at byte_there in
      (same, omega (arith, same, number_low width m at bytes))

  -- the same in two, for any bytes
  pub read_as : (n : ℕ) → n ≡ from_le_bytes w64 before_zeros → ((j : ℕ) → Fits w8 (get_or m j 0)) → n ≡ number_at width m at
  read_as n is bytes = (number_read (λ j. let byte = bytes j in search rules) n is).0

  pub read_below : (n : ℕ) → n ≡ from_le_bytes w64 before_zeros → ((j : ℕ) → Fits w8 (get_or m j 0)) → n < 256 ^ width
  read_below n is bytes = (number_read (λ j. let byte = bytes j in search rules) n is).1

-- by which a number is read
pub ruleset reading = (read_as, read_below)

-- the low bytes of a number, as std gives them, and stored one after the other
eight_low : (n : ℕ) → to_le_bytes w64 n ≡ bytes_of 8 n
eight_low n = simp div-div-eq-div-mul

lower : (width k n : ℕ) → width ≤ k → take width (bytes_of k n) ≡ bytes_of width n
lower zero k n fits = refl
lower (suc width) zero n fits = absurd (omega arith)
lower (suc width) (suc k) n fits = ap (λ (l : List ℕ). n % 256 ∷ l) (lower width k (n / 256) (omega arith))

pasted : (width : ℕ) (m : List ℕ) (at n : ℕ) → at + width ≤ length m → take at m ++ (bytes_of width n ++ drop (at + width) m) ≡ with_number width m at n
unfolding with_number
pasted zero m at n enough = rw (add-zero at) (take-append-drop at m)
pasted (suc width) m at n enough =
    let first = set m at (n % 256) in
    let behind = bytes_of width (n / 256) in
    let long = length-set m at (n % 256) in
    let before : take (suc at) first ≡ take at m ++ n % 256 ∷ [] =
    take-suc first at 0 (omega (arith, long))
    ∙ (λ i. take-set-le at m at (n % 256) (omega arith) i ++ get_or-set_same m at (n % 256) 0 (omega arith) i ∷ []) in
    let next : at + suc width ≡ suc at + width = omega arith in
    rw next
    (sym
    (ap (λ (l : List ℕ). l ++ (behind ++ drop (suc at + width) m)) before
    ∙ append_assoc (take at m) (n % 256 ∷ []) (behind ++ drop (suc at + width) m))
    ∙ ap (λ (l : List ℕ). take (suc at) first ++ (behind ++ l)) (sym (drop-set-lt (suc at + width) m at (n % 256) (omega arith)))
    ∙ pasted width first (suc at) (n / 256) (omega (arith, long)))

pub number_stored : (width at n : ℕ) (m part : List ℕ) → at + width ≤ length m → width ≤ 8 → part ≡ take width (to_le_bytes w64 n)
    → put_mid at (at + width - at) m part ≡ with_number width m at n
number_stored width at n m part enough fits part_is =
    let is : part ≡ bytes_of width n = part_is ∙ ap (take width) (eight_low n) ∙ lower width 8 n fits in
    (λ i. take at m ++ (is i ++ Post-is at (at + width) m (omega arith) i)) ∙ pasted width m at n enough

-- Numbers of the same width, read at the same place of two lists of bytes.
abbrev pub alike : List ℕ → List ℕ → ℕ → ℕ → Bool
alike a b width at = eqb (number_at width a at) (number_at width b at)

by_least_byte : (x y m n : ℕ) → x < 256 → y < 256 → eqb (x + 256 * m) (y + 256 * n) ≡ (eqb x y && eqb m n)
by_least_byte x y m n low_x low_y =
    both_ways (eqb (x + 256 * m) (y + 256 * n)) (eqb x y && eqb m n)
    (λ whole. both_yes (eqb x y) (eqb m n) (eq-eqb x y (omega (arith, eqb-true))) (eq-eqb m n (omega (arith, eqb-true))))
    (λ parts.
    let least = eqb-true x y (and_left (eqb x y) (eqb m n) parts) in
    let rest = eqb-true m n (and_right (eqb x y) (eqb m n) parts) in
    eq-eqb (x + 256 * m) (y + 256 * n) (omega arith))

module _ (a b : List ℕ) (bytes_a : (j : ℕ) → get_or a j 0 < 256) (bytes_b : (j : ℕ) → get_or b j 0 < 256) where
  by_first_byte : (width at : ℕ) → alike a b (suc width) at ≡ (eqb (get_or a at 0) (get_or b at 0) && alike a b width (suc at))
  unfolding number_at
  by_first_byte width at =
      by_least_byte (get_or a at 0) (get_or b at 0) (number_at width a (suc at)) (number_at width b (suc at)) (bytes_a at) (bytes_b at)

  pub by_parts : (m n at : ℕ) → alike a b (m + n) at ≡ (alike a b m at && alike a b n (at + m))
  unfolding number_at
  by_parts zero n at = rw (zero-add n, add-zero at)
  by_parts (suc m) n at =
      let further : at + suc m ≡ suc at + m = omega arith in
      rw (suc-add m n, further, by_first_byte (m + n) at, by_first_byte m at, by_parts m n (suc at))
      (sym (and_assoc (eqb (get_or a at 0) (get_or b at 0)) (alike a b m (suc at)) (alike a b n (suc at + m))))

  pub by_bytes : (width at : ℕ) → at + width ≤ length a → at + width ≤ length b
      → alike a b width at ≡ same (take width (drop at a)) (take width (drop at b))
  unfolding number_at
  by_bytes zero at long_a long_b = refl
  by_bytes (suc width) at long_a long_b =
      let there_a : at < length a = omega arith in
      let there_b : at < length b = omega arith in
      rw (drop-cons a at 0, drop-cons b at 0)
      (by_first_byte width at ∙ ap (λ rest. eqb (get_or a at 0) (get_or b at 0) && rest) (by_bytes width (suc at) (omega arith) (omega arith)))
