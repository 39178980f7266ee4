-- The identifier in a head: two are the same just where three numbers of their heads are equal, and the zeros behind one.
-- Assumes nothing.
use mathlib.Core.Path.{◌≡◌, sym, ap, ◌∙◌}
use mathlib.Core.Bool.{Bool, ◌&&◌, and_comm}
use mathlib.Core.List.{List}
use Prim.Native.Nat.{ℕ, zero, suc, ◌+◌, ◌-◌, ◌<◌}
use native.Mathlib.Nat.{sub-zero, zero-sub}
use native.Mathlib.Omega.{arith}
use lib.Dec.{eqb}
use lib.ListN.{length, get_or, take, drop, replicate, length-drop, length-replicate}
use lib.Seq.{take_all}
use Rattle.text.specs.Bytes.{same}
use Rattle.epe.specs.Ident.{same_ident}
use Rattle.memory.specs.Number.{number_at}
use Rattle.memory.specs.Layout.{IsHead}
use Rattle.memory.specs.Heads.{name_in}
use Rattle.memory.proofs.Numbers.{alike, by_parts, by_bytes}

one_byte : (head : List ℕ) (at : ℕ) → number_at 1 head at ≡ get_or head at 0
unfolding number_at
one_byte head at = omega arith

-- bytes 0 to 17 as numbers of eight, eight and two: the identifier with its length
abbrev pub same_words : List ℕ → List ℕ → Bool
same_words a b = alike a b 8 0 && (alike a b 8 8 && alike a b 2 16)

module _ (a b : List ℕ) (long_a : IsHead a) (long_b : IsHead b)
    (bytes_a : (j : ℕ) → get_or a j 0 < 256) (bytes_b : (j : ℕ) → get_or b j 0 < 256) where
  parts : (m n at : ℕ) → alike a b (m + n) at ≡ (alike a b m at && alike a b n (at + m))
  parts = by_parts a b bytes_a bytes_b

  pub by_words : same_ident (name_in a).ident (name_in b).ident ≡ same_words a b
  unfolding same_ident
  by_words =
      and_comm (eqb (get_or a 17 0) (get_or b 17 0)) (same (take 17 a) (take 17 b))
      ∙ rw (← one_byte a 17, ← one_byte b 17, ← by_bytes a b bytes_a bytes_b 17 0 (omega arith) (omega arith)) (sym (parts 17 1 0))
      ∙ parts 8 10 0
      ∙ ap (λ rest. alike a b 8 0 && rest) (parts 8 2 8)

zeros_left : (n m : ℕ) → drop n (replicate {A = ℕ} m 0) ≡ replicate (m - n) 0
zeros_left zero m = rw (sub-zero m)
zeros_left (suc n) zero = rw (zero-sub (suc n))
zeros_left (suc n) (suc m) = let fewer : suc m - suc n ≡ m - n = omega arith in rw fewer (zeros_left n m)

-- the bytes from a place on, as code takes them, against as many zeros
pub zeros_behind : (head : List ℕ) (n : ℕ) → IsHead head
    → same (take (length (take 17 head) - n) (drop n (take 17 head))) (take (17 - n) (drop n (replicate 17 0))) ≡ same (drop n (take 17 head)) (replicate (17 - n) 0)
zeros_behind head n whole =
    let s = take 17 head in
    let zeros = zeros_left n 17 in
    let long : length (replicate {A = ℕ} (17 - n) 0) ≡ 17 - n = length-replicate (17 - n) 0 in
    (λ i. same (take_all (length s - n) (drop n s) (omega (arith, length-drop n s)) i) (take (17 - n) (zeros i)))
    ∙ ap (same (drop n s)) (take_all (17 - n) (replicate (17 - n) 0) (omega (arith, long)))
