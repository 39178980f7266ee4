-- Numbers as bytes and back, and what stands behind a field.
-- Assumes nothing.
use mathlib.Core.Path.{◌≡◌, refl, sym, ◌∙◌, ap}
use mathlib.Core.List.{List, [], ◌∷◌, ◌++◌}
use Prim.Native.Nat.{ℕ, zero, suc, ◌+◌, ◌*◌, ◌/◌, ◌%◌, ◌^◌, ◌≤◌, ◌<◌}
use native.Mathlib.Omega.{arith}
use native.Mathlib.Nat.{pow-suc}
use lib.ListN.{length, get_or, drop}
use lib.Seq.{drop-drop, drop_at, drop-cons, get_or-drop}
use Rattle.memory.specs.Number.{number_at}
use Rattle.memory.specs.Inner.Enter.{bytes_of}

-- a number read behind a byte, and at a place
number_skip : (width x : ℕ) (l : List ℕ) (at : ℕ) → number_at width (x ∷ l) (suc at) ≡ number_at width l at
unfolding number_at
number_skip zero x l at = refl
number_skip (suc width) x l at = ap (λ (n : ℕ). get_or l at 0 + 256 * n) (number_skip width x l (suc at))

number_nothing : (width at : ℕ) → number_at width [] at ≡ 0
unfolding number_at
number_nothing zero at = refl
number_nothing (suc width) at = let rest = number_nothing width (suc at) in omega arith

pub number_from : (width : ℕ) (m : List ℕ) (at : ℕ) → number_at width m at ≡ number_at width (drop at m) 0
number_from width m zero = refl
number_from width [] (suc at) = number_nothing width (suc at) ∙ sym (number_nothing width 0)
number_from width (x ∷ m) (suc at) = number_skip width x m at ∙ number_from width m at

pub byte_from : (m : List ℕ) (at : ℕ) → get_or m at 0 ≡ get_or (drop at m) 0 0
byte_from m at = let here : at + 0 ≡ at = omega arith in sym (get_or-drop at m 0 0 ∙ ap (λ (j : ℕ). get_or m j 0) here)

-- a number's bytes are read back as the number
pub bytes_read : (width n : ℕ) (rest : List ℕ) → n < 256 ^ width → number_at width (bytes_of width n ++ rest) 0 ≡ n
unfolding number_at
bytes_read zero n rest h = omega (arith, h)
bytes_read (suc width) n rest h =
    let next = number_skip width (n % 256) (bytes_of width (n / 256) ++ rest) 0 ∙ bytes_read width (n / 256) rest (omega (arith, pow-suc 256 width)) in
    omega arith

-- what stands at a place, and behind a field there
module _ (m : List ℕ) (at : ℕ) where
  pub behind_field : (field rest : List ℕ) (width : ℕ) → length field ≡ width → drop at m ≡ field ++ rest → drop (at + width) m ≡ rest
  behind_field field rest width long is = sym (drop-drop width at m) ∙ ap (λ (l : List ℕ). drop width l) is ∙ drop_at field rest width long

  pub number_there : (width n : ℕ) (rest : List ℕ) → n < 256 ^ width → drop at m ≡ bytes_of width n ++ rest → number_at width m at ≡ n
  number_there width n rest h is = number_from width m at ∙ ap (λ (l : List ℕ). number_at width l 0) is ∙ bytes_read width n rest h

  pub byte_there : (b : ℕ) (rest : List ℕ) → drop at m ≡ b ∷ rest → get_or m at 0 ≡ b
  byte_there b rest is = byte_from m at ∙ ap (λ (l : List ℕ). get_or l 0 0) is

-- bytes are those of the number that they say
module _ (m : List ℕ) (bytes : (j : ℕ) → get_or m j 0 < 256) where
  pub number_then : (width at : ℕ) → at + width ≤ length m → {rest : List ℕ} → rest ≡ drop (at + width) m → bytes_of width (number_at width m at) ++ rest ≡ drop at m
  unfolding number_at
  number_then zero at room is = let here : at + 0 ≡ at = omega arith in is ∙ ap (λ (j : ℕ). drop j m) here
  number_then (suc width) at room {rest} is =
      let byte = bytes at in
      let low : number_at (suc width) m at % 256 ≡ get_or m at 0 = omega arith in
      let high : number_at (suc width) m at / 256 ≡ number_at width m (suc at) = omega arith in
      let place : suc at + width ≡ at + suc width = omega arith in
      let next = number_then width (suc at) (omega arith) (is ∙ ap (λ (j : ℕ). drop j m) (sym place)) in
      (λ i. low i ∷ (bytes_of width (high i) ++ rest)) ∙ ap (λ (l : List ℕ). get_or m at 0 ∷ l) next ∙ sym (drop-cons m at 0 (omega arith))

  pub byte_then : (at : ℕ) → at < length m → {rest : List ℕ} → rest ≡ drop (suc at) m → get_or m at 0 ∷ rest ≡ drop at m
  byte_then at room is = ap (λ (l : List ℕ). get_or m at 0 ∷ l) is ∙ sym (drop-cons m at 0 room)
