-- Lines of a text from a place on: where one ends, and how the next follows.
--     line_here        a line that ends with CR LF, and the lines after it
--     last_line_here   the line that ends with the text
-- Assumes nothing.
use mathlib.Core.Path.{◌≡◌, refl, sym, ap, subst, ◌∙◌}
use mathlib.Core.Logic.{◌⊎◌, inl, inr}
use Rattle.std.proofs.Math.Bool.{and-true}
use mathlib.Core.Bool.{Bool, true, false, cond, ◌&&◌}
use mathlib.Core.List.{List, [], ◌∷◌}
use Prim.Native.Nat.{ℕ, zero, suc, ◌+◌, ◌-◌, ◌<◌, ◌≤◌}
use native.Mathlib.Nat.{add-zero, zero-add}
use native.Mathlib.Omega.{arith}
use borrow.Author.Tests.{eq-eqb, ne_eqb, eqb-true}
use denote.Bor.{Bor}
use lib.Dec.{eqb}
use lib.ListN.{length, get_or, drop, take, drop_of_length-le, length-drop, get_or-eq_default}
use lib.Seq.{drop-drop, get_or-drop}
use lib.Pointwise.{pointwise}
use Rattle.std.specs.Prelude.{Option, Some, None, MatchOption}
use Rattle.std.specs.Option.{unwrap_or}
use Rattle.std.specs.List.{AllWithin, HoldsAt}
use Rattle.std.specs.Iterator.{AlwaysYields}
use Rattle.std.proofs.lemmas.Iterator.{YieldsList}
use Rattle.memchr.specs.Find.{TakesFirst, is_byte, places_from, places}
use Rattle.text.specs.Bytes.{part}
use Rattle.text.specs.Fields.{onto}
use Rattle.text.specs.Lines.{crlf, parted, without_last_end, line_stop}
use Rattle.text.proofs.Branches.{both_yes, second_no}
use Rattle.text.proofs.Places.{from_here}

-- the end that is dropped: `strip_suffix` looks at the last two bytes together, `without_last_end` at each
last_two : (s : List ℕ) → pointwise eqb (drop (length s - 2) s) (13 ∷ 10 ∷ []) ≡ crlf (get_or s (length s - 2) 0) (get_or s (length s - 2 + 1) 0)
last_two [] = refl
last_two (b ∷ []) = second_no (eqb b 13) false refl ∙ sym (second_no (eqb b 13) (eqb 0 10) refl)
last_two (b ∷ c ∷ s) =
    let t = b ∷ c ∷ s in
    let n = length t - 2 in
    let past : drop (n + 1 + 1) t ≡ [] = drop_of_length-le t (omega arith) in
    rw (from_here t n (omega arith), from_here t (n + 1) (omega arith), past) (ap (λ u. eqb (get_or t n 0) 13 && u) (and-true (eqb (get_or t (n + 1) 0) 10)))

pub end_stripped : (s : Bor (List ℕ)) (r : Option (Bor (List ℕ)))
    → MatchOption r (pointwise eqb (drop (length s.now - 2) s.now) (13 ∷ 10 ∷ []) ≡ false)
    (λ x. (pointwise eqb (drop (length s.now - 2) s.now) (13 ∷ 10 ∷ []) ≡ true) × (x.now ≡ take (length s.now - 2) s.now) × (length x.now + 2 ≡ length s.now))
    → (unwrap_or r s).now ≡ without_last_end s.now
unfolding without_last_end
end_stripped s None h = rw (sym (last_two s.now) ∙ h)
end_stripped s (Some x) h = rw (sym (last_two s.now) ∙ h.0) h.1

-- a text whose last byte is no LF loses none, and no shorter one than CR LF does
pub no_lf_at_end : (s : List ℕ) → (get_or s (length s - 2 + 1) 0 ≡ 10 → ⊥) → s ≡ without_last_end s
unfolding without_last_end
no_lf_at_end s h = rw (second_no (eqb (get_or s (length s - 2) 0) 13) (eqb (get_or s (length s - 2 + 1) 0) 10) (ne_eqb (get_or s (length s - 2 + 1) 0) 10 h))

pub too_short_to_end : (s : List ℕ) → length s < 2 → s ≡ without_last_end s
too_short_to_end s h =
    let z : get_or s (length s - 2 + 1) 0 ≡ 0 = get_or-eq_default s 0 {n = length s - 2 + 1} (omega arith) in
    no_lf_at_end s (λ e. let never = sym z ∙ e in absurd (omega arith))

-- a line goes on to the first CR with an LF behind it, which is looked for among the places of CR
module _ (s : List ℕ) where
  abbrev pub LfBehind : ℕ → Type 0
  LfBehind k = get_or (drop k s) 1 0 ≡ 10

  abbrev pub NoLfBehind : ℕ → Type 0
  NoLfBehind k = get_or (drop k s) 1 0 ≡ 10 → ⊥

  abbrev FirstOf : List ℕ → Option ℕ → Type 0
  FirstOf places r = MatchOption r (AllWithin NoLfBehind places 0 (length places))
      (λ x. LfBehind x × (j : ℕ) × (j < length places) × HoldsAt (λ y. y ≡ x) places j × AllWithin NoLfBehind places 0 j)

  -- the first of some places is it, or it is among the others
  first_or_later : (i : ℕ) (later : List ℕ) (r : Option ℕ) → FirstOf (i ∷ later) r
      → ((r ≡ Some i) × LfBehind i) ⊎ (NoLfBehind i × FirstOf later r)
  first_or_later i later None h = inr (h 0 0 (omega arith) (omega arith), λ k d l m. h (suc k) d (omega arith) (omega arith))
  first_or_later i later (Some x) h = go h.1 h.2 h.3 h.4
    where
      go : (j : ℕ) → j < suc (length later) → HoldsAt (λ y. y ≡ x) (i ∷ later) j → AllWithin NoLfBehind (i ∷ later) 0 j
          → ((Some x ≡ Some i) × LfBehind i) ⊎ (NoLfBehind i × FirstOf later (Some x))
      go zero l at before = let same : i ≡ x = at 0 in inl (rw same refl, rw same h.0)
      go (suc j) l at before = inr (before 0 0 (omega arith) (omega arith), (h.0, j, omega arith, (λ d. at d), λ k d m n. before (suc k) d (omega arith) (omega arith)))

  module _ (i : ℕ) where
    stop_here : i < length s → get_or s i 0 ≡ 13 → LfBehind i → line_stop (drop i s) ≡ 0
    unfolding line_stop
    stop_here h e f =
        let g = sym (get_or-drop i s 1 0) ∙ f in
        rw (from_here s i h)
        (rw (get_or-drop, add-zero) (rw (both_yes (eqb (get_or s i 0) 13) (eqb (get_or s (i + 1) 0) 10) (eq-eqb (get_or s i 0) 13 e) (eq-eqb (get_or s (i + 1) 0) 10 g))))

    stop_on : i < length s → (eqb (get_or s i 0) 13 && eqb (get_or s (i + 1) 0) 10) ≡ false → line_stop (drop i s) ≡ suc (line_stop (drop (i + 1) s))
    unfolding line_stop
    stop_on h f = rw (from_here s i h) (rw (get_or-drop, add-zero) (rw f))

    stop_end : length s ≤ i → line_stop (drop i s) ≡ 0
    unfolding line_stop
    stop_end h = rw (drop_of_length-le s h)

  stop_found : (n i : ℕ) → i + n ≡ length s → (r : Option ℕ) → FirstOf (places_from (λ x. eqb x 13) s i n) r → unwrap_or r (length s) ≡ i + line_stop (drop i s)
  unfolding places_from
  stop_found zero i e None h = omega (arith, stop_end i (omega arith))
  stop_found zero i e (Some x) h = absurd (omega (arith, h.2))
  stop_found (suc n) i e r h = go (eqb (get_or s i 0) 13) refl h (stop_found n (i + 1) (omega arith) r)
    where
      on : (eqb (get_or s i 0) 13 && eqb (get_or s (i + 1) 0) 10) ≡ false → unwrap_or r (length s) ≡ i + 1 + line_stop (drop (i + 1) s)
          → unwrap_or r (length s) ≡ i + line_stop (drop i s)
      on f later = omega (arith, later, stop_on i (omega arith) f)

      go : (t : Bool) → eqb (get_or s i 0) 13 ≡ t
          → FirstOf (cond t (i ∷ places_from (λ x. eqb x 13) s (i + 1) n) (places_from (λ x. eqb x 13) s (i + 1) n)) r
          → (FirstOf (places_from (λ x. eqb x 13) s (i + 1) n) r → unwrap_or r (length s) ≡ i + 1 + line_stop (drop (i + 1) s))
          → unwrap_or r (length s) ≡ i + line_stop (drop i s)
      go false e₁ found later = on (rw e₁) (later found)
      go true e₁ found later = by (first_or_later i (places_from (λ x. eqb x 13) s (i + 1) n) r found)
        where
          by : ((r ≡ Some i) × LfBehind i) ⊎ (NoLfBehind i × FirstOf (places_from (λ x. eqb x 13) s (i + 1) n) r) → unwrap_or r (length s) ≡ i + line_stop (drop i s)
          by (inl here) = rw here.0 (omega (arith, stop_here i (omega arith) (eqb-true (get_or s i 0) 13 e₁) here.1))
          by (inr further) = on (second_no (eqb (get_or s i 0) 13) (eqb (get_or s (i + 1) 0) 10) (ne_eqb (get_or s (i + 1) 0) 10 (λ f. further.0 (get_or-drop i s 1 0 ∙ f)))) (later further.1)

  pub line_found : (r : Option ℕ) → FirstOf (places (is_byte 13) s) r → unwrap_or r (length s) ≡ line_stop s
  line_found r h = stop_found (length s - 0) 0 (omega arith) r h ∙ zero-add (line_stop s)

-- an iterator over places gives them one by one
pub each_in_turn : (places : List ℕ) → YieldsList TakesFirst (λ x. x) places places
each_in_turn places = record { runs = go places }
  where
    go : (places : List ℕ) → AlwaysYields TakesFirst (λ x. x) places places
    go [] = λ x j e. cc
    go (y ∷ ys) = (λ j e. cc, λ x j e. let same : ys ≡ j = cc in ((let one : x ≡ y = cc in one), subst (λ t. AlwaysYields TakesFirst (λ x. x) t ys) same (go ys)))

-- a text parted: its first line, and the lines after the CR LF
lone_byte : (b : ℕ) → crlf b 0 ≡ false
lone_byte b = second_no (eqb b 13) (eqb 0 10) refl

onto_cons : (b : ℕ) (f : List ℕ) (fs gs : List (List ℕ)) → gs ≡ f ∷ fs → onto b gs ≡ (b ∷ f) ∷ fs
unfolding onto
onto_cons b f fs gs e = rw e

stop_le : (s : List ℕ) → line_stop s ≤ length s
unfolding line_stop
stop_le [] = omega arith
stop_le (b ∷ s) = go (crlf b (get_or s 0 0)) (stop_le s)
  where
    go : (t : Bool) → line_stop s ≤ length s → cond t 0 (suc (line_stop s)) ≤ suc (length s)
    go true h = omega arith
    go false h = omega arith

parted_first : (s : List ℕ) → line_stop s < length s
    → (line_stop s + 2 ≤ length s) × (parted s ≡ take (line_stop s) s ∷ parted (drop (line_stop s + 2) s))
unfolding parted line_stop
parted_first [] h = absurd (omega arith)
parted_first (b ∷ []) h = absurd (let one = rw (lone_byte b) at h in omega arith)
parted_first (b ∷ c ∷ s) h = go (crlf b c) (line_stop (c ∷ s)) h (parted_first (c ∷ s))
  where
    go : (t : Bool) (w : ℕ) → cond t 0 (suc w) < suc (suc (length s))
        → (w < suc (length s) → (w + 2 ≤ suc (length s)) × (parted (c ∷ s) ≡ take w (c ∷ s) ∷ parted (drop (w + 2) (c ∷ s))))
        → (cond t 0 (suc w) + 2 ≤ suc (suc (length s)))
        × (cond t ([] ∷ parted s) (onto b (parted (c ∷ s))) ≡ take (cond t 0 (suc w)) (b ∷ c ∷ s) ∷ parted (drop (cond t 0 (suc w) + 2) (b ∷ c ∷ s)))
    go true w h r = (omega arith, refl)
    go false w h r =
        let n : suc w + 2 ≡ suc (w + 2) = omega arith in
        let rest = r (omega arith) in
        (omega (arith, rest.0), rw n (onto_cons b _ _ (parted (c ∷ s)) rest.1))

parted_last : (s : List ℕ) → length s ≤ line_stop s → parted s ≡ s ∷ []
unfolding parted line_stop
parted_last [] h = refl
parted_last (b ∷ []) h = refl
parted_last (b ∷ c ∷ s) h = go (crlf b c) h (parted_last (c ∷ s))
  where
    go : (t : Bool) → suc (suc (length s)) ≤ cond t 0 (suc (line_stop (c ∷ s)))
        → (suc (length s) ≤ line_stop (c ∷ s) → parted (c ∷ s) ≡ (c ∷ s) ∷ [])
        → cond t ([] ∷ parted s) (onto b (parted (c ∷ s))) ≡ (b ∷ c ∷ s) ∷ []
    go true h r = absurd (omega arith)
    go false h r = onto_cons b (c ∷ s) [] (parted (c ∷ s)) (r (omega arith))

-- the same at a place p of a text, with e the end of the line that starts there
module _ (s : List ℕ) (p e : ℕ) (ends : e ≡ p + line_stop (drop p s)) where
  pub line_end_le : p ≤ length s → e ≤ length s
  line_end_le h = omega (arith, stop_le (drop p s), length-drop p s)

  pub line_here : e < length s → (e + 2 ≤ length s) × (parted (drop p s) ≡ part p e s ∷ parted (drop (e + 2) s))
  line_here h =
      let n : e - p ≡ line_stop (drop p s) = omega arith in
      let m : e + 2 ≡ p + (line_stop (drop p s) + 2) = omega arith in
      let l = length-drop p s in
      let first = parted_first (drop p s) (omega arith) in
      (omega (arith, first.0), rw (n, m, ← drop-drop (line_stop (drop p s) + 2) p s) first.1)

  pub last_line_here : p ≤ length s → length s ≤ e → parted (drop p s) ≡ drop p s ∷ []
  last_line_here h l = parted_last (drop p s) (omega (arith, length-drop p s))
