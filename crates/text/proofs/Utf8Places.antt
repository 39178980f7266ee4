-- Laws of what is left of a text, as the steps of `utf8` go on to it: behind ASCII octets, and behind a character.
-- Assumes nothing.
use mathlib.Core.Path.{◌≡◌, refl, sym, ◌∙◌}
use mathlib.Core.Bool.{true, false}
use mathlib.Core.List.{List, [], ◌∷◌}
use Prim.Native.Nat.{ℕ, zero, suc, ◌-◌, ◌<◌, ◌≤◌}
use native.Mathlib.Omega.{arith}
use borrow.Author.Tests.{eq-eqb, ne_eqb}
use lib.Dec.{eqb, eqb-suc-zero}
use lib.ListN.{length, get_or, take, drop, length-take, length-drop}
use lib.Seq.{drop-length, get_or-take}
use Rattle.std.proofs.lemmas.List.{take_rest}
use Rattle.text.specs.Utf8.{ascii, row2, row3, row4, width_at, well_formed_after, well_formed}
use Rattle.text.specs.Inner.Utf8Steps.{Past, IsWidth}
use Rattle.text.proofs.Utf8Laws.{by_ascii, by_row2, by_row3, by_row4, by_rows, row2_fits, row3_fits, row4_fits}

-- a character starts a text where a row of the table fits within it, and none where none does
module _ (s : List ℕ) where
  pub width_one : 1 ≤ length s → ascii (get_or s 0 0) ≡ true → IsWidth s 1
  width_one l h = record { value = sym (by_ascii s 0 h).0; some = omega arith; within = l }

  pub width_two : 2 ≤ length s → row2 (get_or s 0 0) (get_or s 1 0) ≡ true → IsWidth s 2
  width_two l h = record { value = sym (by_row2 s 0 h).0; some = omega arith; within = l }

  pub width_three : 3 ≤ length s → row3 (get_or s 0 0) (get_or s 1 0) (get_or s 2 0) ≡ true → IsWidth s 3
  width_three l h = record { value = sym (by_row3 s 0 h).0; some = omega arith; within = l }

  pub width_four : 4 ≤ length s → row4 (get_or s 0 0) (get_or s 1 0) (get_or s 2 0) (get_or s 3 0) ≡ true → IsWidth s 4
  width_four l h = record { value = sym (by_row4 s 0 h).0; some = omega arith; within = l }

  pub width_none : ascii (get_or s 0 0) ≡ false
      → (2 ≤ length s → row2 (get_or s 0 0) (get_or s 1 0) ≡ false)
      → (3 ≤ length s → row3 (get_or s 0 0) (get_or s 1 0) (get_or s 2 0) ≡ false)
      → (4 ≤ length s → row4 (get_or s 0 0) (get_or s 1 0) (get_or s 2 0) (get_or s 3 0) ≡ false)
      → 0 < length s → width_at s 0 ≡ 0
  width_none one two three four some =
      by_rows s 0 (λ n p. n ≡ 0) (λ h. absurd (let e = sym h ∙ one in cc))
      (λ h. let e = sym h ∙ two (row2_fits s h) in cc)
      (λ h. let e = sym h ∙ three (row3_fits s h) in cc)
      (λ h. let e = sym h ∙ four (row4_fits s h) in cc)
      (λ p. refl)

-- in an empty text nothing is wrong
pub nothing_left : (s : List ℕ) → length s ≡ 0 → well_formed s ≡ true
unfolding well_formed_after
nothing_left [] h = refl
nothing_left (a ∷ s) h = absurd (omega arith)

-- behind ASCII octets a text is as well formed as from them on
pub behind_ascii : (n : ℕ) (s : List ℕ) → n ≤ length s → ((k : ℕ) → k < n → ascii (get_or s k 0) ≡ true) → well_formed (drop n s) ≡ well_formed s
unfolding well_formed_after
behind_ascii zero s h f = refl
behind_ascii (suc n) [] h f = absurd (omega arith)
behind_ascii (suc n) (a ∷ s) h f = rw (by_ascii (a ∷ s) 0 (f 0 (omega arith))).0 (behind_ascii n s (omega arith) (λ k l. f (suc k) (omega arith)))

-- the octets of a character are passed one by one
passed : (skip : ℕ) (s : List ℕ) → skip ≤ length s → well_formed_after skip s ≡ well_formed (drop skip s)
unfolding well_formed_after
passed zero s h = refl
passed (suc skip) [] h = absurd (omega arith)
passed (suc skip) (a ∷ s) h = passed skip s (omega arith)

-- where no character starts something is wrong, and behind one a text is as well formed as from it on
no_character : (s : List ℕ) → 0 < length s → width_at s 0 ≡ 0 → well_formed s ≡ false
unfolding well_formed_after
no_character [] h e = absurd (omega arith)
no_character (a ∷ s) h e = rw e

behind_character : (s : List ℕ) (w : ℕ) → IsWidth s w → well_formed (drop w s) ≡ well_formed s
unfolding well_formed_after
behind_character [] w is = absurd (omega (arith, is.some, is.within))
behind_character (a ∷ s) zero is = absurd (omega (arith, is.some))
behind_character (a ∷ s) (suc w) is = rw (← is.value, eqb-suc-zero) (sym (passed w s (omega (arith, is.within))))

past_by : (s t : List ℕ) (w : ℕ) → length t ≤ length s → well_formed t ≡ well_formed s → IsWidth t w → Past s (take (length t - w) (drop w t))
past_by s t w l e is =
    rw take_rest
    (record { shorter = omega (arith, length-drop w t, is.some, is.within); same = behind_character t w is ∙ e })

-- ASCII octets are passed, to the end of the text or to a character, and that too, if it is one
module _ (s : List ℕ) where
  pub past_none : length s ≡ 0 → well_formed s ≡ eqb (length s) 0
  past_none h = nothing_left s h ∙ sym (eq-eqb (length s) 0 h)

  pub past_all : 0 < length s → ((k : ℕ) → k < length s → ascii (get_or s k 0) ≡ true) → Past s []
  past_all h f = record { shorter = h; same = rw drop-length at (behind_ascii (length s) s (omega arith) f) }

  module _ (i : ℕ) (within : i < length s) (before : (k : ℕ) → k < i → ascii (get_or s k 0) ≡ true) where
    from_here : (length (take (length s - i) (drop i s)) ≤ length s) × (well_formed (take (length s - i) (drop i s)) ≡ well_formed s)
    from_here = rw take_rest (omega (arith, length-drop i s), behind_ascii i s (omega arith) before)

    pub none_past : (0 < length (take (length s - i) (drop i s)) → width_at (take (length s - i) (drop i s)) 0 ≡ 0) → well_formed s ≡ eqb (length s) 0
    none_past none =
        let t = take (length s - i) (drop i s) in
        let some : 0 < length t = rw take_rest (omega (arith, length-drop i s)) in
        sym from_here.1 ∙ no_character t some (none some) ∙ sym (ne_eqb (length s) 0 (omega arith))

    pub past_character : (w : ℕ) → IsWidth (take (length s - i) (drop i s)) w
        → Past s (take (length (take (length s - i) (drop i s)) - w) (drop w (take (length s - i) (drop i s))))
    past_character w is = past_by s (take (length s - i) (drop i s)) w from_here.0 from_here.1 is

  pub past_ascii : (n : ℕ) → 0 < n → n ≤ length s → ((k : ℕ) → k < length (take n s) → ascii (get_or (take n s) k 0) ≡ true) → Past s (drop n s)
  past_ascii n p h f =
      record { shorter = omega (arith, length-drop n s); same = behind_ascii n s h (λ k l. rw (get_or-take n s k 0 l) at (f k (omega (arith, length-take n s)))) }
