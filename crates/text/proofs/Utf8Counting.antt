-- Counting the octets that are no tail counts characters: a character is written with one such octet, its first, and every well-formed text is
-- the writing of what it decodes to (`read_is_written`).
-- Assumes nothing.
use mathlib.Core.Path.{◌≡◌, refl, sym, ◌∙◌, ap}
use mathlib.Core.Bool.{true, false, cond, not}
use mathlib.Core.List.{List, [], ◌∷◌, ◌++◌}
use Prim.Native.Nat.{ℕ, suc, ◌+◌, ◌/◌, ◌%◌, ◌<◌}
use native.Mathlib.Omega.{arith}
use lib.ListN.{length}
use Rattle.std.proofs.lemmas.List.Sums.{sum_by-cons}
use borrow.Author.Tests.{eq-eqb, ne_eqb}
use Rattle.text.specs.Utf8.{tail_octet, code_points, decoded, CountsWhatIsDecoded}
use Rattle.text.specs.Utf8Encoded.{encoded, encoded_all}
use Rattle.text.proofs.Utf8Read.{read_is_written}
use Rattle.text.proofs.Utf8Written.{by_ranges}

tail_adds_none : (x : ℕ) → x < 64 → not (tail_octet (0b1000_0000 + x)) ≡ false
unfolding tail_octet
tail_adds_none x h = rw (eq-eqb ((128 + x) / 64) 2 (omega arith))

other_adds_one : (a : ℕ) → (a / 64 ≡ 2 → ⊥) → not (tail_octet a) ≡ true
unfolding tail_octet
other_adds_one a h = rw (ne_eqb (a / 64) 2 h)

-- an octet more
counted : (b : ℕ) (s : List ℕ) → code_points (b ∷ s) ≡ cond (not (tail_octet b)) 1 0 + code_points s
counted b s = sum_by-cons (λ x. cond (not (tail_octet x)) 1 0) b s

starts_one : (a : ℕ) (t : List ℕ) → (a / 64 ≡ 2 → ⊥) → code_points (a ∷ t) ≡ suc (code_points t)
starts_one a t h = counted a t ∙ rw (other_adds_one a h) (omega arith)

adds_none : (x : ℕ) (t : List ℕ) → x < 64 → code_points ((0b1000_0000 + x) ∷ t) ≡ code_points t
adds_none x t h = counted (128 + x) t ∙ rw (tail_adds_none x h) (omega arith)

-- a character adds one
adds_one : (p : ℕ) (t : List ℕ) → code_points (encoded p ++ t) ≡ suc (code_points t)
adds_one p t =
    let low = p % 64 in
    let middle = p / 64 % 64 in
    let high = p / 4096 % 64 in
    by_ranges (λ o. code_points (o ++ t) ≡ suc (code_points t)) p
    (λ l. starts_one p t (omega arith))
    (λ l h. starts_one (192 + p / 64) ((128 + low) ∷ t) (omega arith) ∙ ap suc (adds_none low t (omega arith)))
    (λ l h. starts_one (224 + p / 4096) ((128 + middle) ∷ (128 + low) ∷ t) (omega arith) ∙ ap suc (adds_none middle ((128 + low) ∷ t) (omega arith) ∙ adds_none low t (omega arith)))
    (λ l. starts_one (240 + p / 262144) ((128 + high) ∷ (128 + middle) ∷ (128 + low) ∷ t) (omega arith) ∙ ap suc (adds_none high ((128 + middle) ∷ (128 + low) ∷ t) (omega arith) ∙ adds_none middle ((128 + low) ∷ t) (omega arith) ∙ adds_none low t (omega arith)))

-- so a text adds as many as it has
counts_what_is_encoded : (ps : List ℕ) → code_points (encoded_all ps) ≡ length ps
unfolding encoded_all
counts_what_is_encoded [] = refl
counts_what_is_encoded (p ∷ ps) = adds_one p (encoded_all ps) ∙ ap suc (counts_what_is_encoded ps)

-- "Lengths count code points, not bytes."
pub counts_what_is_decoded : CountsWhatIsDecoded
counts_what_is_decoded s h = ap code_points (sym (read_is_written s h).1) ∙ counts_what_is_encoded (decoded s)
