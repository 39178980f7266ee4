-- Identifiers as they are held: compared by value, told apart by their texts, and in form.
-- Assumes nothing.
use mathlib.Core.Path.{◌≡◌, refl, sym, ◌∙◌, ap}
use mathlib.Core.Bool.{true, ◌&&◌}
use mathlib.Core.List.{List, [], ◌∷◌, ◌++◌}
use Prim.Native.Nat.{ℕ, zero, suc, min, ◌+◌, ◌-◌, ◌<◌, ◌≤◌}
use native.Mathlib.Numerals.{add-one}
use native.Mathlib.Omega.{arith}
use borrow.Author.Tests.{leb-true, le-leb, eqb-true, eq-eqb}
use lib.Dec.{leb, eqb}
use lib.ListN.{length, get_or, set, take, drop, replicate, length-append, length-replicate, take-append-drop}
use lib.Seq.{length-take-le, take_all, take-suc, take-suc-set, take-append_seam, drop-append_seam}
use Rattle.text.specs.Bytes.{between, letter, letters_or_digits, same}
use Rattle.text.proofs.Branches.{and_left, and_right, both_yes}
use Rattle.text.proofs.Cuts.{padded}
use Rattle.text.proofs.Same.{same_equal, same_self}
use Rattle.epe.specs.Ident.{identifier, ident_of, same_ident, ident_in_form, SameIsEqual, HeldApart, HeldInForm, InFormIsHeld}
use Rattle.epe.specs.declared.ident.Ident.{Ident}

pub same_is_equal : SameIsEqual
unfolding same_ident
same_is_equal a b = (
  λ answer.
      let lens = eqb-true a.len b.len (and_left (eqb a.len b.len) (same a.bytes b.bytes) answer) in
      let texts = same_equal a.bytes b.bytes (and_right (eqb a.len b.len) (same a.bytes b.bytes) answer) in
      λ i. record { bytes = texts i; len = lens i },
  λ equal. rw equal (both_yes (eqb b.len b.len) (same b.bytes b.bytes) (eq-eqb b.len b.len refl) (same_self b.bytes)),
)

pub identifier_fits : (s : List ℕ) → identifier s ≡ true → length s ≤ 17
unfolding identifier
identifier_fits s h =
    let n = length s in
    let letters = (letter (get_or s 0 0) && letter (get_or s 1 0)) && letters_or_digits (drop 2 s) in
    leb-true n 17 (and_right (leb 3 n) (leb n 17) (and_left (between 3 17 n) letters h))

-- a text that fits is held with zeros behind it
module _ (s : List ℕ) (n : ℕ) (fits : length s ≤ n) where
  zeros_behind : take n (s ++ replicate n 0) ≡ s ++ replicate (n - length s) 0
  zeros_behind =
      let m : min n (length s) ≡ length s = omega arith in
      sym (rw (take_all n s fits, m) at (padded n s))

  text_held : take (length s) (take n (s ++ replicate n 0)) ≡ s
  text_held = rw zeros_behind (take-append_seam s (replicate (n - length s) 0))

  zeros_held : drop (length s) (take n (s ++ replicate n 0)) ≡ replicate (n - length s) 0
  zeros_held = rw zeros_behind (drop-append_seam s (replicate (n - length s) 0))

pub held_apart : HeldApart
unfolding ident_of
held_apart s t is_s is_t alike =
    let whole = rw (is_s, is_t) at alike in
    let lens : length s ≡ length t = ap (λ (i : Ident). i.len) whole in
    let texts = ap (λ (i : Ident). i.bytes) whole in
    sym (text_held s 17 (identifier_fits s is_s)) ∙ rw (lens, texts) (text_held t 17 (identifier_fits t is_t))

pub held_in_form : HeldInForm
unfolding ident_of ident_in_form
held_in_form s is =
    let fits = identifier_fits s is in
    rw is (rw (le-leb (length s) 17 fits, text_held s 17 fits, zeros_held s 17 fits, is) (same_self (replicate (17 - length s) 0)))

pub in_form_is_held : InFormIsHeld
unfolding ident_of ident_in_form
in_form_is_held ident size formed =
    let n = ident.len in
    let bytes = ident.bytes in
    let text = take n bytes in
    let zeros = same (drop n bytes) (replicate (17 - n) 0) in
    let fits = leb-true n 17 (and_left (leb n 17) (identifier text && zeros) formed) in
    let rest = and_right (leb n 17) (identifier text && zeros) formed in
    let behind = same_equal (drop n bytes) (replicate (17 - n) 0) (and_right (identifier text) zeros rest) in
    let lens : length text ≡ n = length-take-le n bytes (omega arith) in
    let whole = rw behind at (sym (take-append-drop n bytes)) in
    let texts = whole ∙ sym (rw lens at (zeros_behind text 17 (omega arith))) in
    rw (and_left (identifier text) zeros rest) (λ i. record { bytes = texts i; len = sym lens i })

-- bytes copied one by one, zeros where the text has none
get_d_padded : (s : List ℕ) (n i : ℕ) → get_or (s ++ replicate n 0) i 0 ≡ get_or s i 0
get_d_padded [] zero i = refl
get_d_padded [] (suc n) zero = refl
get_d_padded [] (suc n) (suc i) = get_d_padded [] n i
get_d_padded (b ∷ s) n zero = refl
get_d_padded (b ∷ s) n (suc i) = get_d_padded s n i

module _ (s bytes : List ℕ) (n i : ℕ) (room : i < n) (size : length bytes ≡ n) where
  pub byte_copied : take i bytes ≡ take i (s ++ replicate n 0) → take (i + 1) (set bytes i (get_or s i 0)) ≡ take (i + 1) (s ++ replicate n 0)
  byte_copied copied =
      let all = s ++ replicate n 0 in
      let long : i < length all = omega (arith, length-append s (replicate n 0), length-replicate {A = ℕ} n 0) in
      rw (add-one, take-suc-set bytes i (get_or s i 0) (omega arith), take-suc all i 0 long, get_d_padded s n i, copied)
