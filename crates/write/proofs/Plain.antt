-- Plain texts: ASCII without a bar, CR or LF. Each is a field, and well formed; letters and digits are plain.
-- Assumes nothing.
use mathlib.Core.Path.{◌≡◌, refl}
use mathlib.Core.Bool.{Bool, true, false, not, ◌&&◌}
use mathlib.Core.List.{List, [], ◌∷◌, ◌++◌}
use Prim.Native.Nat.{ℕ, zero, suc, ◌+◌, ◌/◌, ◌%◌, ◌≤◌}
use native.Mathlib.Omega.{arith}
use borrow.Author.Tests.{not-true, leb-true, lt-ltb, ne_eqb}
use lib.Dec.{leb, eqb}
use Rattle.text.specs.Bytes.{between, digit, letter, letter_or_digit, letters_or_digits, has_byte}
use Rattle.text.specs.Utf8.{ascii, well_formed, well_formed_after}
use Rattle.text.proofs.Branches.{and_left, and_right, both_yes, either_way}
use Rattle.text.proofs.Utf8Laws.{by_ascii}
use Rattle.text.proofs.Utf8Joined.{joined_well_formed}
use Rattle.write.specs.Files.{is_field, are_fields, are_well_formed}
use Rattle.write.specs.Spelled.{digits}

unfoldable pub is_plain : ℕ → Bool
is_plain b = ascii b && (not (eqb b 0x7C) && (not (eqb b 0x0D) && not (eqb b 0x0A)))

unfoldable pub plain : List ℕ → Bool
plain [] = true
plain (b ∷ s) = is_plain b && plain s

unfoldable pub all_plain : List (List ℕ) → Bool
all_plain [] = true
all_plain (field ∷ row) = plain field && all_plain row

-- a byte that no plain text has
module _ (b : ℕ) (never : (x : ℕ) → is_plain x ≡ true → eqb x b ≡ false) where
  plain_without : (s : List ℕ) → plain s ≡ true → has_byte b s ≡ false
  unfolding plain
  plain_without [] h = refl
  plain_without (x ∷ s) h = rw (never x (and_left (is_plain x) (plain s) h)) (plain_without s (and_right (is_plain x) (plain s) h))

plain_is : (b : ℕ) → is_plain b ≡ true → (ascii b ≡ true) × (eqb b 0x7C ≡ false) × (eqb b 0x0D ≡ false) × (eqb b 0x0A ≡ false)
unfolding is_plain
plain_is b h =
    let ends = and_right (ascii b) _ h in
    let line = and_right (not (eqb b 0x7C)) _ ends in (
      and_left (ascii b) _ h,
      not-true _ (and_left (not (eqb b 0x7C)) _ ends),
      not-true _ (and_left (not (eqb b 0x0D)) _ line),
      not-true _ (and_right (not (eqb b 0x0D)) _ line),
    )

pub plain_field : (s : List ℕ) → plain s ≡ true → is_field s ≡ true
unfolding is_field
plain_field s h =
    rw (plain_without 0x7C (λ x is. (plain_is x is).1) s h, plain_without 0x0D (λ x is. (plain_is x is).2) s h, plain_without 0x0A (λ x is. (plain_is x is).3) s h)

one_well_formed : (b : ℕ) → ascii b ≡ true → well_formed (b ∷ []) ≡ true
unfolding well_formed_after
one_well_formed b h = rw (by_ascii (b ∷ []) 0 h).0

pub plain_well_formed : (s : List ℕ) → plain s ≡ true → well_formed s ≡ true
unfolding plain well_formed_after
plain_well_formed [] h = refl
plain_well_formed (b ∷ s) h =
    joined_well_formed (b ∷ []) s (one_well_formed b (plain_is b (and_left (is_plain b) (plain s) h)).0)
    (plain_well_formed s (and_right (is_plain b) (plain s) h))

pub plain_fields : (row : List (List ℕ)) → all_plain row ≡ true → are_fields row ≡ true
unfolding all_plain are_fields
plain_fields [] h = refl
plain_fields (field ∷ row) h =
    both_yes (is_field field) (are_fields row) (plain_field field (and_left (plain field) (all_plain row) h)) (plain_fields row (and_right (plain field) (all_plain row) h))

pub plain_row : (row : List (List ℕ)) → all_plain row ≡ true → are_well_formed row ≡ true
unfolding all_plain are_well_formed
plain_row [] h = refl
plain_row (field ∷ row) h =
    both_yes (well_formed field) (are_well_formed row) (plain_well_formed field (and_left (plain field) (all_plain row) h))
    (plain_row row (and_right (plain field) (all_plain row) h))

-- 0 to 9, A to Z and a to z stand between 30 and 7A
plain_between : (b : ℕ) → 0x30 ≤ b → b ≤ 0x7A → is_plain b ≡ true
unfolding is_plain ascii
plain_between b low high =
    rw (lt-ltb b 128 (omega arith), ne_eqb b 0x7C (λ e. omega arith), ne_eqb b 0x0D (λ e. omega arith), ne_eqb b 0x0A (λ e. omega arith))

within : (low high b : ℕ) → 0x30 ≤ low → high ≤ 0x7A → between low high b ≡ true → is_plain b ≡ true
within low high b l h is =
    let from = leb-true low b (and_left (leb low b) (leb b high) is) in
    let to = leb-true b high (and_right (leb low b) (leb b high) is) in
    plain_between b (omega arith) (omega arith)

letter_plain : (b : ℕ) → letter b ≡ true → is_plain b ≡ true
unfolding letter
letter_plain b h =
    either_way (between 0x41 0x5A b)
    (λ large. within 0x41 0x5A b (omega arith) (omega arith) large)
    (λ not. within 0x61 0x7A b (omega arith) (omega arith) (rw not at h))

letter_or_digit_plain : (b : ℕ) → letter_or_digit b ≡ true → is_plain b ≡ true
unfolding letter_or_digit digit
letter_or_digit_plain b h =
    either_way (letter b)
    (λ is. letter_plain b is)
    (λ not. within 0x30 0x39 b (omega arith) (omega arith) (rw not at h))

pub letters_or_digits_plain : (s : List ℕ) → letters_or_digits s ≡ true → plain s ≡ true
unfolding plain
letters_or_digits_plain [] h = refl
letters_or_digits_plain (b ∷ s) h =
    both_yes (is_plain b) (plain s) (letter_or_digit_plain b (and_left (letter_or_digit b) (letters_or_digits s) h))
    (letters_or_digits_plain s (and_right (letter_or_digit b) (letters_or_digits s) h))

pub letter_then : (b : ℕ) (s : List ℕ) → letter b ≡ true → plain s ≡ true → plain (b ∷ s) ≡ true
unfolding plain
letter_then b s h rest = both_yes (is_plain b) (plain s) (letter_plain b h) rest

-- what is spelled
plain_joined : (s t : List ℕ) → plain s ≡ true → plain t ≡ true → plain (s ++ t) ≡ true
unfolding plain
plain_joined [] t h k = k
plain_joined (b ∷ s) t h k = both_yes (is_plain b) (plain (s ++ t)) (and_left (is_plain b) (plain s) h) (plain_joined s t (and_right (is_plain b) (plain s) h) k)

pub digits_plain : (places n : ℕ) → plain (digits places n) ≡ true
unfolding digits plain
digits_plain zero n = refl
digits_plain (suc places) n =
    plain_joined (digits places (n / 10)) ((0x30 + n % 10) ∷ []) (digits_plain places (n / 10))
    (rw (plain_between (0x30 + n % 10) (omega arith) (omega arith)))
