-- The table of RFC 3629 read from left to right: the octets of a character number. With it the reader of specs/Utf8 is checked against the
-- writer: each undoes the other.
use Rattle.std.specs.Prelude.{◌≡◌, Bool, true, cond, not, ◌&&◌, List, [], ◌∷◌, ◌++◌, ℕ, ◌+◌, ◌/◌, ◌%◌, leb}
use Rattle.text.specs.Utf8.{surrogate, well_formed, decoded}

-- ".. characters from the U+0000..U+10FFFF range ..", without the surrogates.
unfoldable pub scalar : ℕ → Bool
scalar p = leb p 0x10FFFF && not (surrogate p)

unfoldable pub all_scalar : List ℕ → Bool
all_scalar [] = true
all_scalar (p ∷ ps) = scalar p && all_scalar ps

-- "Determine the number of octets required from the character number and the first column of the table above. .. Prepare the high-order bits of
-- the octets as per the second column of the table. Fill in the bits marked x from the bits of the character number, expressed in binary. .."
unfoldable pub encoded : ℕ → List ℕ
encoded p =
    cond (leb p 0x7F) (p ∷ [])
    (cond (leb p 0x7FF) ((0b1100_0000 + p / 64) ∷ (0b1000_0000 + p % 64) ∷ [])
    (cond (leb p 0xFFFF) ((0b1110_0000 + p / 4096) ∷ (0b1000_0000 + p / 64 % 64) ∷ (0b1000_0000 + p % 64) ∷ [])
    ((0b1111_0000 + p / 262144) ∷ (0b1000_0000 + p / 4096 % 64) ∷ (0b1000_0000 + p / 64 % 64) ∷ (0b1000_0000 + p % 64) ∷ [])))

unfoldable pub encoded_all : List ℕ → List ℕ
encoded_all [] = []
encoded_all (p ∷ ps) = encoded p ++ encoded_all ps

-- What is written is well formed, and reading it gives what was written.
abbrev pub WrittenIsRead : Type 0
WrittenIsRead = (ps : List ℕ) → all_scalar ps ≡ true → (well_formed (encoded_all ps) ≡ true) × (decoded (encoded_all ps) ≡ ps)

-- What is well formed reads as scalar values, and writing these gives it back, octet for octet: no text has a second form.
abbrev pub ReadIsWritten : Type 0
ReadIsWritten = (s : List ℕ) → well_formed s ≡ true → (all_scalar (decoded s) ≡ true) × (encoded_all (decoded s) ≡ s)
