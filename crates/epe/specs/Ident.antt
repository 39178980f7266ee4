-- "A shipment identifier is two letters, then 1 to 15 letters or digits. Letters are A-Z and a-z, and case counts.
-- An identifier is held as 17 bytes with its length, zeros behind it."
use Rattle.std.specs.Prelude.{◌≡◌, Bool, true, cond, ◌&&◌, List, ◌++◌, ◌↔◌, ℕ, ◌-◌, leb, eqb, length, get_or, take, drop, replicate}
use Rattle.text.specs.Bytes.{between, letter, letters_or_digits, same}
use Rattle.epe.specs.declared.ident.Ident.{Ident}

unfoldable pub identifier : List ℕ → Bool
identifier s =
    between 3 17 (length s)
    && ((letter (get_or s 0 0) && letter (get_or s 1 0)) && letters_or_digits (drop 2 s))

-- Bytes as an identifier is held. What is no identifier is held as no bytes, which no shipment has.
unfoldable pub ident_of : List ℕ → Ident
ident_of s =
    cond (identifier s) (record { bytes = take 17 (s ++ replicate 17 0); len = length s })
    (record { bytes = replicate 17 0; len = 0 })

-- Equality by value.
unfoldable pub same_ident : Ident → Ident → Bool
same_ident a b = eqb a.len b.len && same a.bytes b.bytes

-- An identifier as it is held is in form: an identifier's bytes, as many as its length says, and zeros behind them.
unfoldable pub ident_in_form : Ident → Bool
ident_in_form ident =
    leb ident.len 17
    && (identifier (take ident.len ident.bytes) && same (drop ident.len ident.bytes) (replicate (17 - ident.len) 0))

-- Identifiers are the same by value just where they are equal.
abbrev pub SameIsEqual : Type 0
SameIsEqual = (a b : Ident) → (same_ident a b ≡ true) ↔ (a ≡ b)

-- Two identifiers that are held alike are the same text, case and all.
abbrev pub HeldApart : Type 0
HeldApart = (s t : List ℕ) → identifier s ≡ true → identifier t ≡ true → ident_of s ≡ ident_of t → s ≡ t

-- An identifier is held in form, and 17 bytes in form are an identifier as it is held.
abbrev pub HeldInForm : Type 0
HeldInForm = (s : List ℕ) → identifier s ≡ true → ident_in_form (ident_of s) ≡ true

abbrev pub InFormIsHeld : Type 0
InFormIsHeld = (i : Ident) → length i.bytes ≡ 17 → ident_in_form i ≡ true → i ≡ ident_of (take i.len i.bytes)
