-- The edges of RFC 3629's table, computed: the last octets outside a row and the first inside it.
-- Assumes nothing.
use mathlib.Core.Path.{◌≡◌, refl}
use mathlib.Core.Bool.{Bool, true, false}
use mathlib.Core.List.{List, [], ◌∷◌}
use Prim.Native.Nat.{ℕ}
use lib.ListN.{length, replicate}
use Rattle.text.specs.Utf8.{ascii, tail_octet, lead2, lead3, lead4, point2, point3, point4, surrogate, range2, range3, range4, row2, row3, row4}
use Rattle.text.specs.Utf8.{width, well_formed_after, well_formed, code_points}
use Rattle.text.specs.Utf8Encoded.{encoded, encoded_all}

-- names the definitions that the examples compute
judged : List ℕ → Bool
unfolding ascii tail_octet lead2 lead3 lead4 point2 point3 point4 surrogate range2 range3 range4 row2 row3 row4 width well_formed_after
judged s = well_formed s

-- U+007F in two octets, and U+0080
two_octets : (well_formed (0xC1 ∷ 0xBF ∷ []) ≡ false) × (well_formed (0xC2 ∷ 0x80 ∷ []) ≡ true)
unfolding judged
two_octets = (refl, refl)

-- U+07FF in three octets, and U+0800
three_octets : (well_formed (0xE0 ∷ 0x9F ∷ 0xBF ∷ []) ≡ false) × (well_formed (0xE0 ∷ 0xA0 ∷ 0x80 ∷ []) ≡ true)
unfolding judged
three_octets = (refl, refl)

-- U+FFFF in four octets, and U+10000
four_octets : (well_formed (0xF0 ∷ 0x8F ∷ 0xBF ∷ 0xBF ∷ []) ≡ false) × (well_formed (0xF0 ∷ 0x90 ∷ 0x80 ∷ 0x80 ∷ []) ≡ true)
unfolding judged
four_octets = (refl, refl)

-- U+D7FF, and the surrogate U+D800; the surrogate U+DFFF, and U+E000
surrogates : (well_formed (0xED ∷ 0x9F ∷ 0xBF ∷ []) ≡ true) × (well_formed (0xED ∷ 0xA0 ∷ 0x80 ∷ []) ≡ false)
    × (well_formed (0xED ∷ 0xBF ∷ 0xBF ∷ []) ≡ false) × (well_formed (0xEE ∷ 0x80 ∷ 0x80 ∷ []) ≡ true)
unfolding judged
surrogates = (refl, refl, refl, refl)

-- U+10FFFF, and the number after it
last : (well_formed (0xF4 ∷ 0x8F ∷ 0xBF ∷ 0xBF ∷ []) ≡ true) × (well_formed (0xF4 ∷ 0x90 ∷ 0x80 ∷ 0x80 ∷ []) ≡ false)
unfolding judged
last = (refl, refl)

-- a digit and the euro sign; the same cut off; a tail with no lead before it
cut_off : (well_formed (0x35 ∷ 0xE2 ∷ 0x82 ∷ 0xAC ∷ []) ≡ true) × (well_formed (0x35 ∷ 0xE2 ∷ 0x82 ∷ []) ≡ false)
    × (well_formed (0x82 ∷ 0x35 ∷ []) ≡ false)
unfolding judged
cut_off = (refl, refl, refl)

-- thirty-one letters U+0141, C5 81 each: 62 octets, 31 code points
abbrev letters : List ℕ
letters = encoded_all (replicate 31 0x141)

counted : (length letters ≡ 62) × (code_points letters ≡ 31) × (well_formed letters ≡ true)
unfolding judged encoded encoded_all
counted = (refl, refl, refl)
