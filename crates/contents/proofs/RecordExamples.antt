-- Worked examples of a record line's shape, order and faults, each computed.
-- Assumes nothing.
use mathlib.Core.Path.{◌≡◌, refl}
use mathlib.Core.Bool.{true, false}
use mathlib.Core.List.{List, [], ◌∷◌, ◌++◌, map}
use Prim.Native.Nat.{ℕ, ◌-◌}
use Prim.Native.String.{String}
use lib.ListN.{length, set, replicate}
use Rattle.text.specs.Bytes.{digit}
use Rattle.text.specs.Quoted.{bytes}
use Rattle.text.specs.Number.{number, number_after}
use Rattle.text.specs.Fields.{fields, onto}
use Rattle.text.specs.Lines.{stray}
use Rattle.text.specs.Utf8.{tail_octet}
use Rattle.text.specs.Utf8Encoded.{encoded, encoded_all}
use Rattle.money.specs.Money.{grosze_of}
use Rattle.money.specs.Text.{text_of, together}
use Rattle.epe.specs.Questions.{asked}
use Rattle.contents.specs.Faults.{sized, postcode, extra, spaced, said_of, placed, housed, unspaced, fault_questions, fault_of}
use Rattle.contents.specs.Contents.{shaped, order_of}

-- The fields of an order without a fault, and the line that joins fields by bars.
abbrev order : List (List ℕ)
order = map bytes
    ("2" ∷ "000001" ∷ "100.00" ∷ "Kowalski" ∷ "Jan" ∷ "Krakow" ∷ "30-001" ∷ "Krakow" ∷ "Dluga" ∷ "5"
    ∷ "" ∷ "" ∷ "" ∷ "E-17" ∷ "10.2020" ∷ "" ∷ "" ∷ "" ∷ "" ∷ [])

abbrev joined : List (List ℕ) → List ℕ
joined [] = []
joined (f ∷ []) = f
joined (f ∷ g ∷ fs) = f ++ (0x7C ∷ joined (g ∷ fs))

-- Fields with another field n, as document 01 counts them.
abbrev changed : ℕ → String → List (List ℕ) → List (List ℕ)
changed n text fs = set fs (n - 1) (bytes text)

abbrev fault_with : ℕ → String → ℕ
fault_with n text = fault_of (joined (changed n text order))

quoted : joined order ≡ bytes "2|000001|100.00|Kowalski|Jan|Krakow|30-001|Krakow|Dluga|5||||E-17|10.2020||||"
quoted = refl

-- 100.00 and no fault.
read : order_of (joined order) ≡ record { amount = record { 0 = 10_000 }; fault = 0 }
unfolding order_of grosze_of text_of together fault_of asked fault_questions sized postcode extra spaced said_of placed housed unspaced tail_octet fields onto number number_after digit
read = refl

-- Each fault by itself. The fifth is that of an order without town and street.
each : fault_with 4 "" ∷ fault_with 5 "" ∷ fault_with 6 "" ∷ fault_with 7 "30001" ∷ fault_of (joined (changed 8 "" (changed 9 "" order)))
    ∷ fault_with 10 "" ∷ fault_with 12 "XX" ∷ fault_with 14 "" ∷ fault_with 15 "" ∷ fault_with 19 "x " ∷ []
    ≡ 1 ∷ 2 ∷ 3 ∷ 4 ∷ 5 ∷ 6 ∷ 7 ∷ 8 ∷ 9 ∷ 10 ∷ []
unfolding fault_of asked fault_questions sized postcode extra spaced said_of placed housed unspaced tail_octet fields onto number number_after digit
each = refl

-- "Counting Ł as two" is a mistake to keep away from: k of U+0141 are 2 * k bytes and k long.
abbrev of_length : ℕ → List ℕ
of_length k = encoded_all (replicate k 0x141)

in_bytes : length (of_length 31) ≡ 62
unfolding encoded_all encoded
in_bytes = refl

abbrev fault_long : ℕ → ℕ → ℕ
fault_long n k = fault_of (joined (set order (n - 1) (of_length k)))

longest : fault_long 4 31 ∷ fault_long 5 22 ∷ fault_long 6 35 ∷ fault_long 8 35 ∷ fault_long 9 35 ∷ fault_long 10 11 ∷ fault_long 14 20 ∷ fault_long 15 35 ∷ []
    ≡ replicate 8 0
unfolding encoded_all encoded fault_of asked fault_questions sized postcode extra spaced said_of placed housed unspaced tail_octet fields onto number number_after digit
longest = refl

too_long : fault_long 4 32 ∷ fault_long 5 23 ∷ fault_long 6 36 ∷ fault_long 8 36 ∷ fault_long 9 36 ∷ fault_long 10 12 ∷ fault_long 14 21 ∷ fault_long 15 36 ∷ []
    ≡ 1 ∷ 2 ∷ 3 ∷ 5 ∷ 5 ∷ 6 ∷ 8 ∷ 9 ∷ []
unfolding encoded_all encoded fault_of asked fault_questions sized postcode extra spaced said_of placed housed unspaced tail_octet fields onto number number_after digit
too_long = refl

-- A field of one space is not empty, and the space is the last thing asked for.
one_space : map (λ n. fault_with n " ") (4 ∷ 5 ∷ 7 ∷ 8 ∷ 10 ∷ 12 ∷ 19 ∷ []) ≡ 10 ∷ 10 ∷ 4 ∷ 10 ∷ 10 ∷ 7 ∷ 10 ∷ []
unfolding fault_of asked fault_questions sized postcode extra spaced said_of placed housed unspaced tail_octet fields onto number number_after digit
one_space = refl

inner_spaces : map (fault_with 4) ("Nowak Kowalska" ∷ " Nowak" ∷ "Nowak " ∷ []) ≡ 0 ∷ 10 ∷ 10 ∷ []
unfolding fault_of asked fault_questions sized postcode extra spaced said_of placed housed unspaced tail_octet fields onto number number_after digit
inner_spaces = refl

extras : map (fault_with 12) ("PR" ∷ "SP_00000" ∷ "PP_1" ∷ "sp_1" ∷ "SP_" ∷ "SP_123456" ∷ "PRO" ∷ []) ≡ 0 ∷ 0 ∷ 0 ∷ 7 ∷ 7 ∷ 7 ∷ 7 ∷ []
unfolding fault_of asked fault_questions sized postcode extra spaced said_of placed housed unspaced tail_octet fields onto number number_after digit
extras = refl

-- An extra, valid or not, excuses an empty town, street and house number.
nowhere : List (List ℕ)
nowhere = changed 8 "" (changed 9 "" (changed 10 "" order))

excused : map (λ text. fault_of (joined (changed 12 text nowhere))) ("" ∷ "XX" ∷ "PR" ∷ []) ≡ 5 ∷ 7 ∷ 0 ∷ []
unfolding nowhere fault_of asked fault_questions sized postcode extra spaced said_of placed housed unspaced tail_octet fields onto number number_after digit
excused = refl

-- "Nothing else in a record is judged."
field_20 : fault_of (joined order ++ bytes "| x ") ≡ 0
unfolding fault_of asked fault_questions sized postcode extra spaced said_of placed housed unspaced tail_octet fields onto number number_after digit
field_20 = refl

-- The number of a record compares by value.
numbers : map (λ text. shaped 19 1 (joined (changed 2 text order))) ("1" ∷ "000001" ∷ "0000001" ∷ "2" ∷ "" ∷ [])
    ≡ true ∷ true ∷ false ∷ false ∷ false ∷ []
unfolding shaped fields onto stray number number_after digit
numbers = refl

-- A field too few, one more as asked for, another mark, a stray LF.
shapes : shaped 20 1 (joined order)
    ∷ shaped 20 1 (joined order ++ bytes "| x ")
    ∷ shaped 19 1 (joined (changed 1 "1" order))
    ∷ shaped 19 1 (joined order ++ (0x0A ∷ []))
    ∷ []
    ≡ false ∷ true ∷ false ∷ false ∷ []
unfolding shaped fields onto stray number number_after digit
shapes = refl
