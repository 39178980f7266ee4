-- Worked examples of an extra field that is judged early, each computed, beside the fault of the whole line.
-- Assumes nothing.
use mathlib.Core.Path.{◌≡◌, refl}
use mathlib.Core.Bool.{Bool, true, false}
use mathlib.Core.List.{List, [], ◌∷◌, ◌++◌, map}
use Prim.Native.Nat.{ℕ, ◌-◌}
use Prim.Native.String.{String}
use lib.ListN.{set, take, replicate}
use Rattle.text.specs.Bytes.{digit}
use Rattle.text.specs.Quoted.{bytes}
use Rattle.text.specs.Number.{number, number_after}
use Rattle.text.specs.Fields.{fields, onto}
use Rattle.text.specs.Lines.{stray}
use Rattle.text.specs.Utf8.{ascii, tail_octet, lead2, lead3, lead4, point2, point3, point4, surrogate, range2, range3, range4, row2, row3, row4}
use Rattle.text.specs.Utf8.{width, well_formed_after}
use Rattle.epe.specs.Questions.{asked}
use Rattle.contents.specs.Faults.{sized, postcode, extra, spaced, said_of, placed, housed, unspaced, fault_questions, fault_of}
use Rattle.contents.specs.Around.{Around, Found, Refused, are_ended, are_begun, clean, around, fault_around}
use Rattle.contents.specs.declared.extra.ExtraSaid.{ExtraSaid}

-- names the definitions that the examples compute
judges : ExtraSaid → List ℕ → List ℕ → Around
unfolding ascii tail_octet lead2 lead3 lead4 point2 point3 point4 surrogate range2 range3 range4 row2 row3 row4 width well_formed_after fields onto stray number number_after digit asked sized postcode extra spaced said_of placed housed unspaced fault_questions fault_of are_ended are_begun clean around fault_around
judges = fault_around

-- The fields of an order without a fault before and after its extra field, each ended and each begun by a bar.
abbrev front : List (List ℕ)
front = map bytes ("2" ∷ "000001" ∷ "100.00" ∷ "Kowalski" ∷ "Jan" ∷ "Krakow" ∷ "30-001" ∷ "Krakow" ∷ "Dluga" ∷ "5" ∷ "" ∷ [])

abbrev back : List (List ℕ)
back = map bytes ("" ∷ "E-17" ∷ "10.2020" ∷ "" ∷ "" ∷ "" ∷ "" ∷ [])

abbrev ended : List (List ℕ) → List ℕ
ended [] = []
ended (f ∷ fs) = f ++ (0x7C ∷ ended fs)

abbrev begun : List (List ℕ) → List ℕ
begun [] = []
begun (f ∷ fs) = 0x7C ∷ (f ++ begun fs)

quoted : ended front ++ begun back ≡ bytes "2|000001|100.00|Kowalski|Jan|Krakow|30-001|Krakow|Dluga|5||||E-17|10.2020||||"
quoted = refl

-- An order judged in two calls, and at once.
abbrev early : List (List ℕ) → String → List (List ℕ) → Around
early before more after = fault_around (said_of (bytes more)) (ended before) (begun after)

abbrev at_once : List (List ℕ) → String → List (List ℕ) → ℕ
at_once before more after = fault_of (ended before ++ (bytes more ++ begun after))

-- Texts with another text n.
abbrev changed : ℕ → String → List (List ℕ) → List (List ℕ)
changed n text fs = set fs (n - 1) (bytes text)

-- An order without town, street and house number.
abbrev nowhere : List (List ℕ)
nowhere = changed 8 "" (changed 9 "" (changed 10 "" front))

-- Each fault by itself, and none. Field 14 is the second behind the extra field.
abbrev each : {A : Type 0} → (List (List ℕ) → String → List (List ℕ) → A) → List A
each judge =
    judge (changed 4 "" front) "" back
    ∷ judge (changed 5 "" front) "" back
    ∷ judge (changed 6 "" front) "" back
    ∷ judge (changed 7 "30001" front) "" back
    ∷ judge nowhere "" back
    ∷ judge (changed 10 "" front) "" back
    ∷ judge front "XX" back
    ∷ judge front "" (changed 2 "" back)
    ∷ judge front "" (changed 3 "" back)
    ∷ judge front "" (changed 7 "x " back)
    ∷ judge front "" back
    ∷ []

faults : List ℕ
faults = 1 ∷ 2 ∷ 3 ∷ 4 ∷ 5 ∷ 6 ∷ 7 ∷ 8 ∷ 9 ∷ 10 ∷ 0 ∷ []

each_early : each early ≡ map Found faults
unfolding judges faults
each_early = refl

each_at_once : each at_once ≡ faults
unfolding judges faults
each_at_once = refl

-- What is said of some extra fields, and the fault of an order that has nothing else to go by.
abbrev extras : List String
extras = "PR" ∷ "SP_12345" ∷ "SP_123456" ∷ "" ∷ " " ∷ " PR" ∷ []

abbrev said : Bool → Bool → Bool → ExtraSaid
said none failing wide = record { empty = none; fails = failing; spaced = wide }

extras_said : map (λ text. said_of (bytes text)) extras
    ≡ said false false false
    ∷ said false false false
    ∷ said false true false
    ∷ said true false false
    ∷ said false true true
    ∷ said false true true
    ∷ []
unfolding judges
extras_said = refl

extras_early : map (λ text. early nowhere text back) extras ≡ map Found (0 ∷ 0 ∷ 7 ∷ 5 ∷ 7 ∷ 7 ∷ [])
unfolding judges
extras_early = refl

extras_at_once : map (λ text. at_once nowhere text back) extras ≡ 0 ∷ 0 ∷ 7 ∷ 5 ∷ 7 ∷ 7 ∷ []
unfolding judges
extras_at_once = refl

-- 901 before: ten bars, twelve, eleven with a byte behind the last, a CR, an LF.
abbrev before : List ℕ → Around
before text = fault_around (said false false false) text (begun back)

refused_before : map before (ended (take 10 front) ∷ ended (front ++ ([] ∷ [])) ∷ (ended front ++ bytes "x") ∷ ended (set front 3 (0x0D ∷ [])) ∷ ended (set front 0 (0x0A ∷ [])) ∷ [])
    ≡ replicate 5 (Refused 901)
unfolding judges
refused_before = refl

-- 901 after: six bars, twenty-one, a byte before the first, an LF, an octet that starts what does not follow; and not for 7 or 20 bars.
abbrev after : List ℕ → Around
after text = fault_around (said false false false) (ended front) text

refused_after : map after (begun (take 6 back) ∷ begun (back ++ replicate 14 []) ∷ (bytes "x" ++ begun back) ∷ begun (set back 6 (0x0A ∷ [])) ∷ begun (set back 1 (0xC5 ∷ [])) ∷ [])
    ≡ replicate 5 (Refused 901)
unfolding judges
refused_after = refl

fewest_and_most : map after (begun back ∷ begun (back ++ replicate 13 []) ∷ []) ≡ Found 0 ∷ Found 0 ∷ []
unfolding judges
fewest_and_most = refl

-- What cannot be said of any field is taken at its word: empty and failing, empty and spaced.
impossible : fault_around (said true true false) (ended front) (begun back)
    ∷ fault_around (said true true false) (ended nowhere) (begun back)
    ∷ fault_around (said true false true) (ended front) (begun back)
    ∷ []
    ≡ map Found (7 ∷ 5 ∷ 10 ∷ [])
unfolding judges
impossible = refl
