-- Worked spellings, each computed.
-- Assumes nothing.
use mathlib.Core.Path.{◌≡◌, refl}
use mathlib.Core.List.{[], ◌∷◌, map}
use Rattle.text.specs.Quoted.{bytes}
use Rattle.text.specs.Utf8Parts.{parts_joined}
use Rattle.write.specs.Files.{file}
use Rattle.write.specs.Money.{money_text}
use Rattle.write.specs.Spelled.{digits, places_within, spelled}

numbers : map spelled (0 ∷ 7 ∷ 10 ∷ 2_048 ∷ []) ≡ bytes "0" ∷ bytes "7" ∷ bytes "10" ∷ bytes "2048" ∷ []
unfolding digits places_within
numbers = refl

money : map money_text (0 ∷ 5 ∷ 50 ∷ 750 ∷ 17_550 ∷ 99_999 ∷ [])
    ≡ bytes "0.00" ∷ bytes "0.05" ∷ bytes "0.50" ∷ bytes "7.50" ∷ bytes "175.50" ∷ bytes "999.99" ∷ []
unfolding money_text digits places_within
money = refl

-- A line of one empty field is empty, and no CR LF stands after the last line.
lines_of_fields : file ((bytes "1" ∷ [] ∷ bytes "x" ∷ []) ∷ ([] ∷ []) ∷ (bytes "2" ∷ []) ∷ []) ≡ 0xEF ∷ 0xBB ∷ 0xBF ∷ bytes "1||x\r\n\r\n2"
unfolding parts_joined
lines_of_fields = refl
