-- Worked examples of the definitions, each computed.
-- Assumes nothing.
use mathlib.Core.Path.{◌≡◌, refl}
use mathlib.Core.Bool.{true, false}
use mathlib.Core.List.{List, [], ◌∷◌, map}
use Prim.Native.Nat.{ℕ}
use Prim.Native.String.{String}
use Rattle.text.specs.Bytes.{digit}
use Rattle.text.specs.Quoted.{bytes}
use Rattle.text.specs.Number.{number_after, number}
use Rattle.money.specs.Money.{fee, is_order_amount, is_order_fee, is_sum, is_total, sum_of, as_transfer}
use Rattle.money.specs.Text.{together, text_of, order_text, sum_text}
use Rattle.std.specs.Prelude.{Option, Some, None}
use Rattle.money.specs.declared.Amount.{Amount}
use Rattle.money.specs.declared.Money.TheVariants.{O}
use Rattle.money.specs.declared.Sum.TheVariants.{Fees}

abbrev order_texts : List String → List (Option Amount)
order_texts = map (λ s. order_text (bytes s))

abbrev sum_texts : List String → List (Option Amount)
sum_texts = map (λ s. sum_text (bytes s))

abbrev amount : ℕ → Option Amount
amount grosze = Some (record { 0 = grosze })

order_texts_lem : order_texts ("0.00" ∷ "0.01" ∷ "0.50" ∷ "7.50" ∷ "10.00" ∷ "9999999.99" ∷ [])
    ≡ amount 0 ∷ amount 1 ∷ amount 50 ∷ amount 750 ∷ amount 1_000 ∷ amount 999_999_999 ∷ []
unfolding text_of together number number_after digit
order_texts_lem = refl

-- A leading zero, of zero too.
leading_zeros : order_texts ("00.50" ∷ "007.50" ∷ "01.00" ∷ "00.00" ∷ "0000001.50" ∷ []) ≡ None ∷ None ∷ None ∷ None ∷ None ∷ []
unfolding text_of together number number_after digit
leading_zeros = refl

-- No digit before the point, or eight of them; one behind it, or three.
other_lengths : order_texts (".50" ∷ "12345678.00" ∷ "1.5" ∷ "1.234" ∷ []) ≡ None ∷ None ∷ None ∷ None ∷ []
unfolding text_of together number number_after digit
other_lengths = refl

other_bytes : order_texts ("1,50" ∷ "-1.00" ∷ "1.0 " ∷ "1 0.00" ∷ []) ≡ None ∷ None ∷ None ∷ None ∷ []
unfolding text_of together number number_after digit
other_bytes = refl

too_little : order_texts ("" ∷ "." ∷ "150" ∷ ".5" ∷ []) ≡ None ∷ None ∷ None ∷ None ∷ []
unfolding text_of together number number_after digit
too_little = refl

sum_texts_lem : sum_texts ("0.00" ∷ "175.50" ∷ "99999999999.99" ∷ "00175.50" ∷ "00.00" ∷ "100000000000.00" ∷ [])
    ≡ amount 0 ∷ amount 17_550 ∷ amount 9_999_999_999_999 ∷ None ∷ None ∷ None ∷ []
unfolding text_of together number number_after digit
sum_texts_lem = refl

in_range : map is_order_amount (0 ∷ 1 ∷ 999_999_999 ∷ 1_000_000_000 ∷ []) ≡ false ∷ true ∷ true ∷ false ∷ []
in_range = refl

fees_in_range : map is_order_fee (0 ∷ 1 ∷ 999_999_999 ∷ 1_000_000_000 ∷ []) ≡ true ∷ true ∷ true ∷ false ∷ []
fees_in_range = refl

sums_in_range : map is_sum (0 ∷ 1 ∷ 9_999_999_999_999 ∷ 10_000_000_000_000 ∷ []) ≡ true ∷ true ∷ true ∷ false ∷ []
sums_in_range = refl

transfers : map (as_transfer O) (0 ∷ 1 ∷ 9_999_999_999_999 ∷ 10_000_000_000_000 ∷ [])
    ≡ None ∷ Some (Fees (fee 1)) ∷ Some (Fees (fee 9_999_999_999_999)) ∷ None ∷ []
unfolding as_transfer sum_of
transfers = refl

totals_in_range : map is_total (999_999_999_999_999 ∷ 1_000_000_000_000_000 ∷ []) ≡ true ∷ false ∷ []
totals_in_range = refl
