-- A journal of two calls, computed: a transfer to shipment ZS1, and its pairing. A byte more or less, and it is none. And the rates of an intake.
-- Assumes nothing.
use mathlib.Core.Path.{◌≡◌, refl}
use mathlib.Core.Bool.{true, false}
use mathlib.Core.List.{List, [], ◌∷◌, ◌++◌, map}
use Prim.Native.Nat.{ℕ, zero, suc, ◌+◌}
use lib.ListN.{length, take, replicate}
use Rattle.text.specs.Bytes.{letter, digit, letter_or_digit}
use Rattle.text.specs.Quoted.{bytes}
use Rattle.fee.specs.Fee.{rate}
use Rattle.epe.specs.Ident.{identifier, ident_of}
use Rattle.model.specs.Calls.{Pair, Transfer, On}
use Rattle.memory.specs.Number.{number_at}
use Rattle.audit.specs.Journal.{entry_number, text_length, text_start, rates_in, act_in, call_in, entry_length, is_call, numbers_taken, texts_taken, has_no_more, call_known, entry_fits, entries_fit, calls_from, journal_fits, calls_in}

journal : List ℕ
journal =
    (2 ∷ replicate 7 0)
    ++ (1 ∷ 1 ∷ 1 ∷ 0x8D ∷ 0x44 ∷ replicate 6 0) ++ (20 ∷ replicate 7 0) ++ bytes "EPEZZS1-201007-A-0-K"
    ++ (3 ∷ 0 ∷ 1 ∷ 3 ∷ replicate 7 0) ++ bytes "ZS1"

calls_are_read : calls_in journal ≡ Transfer (bytes "EPEZZS1-201007-A-0-K") 17_549 ∷ On (ident_of (bytes "ZS1")) Pair ∷ []
unfolding journal calls_in calls_from call_in act_in entry_number text_length text_start entry_length number_at ident_of identifier letter digit letter_or_digit
calls_are_read = refl

fits : journal_fits journal ≡ true
unfolding journal journal_fits entries_fit entry_fits call_known is_call has_no_more numbers_taken texts_taken entry_length text_start text_length number_at
fits = refl

one_byte_more : journal_fits (journal ++ (0 ∷ [])) ≡ false
unfolding journal journal_fits entries_fit entry_fits call_known is_call has_no_more numbers_taken texts_taken entry_length text_start text_length number_at
one_byte_more = refl

one_byte_less : journal_fits (take 60 journal) ≡ false
unfolding journal journal_fits entries_fit entry_fits call_known is_call has_no_more numbers_taken texts_taken entry_length text_start text_length number_at
one_byte_less = refl

-- a pairing takes no number
more_than_is_taken : journal_fits ((1 ∷ replicate 7 0) ++ (3 ∷ 1 ∷ 1 ∷ replicate 8 0) ++ (3 ∷ replicate 7 0) ++ bytes "ZS1") ≡ false
unfolding journal_fits entries_fit entry_fits call_known is_call has_no_more numbers_taken texts_taken entry_length text_start text_length number_at
more_than_is_taken = refl

whole : length journal ≡ 61
unfolding journal
whole = refl

-- an intake without texts, of the numbers 1, 2, 3 up to n
counted_from : ℕ → ℕ → List ℕ
counted_from first zero = []
counted_from first (suc n) = (first ∷ replicate 7 0) ++ counted_from (first + 1) n

intake : ℕ → List ℕ
intake n = (0 ∷ n ∷ 0 ∷ []) ++ counted_from 1 n

-- of seven, as journals had it before there were rates: all are 0; of twelve, and there is no thirteenth
no_rates : rates_in (intake 7) ≡ map rate (0 ∷ 0 ∷ 0 ∷ 0 ∷ 0 ∷ [])
unfolding intake counted_from entry_number number_at
no_rates = refl

all_rates : rates_in (intake 12) ≡ map rate (8 ∷ 9 ∷ 10 ∷ 11 ∷ 12 ∷ [])
unfolding intake counted_from entry_number number_at
all_rates = refl

at_most_twelve : map (λ (n : ℕ). entry_fits (intake n)) (7 ∷ 12 ∷ 13 ∷ []) ≡ true ∷ true ∷ false ∷ []
unfolding intake counted_from entry_fits call_known is_call has_no_more numbers_taken texts_taken entry_length text_start text_length
at_most_twelve = refl
