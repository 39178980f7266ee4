-- Worked examples of the definitions, each computed.
-- Assumes nothing.
use mathlib.Core.Path.{◌≡◌, refl}
use mathlib.Core.Bool.{true, false}
use mathlib.Core.List.{[], ◌∷◌, map}
use Prim.Native.Nat.{ℕ, ◌+◌, ◌*◌, ◌-◌}
use Rattle.std.specs.Prelude.{Some, None, Ok, Err}
use Rattle.money.specs.Money.{amount, fee}
use Rattle.fee.specs.Fee.{rate, is_rate, charge_of, charged_by, divides}
use Rattle.fee.specs.Total.{makes, found_for, amount_for}
use Rattle.fee.specs.declared.Charge.{Charge}
use Rattle.fee.specs.declared.Terms.{Terms}
use Rattle.fee.specs.declared.refusal.Refusal.TheVariants.{FlatPart, Rate}

abbrev terms : ℕ → ℕ → Terms
terms flat percent = record { flat = fee flat; rate = rate percent }

abbrev charge : ℕ → ℕ → Charge
charge grosze remainder = record { fee = fee grosze; remainder = remainder }

-- ZS1's terms: a flat part of 3.50, and no rate.
flat_alone : map (charge_of (terms 350 0)) (10_000 ∷ 5_000 ∷ 2_550 ∷ []) ≡ charge 350 0 ∷ charge 350 0 ∷ charge 350 0 ∷ []
flat_alone = refl

-- With 1.25 per cent: 125.00, 62.50 and 31.875 grosze above it.
rated : map (charge_of (terms 350 125)) (10_000 ∷ 5_000 ∷ 2_550 ∷ []) ≡ charge 475 0 ∷ charge 412 5_000 ∷ charge 381 8_750 ∷ []
rated = refl

-- Less than a grosz, and the whole amount.
least_and_most : map (charge_of (terms 0 1)) (1 ∷ 9_999 ∷ 10_000 ∷ []) ≡ charge 0 1 ∷ charge 0 9_999 ∷ charge 1 0 ∷ []
least_and_most = refl

whole : charge_of (terms 0 10_000) 999_999_999 ≡ charge 999_999_999 0
whole = refl

-- The rate's cap, and the fee's.
rate_cap_lem : map is_rate (0 ∷ 10_000 ∷ 10_001 ∷ []) ≡ true ∷ true ∷ false ∷ []
rate_cap_lem = refl

fee_cap : map (charged_by (terms 1 10_000)) (999_999_998 ∷ 999_999_999 ∷ []) ≡ Some (charge 999_999_999 0) ∷ None ∷ []
unfolding charged_by
fee_cap = refl

-- The division: of a right fee and remainder; of a fee one too high or too low, with a remainder that would make up for it; of a fee below the flat part.
division : divides (terms 350 125) 2_550 381 8_750 ≡ true
unfolding divides
division = refl

no_divisions : map (λ (t : ℕ). divides (terms 350 125) 2_550 (380 + t) (18_750 - 10_000 * t)) (0 ∷ 2 ∷ []) ≡ false ∷ false ∷ []
unfolding divides
no_divisions = refl

below_the_flat_part : divides (terms 350 125) 2_550 349 8_750 ≡ false
unfolding divides
below_the_flat_part = refl

-- Which amount makes a total, as READINGS-02 has it: 100.00 and 3.50; with a rate of the whole amount 1 makes 2 and 2 makes 4; the largest amount with
-- the largest fee; a fee above its cap; amount 0 is none.
totals : amount_for 350 0 10_350
    ∷ amount_for 0 10_000 3
    ∷ amount_for 0 10_000 1_999_999_998
    ∷ amount_for 1 10_000 1_999_999_999
    ∷ amount_for 5 0 5
    ∷ amount_for 5 0 0
    ∷ []
    ≡ Ok (Some (amount 10_000)) ∷ Ok None ∷ Ok (Some (amount 999_999_999)) ∷ Ok None ∷ Ok None ∷ Ok None ∷ []
unfolding amount_for found_for makes
totals = refl

-- 3.50 and 1.25 per cent: the rated parts of 79, 80 and 81 grosze are 0, 1 and 1, so that nothing makes 430. 79 is 10,000 times 79 over 10,125, rounded up.
rounded : map (amount_for 350 125) (429 ∷ 430 ∷ 431 ∷ 432 ∷ []) ≡ Ok (Some (amount 79)) ∷ Ok None ∷ Ok (Some (amount 80)) ∷ Ok (Some (amount 81)) ∷ []
unfolding amount_for found_for makes
rounded = refl

-- Its edges: one grosz; a total below the flat part; far out of reach; the largest total with no rate, and one more.
edges : amount_for 0 0 1 ∷ amount_for 350 125 349 ∷ amount_for 0 0 18_446_744_073_709_551_615 ∷ amount_for 999_999_999 0 1_999_999_998
    ∷ amount_for 999_999_999 0 1_999_999_999 ∷ []
    ≡ Ok (Some (amount 1)) ∷ Ok None ∷ Ok None ∷ Ok (Some (amount 999_999_999)) ∷ Ok None ∷ []
unfolding amount_for found_for makes
edges = refl

-- "907 comes first here, then 905 for the flat part."
total_questions : amount_for 999_999_999 10_000 2_000 ∷ amount_for 1_000_000_000 10_000 2_000 ∷ amount_for 0 10_001 2_000 ∷ amount_for 1_000_000_000 10_001 2_000 ∷ []
    ≡ Ok None ∷ Err FlatPart ∷ Err Rate ∷ Err Rate ∷ []
unfolding amount_for found_for makes
total_questions = refl
