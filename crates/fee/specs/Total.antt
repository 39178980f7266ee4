-- "What amount makes this total? The counter staff know what a payer wants to spend in all." (document 02, A6)
use Rattle.std.specs.Prelude.{◌≡◌, Bool, true, false, cond, ◌&&◌, ℕ, ◌+◌, ◌*◌, ◌-◌, ◌/◌, eqb, Option, Some, None, Result, Ok, Err}
use Rattle.money.specs.Money.{amount, fee, is_order_amount, is_order_fee}
use Rattle.fee.specs.Fee.{rate, rate_cap, is_rate, fee_of}
use Rattle.fee.specs.declared.Terms.{Terms}
use Rattle.money.specs.declared.Amount.{Amount}
use Rattle.fee.specs.declared.refusal.Refusal.{Refusal}
use Rattle.fee.specs.declared.refusal.Refusal.TheVariants.{FlatPart, Rate}

-- ".. the order amount whose amount plus fee is that total ..": K and O meet here alone, in grosze of neither money.
abbrev pub total_of : Terms → ℕ → ℕ
total_of terms grosze = grosze + fee_of terms grosze

-- An amount from 1 to 999,999,999 makes a total. "A fee above the cap makes an amount unusable."
unfoldable pub makes : Terms → ℕ → ℕ → Bool
makes terms total grosze = is_order_amount grosze && (is_order_fee (fee_of terms grosze) && eqb (total_of terms grosze) total)

-- The one amount that could: what the flat part leaves of the total, times 10,000, over 10,000 and the rate, rounded up.
abbrev pub candidate : Terms → ℕ → ℕ
candidate terms total = (rate_cap * (total - terms.flat.0) + (rate_cap + terms.rate.0 - 1)) / (rate_cap + terms.rate.0)

-- ".. or say none."
unfoldable pub found_for : Terms → ℕ → Option Amount
found_for terms total = cond (makes terms total (candidate terms total)) (Some (amount (candidate terms total))) None

-- "Given flat part, rate and total ..": two plain numbers as terms.
abbrev pub terms_of : ℕ → ℕ → Terms
terms_of flat of_amount = record { flat = fee flat; rate = rate of_amount }

-- "907 comes first here, then 905 for the flat part."
unfoldable pub amount_for : ℕ → ℕ → ℕ → Result (Option Amount) Refusal
amount_for flat of_amount total = cond (is_rate of_amount) (cond (is_order_fee flat) (Ok (found_for (terms_of flat of_amount) total)) (Err FlatPart)) (Err Rate)

-- What is found makes the total. "None is said only if no amount from 1 to 999,999,999 does it, and no second amount does when one is found."
pub record AnswersTotal (flat of_amount total : ℕ) : Type 0 where
  pub found : (grosze : ℕ) → amount_for flat of_amount total ≡ Ok (Some (amount grosze)) → makes (terms_of flat of_amount) total grosze ≡ true
  pub none : amount_for flat of_amount total ≡ Ok None → (grosze : ℕ) → makes (terms_of flat of_amount) total grosze ≡ false
  pub alone : (one another : ℕ) → makes (terms_of flat of_amount) total one ≡ true → makes (terms_of flat of_amount) total another ≡ true → one ≡ another
