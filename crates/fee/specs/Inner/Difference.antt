-- The division as code asks for it: its two sides as sums, and in which bits they differ. Only contracts below soundness need it.
use Rattle.std.specs.Prelude.{◌≡◌, ◌&&◌, ℕ, ◌+◌, ◌*◌, ltb, eqb}
use Rattle.std.specs.Int.Bits.{bit_xor}
use Rattle.fee.specs.Fee.{rate_cap, divides}
use Rattle.fee.specs.declared.Terms.{Terms}

unfoldable pub difference_in : Terms → ℕ → ℕ → ℕ → ℕ
difference_in terms amount fee remainder = bit_xor (rate_cap * fee + remainder) (amount * terms.rate.0 + rate_cap * terms.flat.0)

-- They differ in none where the division holds, and the remainder is below 10,000.
abbrev pub DifferenceTells : Type 0
DifferenceTells = (terms : Terms) (amount fee remainder : ℕ)
    → divides terms amount fee remainder ≡ (ltb remainder rate_cap && eqb (difference_in terms amount fee remainder) 0)
