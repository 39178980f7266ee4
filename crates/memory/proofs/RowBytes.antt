-- The bytes of a row, gathered from the columns.
-- Assumes nothing.
use mathlib.Core.Path.{◌≡◌, refl, ap, ◌∙◌}
use mathlib.Core.List.{List, [], ◌∷◌, ◌++◌}
use Prim.Native.Nat.{ℕ, zero, suc, ◌+◌, ◌≤◌, ◌<◌}
use native.Mathlib.Omega.{arith}
use lib.ListN.{length, get_or, take, drop}
use lib.Seq.{drop-cons}
use Rattle.model.specs.Shipment.{most_rows}
use Rattle.memory.specs.Layout.{amount_at, fee_at, remainder_at, code_at, size, row_bytes}

-- some bytes of memory, one by one
module _ (m : List ℕ) (at : ℕ) where
  abbrev bytes_on : ℕ → ℕ → List ℕ
  bytes_on q zero = []
  bytes_on q (suc n) = get_or m (at + q) 0 ∷ bytes_on (suc q) n

  abbrev pub bytes_from : ℕ → List ℕ
  bytes_from n = get_or m at 0 ∷ bytes_on 1 n

  bytes_on_lem : (q n : ℕ) → at + q + n ≤ length m → bytes_on q n ≡ take n (drop (at + q) m)
  bytes_on_lem q zero within = refl
  bytes_on_lem q (suc n) within =
      let next : at + suc q ≡ suc (at + q) = omega arith in
      rw (drop-cons m (at + q) 0 (omega arith))
      (ap (λ (l : List ℕ). get_or m (at + q) 0 ∷ l) (bytes_on_lem (suc q) n (omega arith) ∙ ap (λ (p : ℕ). take n (drop p m)) next))

  bytes_from_lem : (n : ℕ) → at + suc n ≤ length m → bytes_from n ≡ take (suc n) (drop at m)
  bytes_from_lem n within = let here : at + 0 ≡ at = omega arith in rw here at (bytes_on_lem 0 (suc n) (omega arith))

-- column after column
pub gathered : (m : List ℕ) (k : ℕ) → k < most_rows → size ≤ length m
    → bytes_from m (amount_at k) 3 ++ (bytes_from m (code_at k) 0 ++ (bytes_from m (fee_at k) 3 ++ bytes_from m (remainder_at k) 1)) ≡ row_bytes m k
unfolding row_bytes
gathered m k few enough =
    let amount = bytes_from_lem m (amount_at k) 3 (omega arith) in
    let code = bytes_from_lem m (code_at k) 0 (omega arith) in
    let fee = bytes_from_lem m (fee_at k) 3 (omega arith) in
    let remainder = bytes_from_lem m (remainder_at k) 1 (omega arith) in
    λ i. amount i ++ (code i ++ (fee i ++ remainder i))
