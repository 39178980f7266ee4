-- The rows that are read of the memory: one by one, and after a change.
-- Assumes nothing.
use mathlib.Core.Path.{◌≡◌, refl}
use mathlib.Core.List.{List, map}
use Prim.Native.Nat.{ℕ, zero, suc, ◌+◌, ◌≤◌, ◌<◌}
use native.Mathlib.Omega.{arith}
use lib.ListN.{get_or, set}
use Rattle.model.specs.declared.Row.{Row}
use Rattle.memory.specs.Layout.{row_bytes}
use Rattle.memory.specs.Rows.{row_of}
use Rattle.memory.specs.Read.{rows_from}

module _ (m : List ℕ) where
  pub row_at : (k n j : ℕ) (none : Row) → j < n → get_or (rows_from m k n) j none ≡ row_of (row_bytes m (k + j))
  unfolding rows_from
  row_at k zero j none within = absurd (omega arith)
  row_at k (suc n) zero none within = let here : k + 0 ≡ k = omega arith in rw here
  row_at k (suc n) (suc j) none within = let next : k + suc j ≡ suc k + j = omega arith in rw next (row_at (suc k) n j none (omega arith))

module _ (m m' : List ℕ) where
  -- every row as it was
  pub rows_alike : (k n : ℕ) → ((r : ℕ) → k ≤ r → r < k + n → row_bytes m' r ≡ row_bytes m r) → rows_from m' k n ≡ rows_from m k n
  unfolding rows_from
  rows_alike k zero alike = refl
  rows_alike k (suc n) alike =
      let rest = rows_alike (suc k) n (λ r from below. alike r (omega arith) (omega arith)) in
      rw (alike k (omega arith) (omega arith), rest)

  -- every row by a map
  pub rows_mapped : (f : Row → Row) (k n : ℕ)
      → ((r : ℕ) → k ≤ r → r < k + n → row_of (row_bytes m' r) ≡ f (row_of (row_bytes m r))) → rows_from m' k n ≡ map f (rows_from m k n)
  unfolding rows_from
  rows_mapped f k zero each = refl
  rows_mapped f k (suc n) each =
      let rest = rows_mapped f (suc k) n (λ r from below. each r (omega arith) (omega arith)) in
      rw (each k (omega arith) (omega arith), rest)

  -- every row but one as it was
  pub rows_set : (k n j : ℕ) → j < n → ((r : ℕ) → k ≤ r → r < k + n → (r ≡ k + j → ⊥) → row_bytes m' r ≡ row_bytes m r)
      → rows_from m' k n ≡ set (rows_from m k n) j (row_of (row_bytes m' (k + j)))
  unfolding rows_from
  rows_set k zero j within alike = absurd (omega arith)
  rows_set k (suc n) zero within alike =
      let here : k + 0 ≡ k = omega arith in
      let rest = rows_alike (suc k) n (λ r from below. alike r (omega arith) (omega arith) (λ same. omega arith)) in
      rw (here, rest)
  rows_set k (suc n) (suc j) within alike =
      let next : k + suc j ≡ suc k + j = omega arith in
      let rest = rows_set (suc k) n j (omega arith) (λ r from below apart. alike r (omega arith) (omega arith) (λ same. apart (omega arith))) in
      rw (alike k (omega arith) (omega arith) (λ same. omega arith), next, rest)
