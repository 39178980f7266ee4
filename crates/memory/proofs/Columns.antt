-- The rows of a shipment one after the other: what is taken of them, with what is still to take, is the whole.
-- Assumes nothing.
use mathlib.Core.Path.{◌≡◌, refl, ap}
use mathlib.Core.List.{List, [], ◌∷◌}
use Prim.Native.Nat.{ℕ, zero, suc, ◌+◌, ◌*◌, ◌-◌, ◌^◌, ◌≤◌, ◌<◌}
use native.Mathlib.Numerals.{add-one}
use native.Mathlib.Omega.{arith}
use lib.ListN.{length, get_or}
use Rattle.money.specs.Money.{WithinSum}
use Rattle.money.specs.declared.Money.{Money}
use Rattle.model.specs.Shipment.{most_rows, sum_over, worth}
use Rattle.model.specs.declared.Row.{Row}
use Rattle.memory.specs.Layout.{row_bytes}
use Rattle.memory.specs.Rows.{row_of}
use Rattle.memory.specs.Read.{rows_from}

-- the first of the rows that are left, and none
pub rows_on : (m : List ℕ) (i left : ℕ) → 0 < left → rows_from m i left ≡ row_of (row_bytes m i) ∷ rows_from m (i + 1) (left - 1)
unfolding rows_from
rows_on m i zero more = absurd (omega arith)
rows_on m i (suc n) more = let less : suc n - 1 ≡ n = omega arith in rw (less, add-one)

pub rows_done : (m : List ℕ) (i left : ℕ) → left ≤ 0 → rows_from m i left ≡ []
unfolding rows_from
rows_done m i zero done = refl
rows_done m i (suc n) done = absurd (omega arith)

pub rows_many : (m : List ℕ) (i n : ℕ) → length (rows_from m i n) ≡ n
unfolding rows_from
rows_many m i zero = refl
rows_many m i (suc n) = ap suc (rows_many m (suc i) n)

pub row_among : (m : List ℕ) (k n i : ℕ) → i < length (rows_from m k n) → (none : Row) → row_of (row_bytes m (k + i)) ≡ get_or (rows_from m k n) i none
unfolding rows_from
row_among m k zero i there none = absurd (omega arith)
row_among m k (suc n) zero there none = let here : k + 0 ≡ k = omega arith in rw here
row_among m k (suc n) (suc i) there none = let next : k + suc i ≡ suc k + i = omega arith in rw next (row_among m (suc k) n i (omega arith) none)

pub row_room : (m : List ℕ) (k n i : ℕ) → k + n ≤ most_rows → i < length (rows_from m k n) → k + i < most_rows
row_room m k n i room there = omega (arith, rows_many m k n)

-- Rows are left of some: what they are worth in a money is still to add.
pub record Adding (money : Money) (rows left : List Row) (total : ℕ) : Type 0 where
  pub sums : total + sum_over (worth money) left ≡ sum_over (worth money) rows
  pub low : total + length left * 2 ^ 32 ≤ length rows * 2 ^ 32

module _ {money : Money} {rows : List Row} where
  pub adding_begun : Adding money rows rows 0
  adding_begun = record { sums = omega arith; low = omega arith }

  pub adding_on : {row : Row} {left : List Row} {total next : ℕ} → Adding money rows (row ∷ left) total → worth money row < 2 ^ 32
      → next ≡ total + worth money row → Adding money rows left next
  adding_on going low next_is = record { sums = omega (arith, going.sums); low = omega (arith, going.low) }

  module _ {total : ℕ} (all : Adding money rows [] total) where
    pub adding_done : total ≡ sum_over (worth money) rows
    adding_done = omega (arith, all.sums)

  -- so many numbers of four bytes each are a sum
  module _ {left : List Row} {total : ℕ} (going : Adding money rows left total) where
    pub adding_within : length rows ≤ most_rows → WithinSum total
    adding_within few = omega (arith, going.low)
