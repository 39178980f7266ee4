-- The rows that shipments have taken, counted head after head.
-- Assumes nothing.
use mathlib.Core.Path.{◌≡◌, ap, ◌∙◌}
use mathlib.Core.List.{List}
use Prim.Native.Nat.{ℕ, suc, ◌+◌, ◌-◌, ◌≤◌, ◌<◌}
use native.Mathlib.Numerals.{add-one}
use native.Mathlib.Omega.{arith}
use Rattle.model.specs.Book.{rows_in}
use Rattle.memory.specs.Layout.{head_bytes}
use Rattle.memory.specs.Heads.{order_count_in}
use Rattle.memory.specs.Read.{shipments_from}
use Rattle.sound.proofs.ReadLaws.{rows_next}

module _ (m : List ℕ) (i k n : ℕ) where
  pub rows_on : {head : List ℕ} {count : ℕ} → head ≡ head_bytes m i → count ≡ order_count_in head → i < n
      → k + count + rows_in (shipments_from m (i + 1) (k + count) (n - (i + 1))) ≡ k + rows_in (shipments_from m i k (n - i))
  rows_on is_head is_count more =
      let left : n - i ≡ suc (n - suc i) = omega arith in
      let orders = is_count ∙ ap order_count_in is_head in
      rw (left, add-one, orders) (omega (arith, rows_next m i k (n - suc i)))

  pub rows_end : n ≤ i → rows_in (shipments_from m i k (n - i)) ≡ 0
  unfolding shipments_from
  rows_end done = let none : n - i ≡ 0 = omega arith in rw none
