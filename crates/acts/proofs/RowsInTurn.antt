-- Rows stored one after the other are each as given, and nothing else moves.
-- Assumes nothing.
use mathlib.Core.Path.{◌≡◌, ap, ◌∙◌}
use mathlib.Core.List.{List}
use Prim.Native.Nat.{ℕ, ◌+◌, ◌<◌}
use native.Mathlib.Omega.{arith}
use borrow.Author.Tests.{ltb-true, ltb-false}
use lib.Dec.{ltb}
use Rattle.text.proofs.Branches.{either_way}
use Rattle.model.specs.Shipment.{most_rows}
use Rattle.model.specs.declared.Row.{Row}
use Rattle.memory.specs.Layout.{row_bytes, OnlyRow}
use Rattle.memory.specs.Rows.{row_of}
use Rattle.memory.proofs.Frames.{only_none, only_wider, only_again, row_among}
use Rattle.acts.specs.Inner.Place.{RowsStored}

module _ {given : ℕ → Row} {k : ℕ} where
  pub none_stored : {m : List ℕ} → RowsStored given k 0 m m
  none_stored = record { rows = λ r from below. absurd (omega arith); only = only_none }

  pub one_more_stored : {n : ℕ} {l m m' : List ℕ} → k + n < most_rows → RowsStored given k n l m → row_of (row_bytes m' (k + n)) ≡ given (k + n) → OnlyRow (k + n) m m'
      → RowsStored given k (n + 1) l m'
  one_more_stored {n} there rest row only = record {
    rows = λ r from below.
        either_way (ltb r (k + n))
        (λ earlier.
        let within = ltb-true r (k + n) earlier in
        ap row_of (only.other_rows r (omega arith) (λ same. omega arith)) ∙ rest.rows r from within)
        (λ later. let last : r ≡ k + n = omega (arith, ltb-false r (k + n) later) in rw last row);
    only = only_again (only_wider (λ i none. none) (λ r among. (among.0, omega (arith, among.1))) rest.only)
        (row_among k (n + 1) (omega arith) (omega arith) only);
  }
