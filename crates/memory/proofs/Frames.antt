-- What a change of some heads and some rows leaves as it was: nothing done, one change after another, and a wider frame.
-- Assumes nothing.
use mathlib.Core.Path.{◌≡◌, refl, ◌∙◌}
use mathlib.Core.List.{List}
use mathlib.Core.Logic.{◌⊎◌, inl, inr, ⊎_elim}
use Prim.Native.Nat.{ℕ, ◌+◌, ◌≤◌, ◌<◌}
use native.Mathlib.Omega.{arith}
use Rattle.model.specs.Shipment.{most_shipments, most_rows}
use Rattle.memory.specs.Layout.{head_bytes, row_bytes, Only, OnlyRow, OnlyRows}

pub only_none : {heads rows : ℕ → Type 0} {m : List ℕ} → Only heads rows m m
only_none = record {
  shipments = refl;
  other_heads = λ i few apart. refl;
  other_rows = λ k there apart. refl;
  behind = λ j far. refl;
  as_long = refl;
}

pub only_then : {heads heads' rows rows' : ℕ → Type 0} {l m n : List ℕ} → Only heads rows l m → Only heads' rows' m n
    → Only (λ i. heads i ⊎ heads' i) (λ k. rows k ⊎ rows' k) l n
only_then first then = record {
  shipments = then.shipments ∙ first.shipments;
  other_heads = λ i few apart. then.other_heads i few (λ here. apart (inr here)) ∙ first.other_heads i few (λ here. apart (inl here));
  other_rows = λ k there apart. then.other_rows k there (λ here. apart (inr here)) ∙ first.other_rows k there (λ here. apart (inl here));
  behind = λ j far. then.behind j far ∙ first.behind j far;
  as_long = then.as_long ∙ first.as_long;
}

pub only_wider : {heads heads' rows rows' : ℕ → Type 0} {m m' : List ℕ} → ((i : ℕ) → heads i → heads' i) → ((k : ℕ) → rows k → rows' k)
    → Only heads rows m m' → Only heads' rows' m m'
only_wider more_heads more_rows only = record {
  shipments = only.shipments;
  other_heads = λ i few apart. only.other_heads i few (λ here. apart (more_heads i here));
  other_rows = λ k there apart. only.other_rows k there (λ here. apart (more_rows k here));
  behind = only.behind;
  as_long = only.as_long;
}

-- one after another in the same frame
pub only_again : {heads rows : ℕ → Type 0} {l m n : List ℕ} → Only heads rows l m → Only heads rows m n → Only heads rows l n
only_again first then = only_wider (λ i. ⊎_elim (λ here. here) (λ here. here)) (λ k. ⊎_elim (λ here. here) (λ here. here)) (only_then first then)

-- where no head is changed, or no row
pub heads_kept : {rows : ℕ → Type 0} {m m' : List ℕ} → Only (λ i. ⊥) rows m m' → (i : ℕ) → i < most_shipments → head_bytes m' i ≡ head_bytes m i
heads_kept only i few = only.other_heads i few (λ none. none)

pub rows_kept : {heads : ℕ → Type 0} {m m' : List ℕ} → Only heads (λ k. ⊥) m m' → (k : ℕ) → k < most_rows → row_bytes m' k ≡ row_bytes m k
rows_kept only k there = only.other_rows k there (λ none. none)

-- and so it lies in a frame with any heads, or any rows
pub with_heads : {heads rows : ℕ → Type 0} {m m' : List ℕ} → Only (λ i. ⊥) rows m m' → Only heads rows m m'
with_heads = only_wider (λ i none. absurd none) (λ k here. here)

pub with_rows_lem : {heads rows : ℕ → Type 0} {m m' : List ℕ} → Only heads (λ k. ⊥) m m' → Only heads rows m m'
with_rows_lem = only_wider (λ i here. here) (λ k none. absurd none)

-- one row of n
pub row_among : (k n : ℕ) {r : ℕ} {m m' : List ℕ} → k ≤ r → r < k + n → OnlyRow r m m' → OnlyRows k n m m'
row_among k n from below = only_wider (λ i none. none) (λ j same. (omega arith, omega arith))
