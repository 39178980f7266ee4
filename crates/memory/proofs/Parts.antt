-- A byte or a number stored in a head or a row changes that head or row alone, there alone.
-- Assumes nothing.
use mathlib.Core.Path.{◌≡◌, refl, sym, ap, subst, ◌∙◌}
use mathlib.Core.List.{List, ◌++◌}
use mathlib.Core.Logic.{◌⊎◌, inl, inr, ⊎_elim}
use Prim.Native.Nat.{ℕ, zero, suc, ◌+◌, ◌*◌, ◌-◌, ◌/◌, ◌%◌, ◌<◌, ◌≤◌}
use native.Mathlib.Nat.{add-zero, mul-le-mul_left, mul-suc}
use native.Mathlib.Omega.{arith}
use borrow.Author.Tests.{ltb-true, ltb-false}
use lib.Dec.{ltb}
use lib.ListN.{length, set, take, drop, length-set, length-drop}
use lib.Seq.{length-take-le, drop-set-lt, drop-set-add, take-set-le, take-set-lt, get_or-set_other}
use Rattle.text.proofs.Branches.{either_way}
use Rattle.model.specs.Shipment.{most_shipments, most_rows}
use Rattle.memory.specs.Number.{with_number}
use Rattle.memory.specs.Layout.{head_size, head_at, amount_at, fee_at, remainder_at, code_at, size, head_bytes, row_bytes, Only, OnlyHead, OnlyRow}
use Rattle.memory.proofs.Frames.{only_none, only_again}

-- any part of a list
module _ (m : List ℕ) (at n : ℕ) where
  pub part_long : at + n ≤ length m → length (take n (drop at m)) ≡ n
  part_long enough = length-take-le n (drop at m) (simp length-drop (omega arith))

  -- as code takes it, from `at` up to `at + n`
  pub part_there : at + n ≤ length m → (take (at + n - at) (drop at m) ≡ take n (drop at m)) × (length (take (at + n - at) (drop at m)) ≡ n)
  part_there enough = let width : at + n - at ≡ n = omega arith in rw width (refl, part_long enough)

  outside : (p v : ℕ) → (p < at) ⊎ (at + n ≤ p) → take n (drop at (set m p v)) ≡ take n (drop at m)
  outside p v =
      ⊎_elim (λ before. ap (take n) (drop-set-lt at m p v before))
      (λ behind.
      let split : p ≡ at + (p - at) = omega arith in
      ap (λ x. take n (drop at (set m x v))) split
      ∙ ap (take n) (drop-set-add at m (p - at) v)
      ∙ take-set-le n (drop at m) (p - at) v (omega arith))

  inside : (q v : ℕ) → q < n → take n (drop at (set m (at + q) v)) ≡ set (take n (drop at m)) q v
  inside q v h = ap (take n) (drop-set-add at m q v) ∙ take-set-lt n (drop at m) q v h

-- a number in any part, byte after byte
number_inside : (width : ℕ) (m : List ℕ) (at n q x : ℕ) → q + width ≤ n
    → take n (drop at (with_number width m (at + q) x)) ≡ with_number width (take n (drop at m)) q x
unfolding with_number
number_inside zero m at n q x within = refl
number_inside (suc width) m at n q x within =
    let first = set m (at + q) (x % 256) in
    let next : at + suc q ≡ suc (at + q) = omega arith in
    ap (λ p. take n (drop at (with_number width first p (x / 256)))) (sym next)
    ∙ number_inside width first at n (suc q) (x / 256) (omega arith)
    ∙ ap (λ part. with_number width part (suc q) (x / 256)) (inside m at n q (x % 256) (omega arith))

-- and what each byte stored in a part leaves alone, a number stored there does
module _ (heads rows : ℕ → Type 0) (at n : ℕ) (byte : (m : List ℕ) (q v : ℕ) → q < n → Only heads rows m (set m (at + q) v)) where
  number_only : (width : ℕ) (m : List ℕ) (q x : ℕ) → q + width ≤ n → Only heads rows m (with_number width m (at + q) x)
  unfolding with_number
  number_only zero m q x within = only_none
  number_only (suc width) m q x within =
      let first = set m (at + q) (x % 256) in
      let next : at + suc q ≡ suc (at + q) = omega arith in
      only_again (byte m q (x % 256) (omega arith))
      (subst (λ p. Only heads rows first (with_number width first p (x / 256))) next (number_only width first (suc q) (x / 256) (omega arith)))

-- a byte outside of n bytes from a place on
abbrev Apart : ℕ → ℕ → ℕ → Type 0
Apart p at n = (p < at) ⊎ (at + n ≤ p)

-- a byte that is none of row r
record RowApart (p r : ℕ) : Type 0 where
  amount : Apart p (amount_at r) 4
  fee : Apart p (fee_at r) 4
  remainder : Apart p (remainder_at r) 2
  code : Apart p (code_at r) 1

row_outside : (m : List ℕ) (p v r : ℕ) → RowApart p r → row_bytes (set m p v) r ≡ row_bytes m r
unfolding row_bytes
row_outside m p v r apart = λ i.
    outside m (amount_at r) 4 p v apart.amount i
    ++ (outside m (code_at r) 1 p v apart.code i ++ (outside m (fee_at r) 4 p v apart.fee i ++ outside m (remainder_at r) 2 p v apart.remainder i))

-- a byte of row k alone: behind the heads, and of no other row
pub record CellOf (k p : ℕ) : Type 0 where
  pub behind_heads : head_at most_shipments ≤ p
  pub within : p < size
  apart : (r : ℕ) → r < most_rows → (r ≡ k → ⊥) → RowApart p r

-- byte q of the cell of row k in a column of cells of w bytes lies in no other cell of it
cell_apart : (start w k q r : ℕ) → q < w → (r ≡ k → ⊥) → Apart (start + w * k + q) (start + w * r) w
cell_apart start w k q r within other =
    either_way (ltb r k)
    (λ below. let next = mul-le-mul_left w (ltb-true r k below) in inr (omega (arith, mul-suc w r)))
    (λ above. let far : k < r = omega (arith, ltb-false r k above) in let next = mul-le-mul_left w far in inl (omega (arith, mul-suc w k)))

module _ (k q : ℕ) (there : k < most_rows) where
  pub amount_cell : q < 4 → CellOf k (amount_at k + q)
  amount_cell within = record {
    behind_heads = omega arith;
    within = omega arith;
    apart = λ r few other. record {
      amount = cell_apart (head_at most_shipments) 4 k q r within other;
      fee = inl (omega arith);
      remainder = inl (omega arith);
      code = inl (omega arith);
    };
  }

  pub fee_cell : q < 4 → CellOf k (fee_at k + q)
  fee_cell within = record {
    behind_heads = omega arith;
    within = omega arith;
    apart = λ r few other. record {
      amount = inr (omega arith);
      fee = cell_apart (amount_at most_rows) 4 k q r within other;
      remainder = inl (omega arith);
      code = inl (omega arith);
    };
  }

  pub remainder_cell : q < 2 → CellOf k (remainder_at k + q)
  remainder_cell within = record {
    behind_heads = omega arith;
    within = omega arith;
    apart = λ r few other. record {
      amount = inr (omega arith);
      fee = inr (omega arith);
      remainder = cell_apart (fee_at most_rows) 2 k q r within other;
      code = inl (omega arith);
    };
  }

pub code_cell : (k : ℕ) → k < most_rows → CellOf k (code_at k)
code_cell k there = record {
  behind_heads = omega arith;
  within = omega arith;
  apart = λ r few other. record {
    amount = inr (omega arith);
    fee = inr (omega arith);
    remainder = inr (omega arith);
    code = either_way (ltb r k) (λ below. inr (omega (arith, ltb-true r k below))) (λ above. inl (omega (arith, ltb-false r k above, other)));
  };
}

-- and so it changes no other row
pub cell_only : (m : List ℕ) (k p v : ℕ) → CellOf k p → OnlyRow k m (set m p v)
unfolding head_bytes
cell_only m k p v cell = record {
  shipments = get_or-set_other m p 0 v 0 (omega (arith, cell.behind_heads));
  other_heads = λ i few apart. outside m (head_at i) head_size p v (inr (omega (arith, cell.behind_heads)));
  other_rows = λ r few apart. row_outside m p v r (cell.apart r few apart);
  behind = λ j far. get_or-set_other m p j v 0 (omega (arith, cell.within));
  as_long = length-set m p v;
}

-- byte q of head i
module _ (m : List ℕ) (i q v : ℕ) (within : q < head_size) where
  pub head_byte : head_bytes (set m (head_at i + q) v) i ≡ set (head_bytes m i) q v
  unfolding head_bytes
  head_byte = inside m (head_at i) head_size q v within

  other_head : (j : ℕ) → (j ≡ i → ⊥) → head_bytes (set m (head_at i + q) v) j ≡ head_bytes m j
  unfolding head_bytes
  other_head j apart =
      either_way (ltb j i)
      (λ below. outside m (head_at j) head_size (head_at i + q) v (inr (omega (arith, ltb-true j i below))))
      (λ above. outside m (head_at j) head_size (head_at i + q) v (inl (omega (arith, ltb-false j i above))))

  any_row : i < most_shipments → (k : ℕ) → row_bytes (set m (head_at i + q) v) k ≡ row_bytes m k
  any_row few k = row_outside m (head_at i + q) v k (record { amount = inl (omega arith); fee = inl (omega arith); remainder = inl (omega arith); code = inl (omega arith) })

  pub head_byte_only : i < most_shipments → OnlyHead i m (set m (head_at i + q) v)
  head_byte_only few = record {
    shipments = get_or-set_other m (head_at i + q) 0 v 0 (omega arith);
    other_heads = λ j below apart. other_head j apart;
    other_rows = λ k there apart. any_row few k;
    behind = λ j far. get_or-set_other m (head_at i + q) j v 0 (omega arith);
    as_long = length-set m (head_at i + q) v;
  }

-- a number in a head
pub head_number : (width : ℕ) (m : List ℕ) (i q n : ℕ) → q + width ≤ head_size
    → head_bytes (with_number width m (head_at i + q) n) i ≡ with_number width (head_bytes m i) q n
unfolding head_bytes
head_number width m i q n within = number_inside width m (head_at i) head_size q n within

pub head_number_only : (width : ℕ) (m : List ℕ) (i q n : ℕ) → q + width ≤ head_size → i < most_shipments → OnlyHead i m (with_number width m (head_at i + q) n)
head_number_only width m i q n within few =
    number_only (λ j. j ≡ i) (λ r. ⊥) (head_at i) head_size (λ l p v h. head_byte_only l i p v h few) width m q n within

-- a number in a cell of row k, in any column
pub cell_number_only : (width : ℕ) (m : List ℕ) (k at n : ℕ) → ((q : ℕ) → q < width → CellOf k (at + q)) → OnlyRow k m (with_number width m at n)
cell_number_only width m k at n cells =
    subst (λ p. OnlyRow k m (with_number width m p n)) (add-zero at)
    (number_only (λ j. ⊥) (λ r. r ≡ k) at width (λ l q v h. cell_only l k (at + q) v (cells q h)) width m 0 n (omega arith))

-- the number of shipments
module _ (m : List ℕ) (v : ℕ) where
  pub number_heads : (i : ℕ) → head_bytes (set m 0 v) i ≡ head_bytes m i
  unfolding head_bytes
  number_heads i = outside m (head_at i) head_size 0 v (inl (omega arith))

  pub number_rows : (k : ℕ) → row_bytes (set m 0 v) k ≡ row_bytes m k
  number_rows k = row_outside m 0 v k (record { amount = inl (omega arith); fee = inl (omega arith); remainder = inl (omega arith); code = inl (omega arith) })
