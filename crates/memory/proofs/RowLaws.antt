-- A row's fields, as they lie in the columns; and a byte of state stored changes its row's state alone.
-- Assumes nothing.
use mathlib.Core.Path.{◌≡◌, sym, ◌∙◌, ap}
use mathlib.Core.List.{List, ◌++◌}
use Prim.Native.Nat.{ℕ, ◌+◌, ◌<◌, ◌≤◌}
use native.Mathlib.Nat.{add-zero}
use native.Mathlib.Omega.{arith}
use lib.ListN.{length, get_or, set, take, drop, length-set, get_or-append}
use lib.Seq.{get_or-set_same, get_or-set_other, get_or-append-add, get_or-take, get_or-drop}
use Rattle.model.specs.Shipment.{most_rows}
use Rattle.model.specs.Calls.{with_state}
use Rattle.model.specs.declared.Row.{Row}
use Rattle.memory.specs.Number.{number_at}
use Rattle.memory.specs.Layout.{amount_at, fee_at, remainder_at, code_at, size, row_bytes}
use Rattle.memory.specs.States.{state_of}
use Rattle.memory.specs.Rows.{code_in, row_of}
use Rattle.memory.specs.Inner.Stored.{with_code_at, CodeStored}
use Rattle.memory.proofs.Numbers.{number_alike}
use Rattle.memory.proofs.Parts.{part_long, code_cell, cell_only}

-- the bytes of a part before other bytes, and those behind it
module _ (m : List ℕ) (at n : ℕ) (rest : List ℕ) (enough : at + n ≤ length m) where
  byte_in : (q : ℕ) → q < n → get_or (take n (drop at m) ++ rest) q 0 ≡ get_or m (at + q) 0
  byte_in q h =
      get_or-append (take n (drop at m)) rest 0 q (omega (arith, part_long m at n enough)) ∙ get_or-take n (drop at m) q 0 h ∙ get_or-drop at m q 0

  byte_behind : (q : ℕ) → get_or (take n (drop at m) ++ rest) (n + q) 0 ≡ get_or rest q 0
  byte_behind q = rw (part_long m at n enough) at (get_or-append-add (take n (drop at m)) rest q 0)

-- the fields of row k
module _ (m : List ℕ) (k : ℕ) (there : k < most_rows) (enough : size ≤ length m) where
  pub amount_in_lem : number_at 4 (row_bytes m k) 0 ≡ number_at 4 m (amount_at k)
  unfolding row_bytes
  amount_in_lem = number_alike 4 (row_bytes m k) m 0 (amount_at k) (λ j h.
      let same : 0 + j ≡ j = omega arith in
      rw same (byte_in m (amount_at k) 4 _ (omega arith) j h))

  pub code_in_lem : code_in (row_bytes m k) ≡ get_or m (code_at k) 0
  unfolding row_bytes
  code_in_lem =
      byte_behind m (amount_at k) 4 _ (omega arith) 0 ∙ byte_in m (code_at k) 1 _ (omega arith) 0 (omega arith) ∙ ap (λ (p : ℕ). get_or m p 0) (add-zero (code_at k))

  pub fee_in : number_at 4 (row_bytes m k) 5 ≡ number_at 4 m (fee_at k)
  unfolding row_bytes
  fee_in = number_alike 4 (row_bytes m k) m 5 (fee_at k) (λ j h.
      let place : 5 + j ≡ 4 + (1 + j) = omega arith in
      rw place (byte_behind m (amount_at k) 4 _ (omega arith) (1 + j) ∙ byte_behind m (code_at k) 1 _ (omega arith) j ∙ byte_in m (fee_at k) 4 _ (omega arith) j h))

  pub remainder_in : number_at 2 (row_bytes m k) 9 ≡ number_at 2 m (remainder_at k)
  unfolding row_bytes
  remainder_in = number_alike 2 (row_bytes m k) m 9 (remainder_at k) (λ j h.
      let place : 9 + j ≡ 4 + (1 + (4 + j)) = omega arith in
      rw place
      (byte_behind m (amount_at k) 4 _ (omega arith) (1 + (4 + j))
      ∙ byte_behind m (code_at k) 1 _ (omega arith) (4 + j)
      ∙ byte_behind m (fee_at k) 4 _ (omega arith) j
      ∙ get_or-take 2 (drop (remainder_at k) m) j 0 h
      ∙ get_or-drop (remainder_at k) m j 0))

-- a row by its fields, as they lie in the columns
pub row_by : (m : List ℕ) (k : ℕ) → k < most_rows → size ≤ length m → (row : Row)
    → number_at 4 m (amount_at k) ≡ row.amount.0 → number_at 4 m (fee_at k) ≡ row.fee.0 → number_at 2 m (remainder_at k) ≡ row.remainder
    → state_of (get_or m (code_at k) 0) ≡ row.state → row_of (row_bytes m k) ≡ row
unfolding row_of
row_by m k there enough row is_amount is_fee is_remainder is_state = λ i. record {
  amount = record { 0 = (amount_in_lem m k there enough ∙ is_amount) i };
  fee = record { 0 = (fee_in m k there enough ∙ is_fee) i };
  remainder = (remainder_in m k there enough ∙ is_remainder) i;
  state = (ap state_of (code_in_lem m k there enough) ∙ is_state) i;
}

-- a byte of state stored anew
module _ (m : List ℕ) (k code : ℕ) where
  pub code_stored : CodeStored m k code
  unfolding with_code_at row_of
  code_stored = record {
    row = λ there enough.
        let m' = set m (code_at k) code in
        let long = length-set m (code_at k) code in
        let same : (width at : ℕ) → at + width ≤ code_at k → number_at width m' at ≡ number_at width m at =
        λ width at h. number_alike width m' m at at (λ j within. get_or-set_other m (code_at k) (at + j) code 0 (omega arith)) in
        row_by m' k there (omega arith) (with_state (state_of code) (row_of (row_bytes m k)))
        (same 4 (amount_at k) (omega arith) ∙ sym (amount_in_lem m k there enough))
        (same 4 (fee_at k) (omega arith) ∙ sym (fee_in m k there enough))
        (same 2 (remainder_at k) (omega arith) ∙ sym (remainder_in m k there enough))
        (ap state_of (get_or-set_same m (code_at k) code 0 (omega arith)));
    only = λ there. cell_only m k (code_at k) code (code_cell k there);
  }
