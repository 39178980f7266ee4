-- All of a row stored in its columns: the row is then read back, and nothing else moves.
-- Assumes nothing.
use mathlib.Core.Path.{◌≡◌, refl, ap, ◌∙◌}
use mathlib.Core.List.{List}
use mathlib.Core.Logic.{◌⊎◌, inl, ⊎_elim}
use Prim.Native.Nat.{ℕ, ◌+◌, ◌^◌, ◌<◌, ◌≤◌}
use native.Mathlib.Omega.{arith}
use lib.ListN.{length, get_or}
use Rattle.money.specs.Money.{amount, fee}
use Rattle.model.specs.Shipment.{most_rows}
use Rattle.model.specs.Calls.{with_state}
use Rattle.model.specs.declared.Row.{Row}
use Rattle.memory.specs.Number.{number_at, with_number}
use Rattle.memory.specs.Layout.{amount_at, fee_at, remainder_at, code_at, size, row_bytes, OnlyRow}
use Rattle.memory.specs.States.{state_of}
use Rattle.memory.specs.Rows.{code_in, row_of}
use Rattle.memory.specs.Inner.Stored.{with_code_at, RowStored}
use Rattle.memory.proofs.Numbers.{number_alike, stored_is_read}
use Rattle.memory.proofs.Parts.{amount_cell, fee_cell, remainder_cell, cell_number_only}
use Rattle.memory.proofs.Frames.{only_again}
use Rattle.memory.proofs.RowLaws.{row_by, code_stored}

-- a number is as it was once another was stored elsewhere
number_kept : (width : ℕ) (m : List ℕ) (at n w p : ℕ) → (p + w ≤ at) ⊎ (at + width ≤ p) → number_at w (with_number width m at n) p ≡ number_at w m p
number_kept width m at n w p apart =
    let stored = stored_is_read width m at n in
    number_alike w (with_number width m at n) m p p (λ j within.
    ⊎_elim (λ before. stored.before (p + j) (omega arith)) (λ behind. stored.behind (p + j) (omega arith)) apart)

-- the amount, the fee, the remainder, then the byte of state
module _ (m : List ℕ) (k a f r code : ℕ) where
  abbrev with_amount : List ℕ
  with_amount = with_number 4 m (amount_at k) a

  abbrev with_fee : List ℕ
  with_fee = with_number 4 with_amount (fee_at k) f

  abbrev with_remainder : List ℕ
  with_remainder = with_number 2 with_fee (remainder_at k) r

  abbrev pub with_row : List ℕ
  with_row = with_code_at with_remainder k code

  abbrev pub as_row : Row
  as_row = record { amount = amount a; fee = fee f; remainder = r; state = state_of code }

  pub read_back : k < most_rows → size ≤ length m → a < 2 ^ 32 → f < 2 ^ 32 → r < 2 ^ 16 → row_of (row_bytes with_row k) ≡ as_row
  read_back there enough amount_fits fee_fits remainder_fits =
      let first = stored_is_read 4 m (amount_at k) a in
      let second = stored_is_read 4 with_amount (fee_at k) f in
      let third = stored_is_read 2 with_fee (remainder_at k) r in
      let long : size ≤ length with_remainder = omega (arith, first.as_long, second.as_long, third.as_long) in
      let amount_there : number_at 4 with_remainder (amount_at k) ≡ a =
      number_kept 2 with_fee (remainder_at k) _ 4 (amount_at k) (inl (omega arith))
      ∙ number_kept 4 with_amount (fee_at k) _ 4 (amount_at k) (inl (omega arith))
      ∙ first.back (omega arith) amount_fits in
      let fee_there : number_at 4 with_remainder (fee_at k) ≡ f =
      number_kept 2 with_fee (remainder_at k) _ 4 (fee_at k) (inl (omega arith))
      ∙ second.back (omega (arith, first.as_long)) fee_fits in
      let remainder_there = third.back (omega (arith, first.as_long, second.as_long)) remainder_fits in
      let before = row_by with_remainder k there long (with_state (state_of (get_or with_remainder (code_at k) 0)) as_row) amount_there fee_there remainder_there refl in
      (code_stored with_remainder k code).row there long ∙ ap (with_state (state_of code)) before

  pub only_it : k < most_rows → OnlyRow k m with_row
  only_it there =
      only_again (cell_number_only 4 m k (amount_at k) _ (λ q h. amount_cell k q there h))
      (only_again (cell_number_only 4 with_amount k (fee_at k) _ (λ q h. fee_cell k q there h))
      (only_again (cell_number_only 2 with_fee k (remainder_at k) _ (λ q h. remainder_cell k q there h)) ((code_stored with_remainder k code).only there)))

-- the bytes of a row
pub row_stored : (row : List ℕ) (k : ℕ) (m : List ℕ) → k < most_rows → size ≤ length m → number_at 4 row 0 < 2 ^ 32 → number_at 4 row 5 < 2 ^ 32
    → number_at 2 row 9 < 2 ^ 16 → RowStored row k m (with_row m k (number_at 4 row 0) (number_at 4 row 5) (number_at 2 row 9) (code_in row))
unfolding row_of
row_stored row k m there enough amount_fits fee_fits remainder_fits = record {
  row = read_back m k (number_at 4 row 0) (number_at 4 row 5) (number_at 2 row 9) (code_in row) there enough amount_fits fee_fits remainder_fits;
  only = only_it m k (number_at 4 row 0) (number_at 4 row 5) (number_at 2 row 9) (code_in row) there;
}
