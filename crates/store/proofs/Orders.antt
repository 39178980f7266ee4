-- Orders that were stored are read back, and rows of a sound book are stored as they lie in memory.
-- Assumes nothing.
use mathlib.Core.Path.{◌≡◌, refl, sym, ◌∙◌, ap}
use mathlib.Core.Bool.{Bool, true, not, ◌||◌}
use mathlib.Core.List.{List, [], ◌∷◌, ◌++◌}
use Prim.Native.Nat.{ℕ, ◌*◌, ◌^◌, ◌<◌}
use native.Mathlib.Omega.{arith}
use lib.Dec.{eqb}
use lib.ListN.{length, get_or, drop, length-append}
use lib.Seq.{drop-length}
use borrow.Author.Tests.{leb-true, eqb-true}
use Rattle.calendar.proofs.Computed.{each}
use Rattle.money.specs.Money.{order_cap}
use Rattle.fee.specs.declared.Terms.{Terms}
use Rattle.fee.proofs.Division.{facts_of}
use Rattle.model.specs.Sound.{fault_in_range, row_charged, row_sound, rows_sound}
use Rattle.model.specs.declared.Row.{Row}
use Rattle.model.specs.declared.Stage.{Stage}
use Rattle.model.proofs.SoundParts.{halves}
use Rattle.memory.specs.Number.{number_at}
use Rattle.memory.specs.Layout.{row_size, IsRow}
use Rattle.memory.specs.States.{state_of}
use Rattle.memory.specs.Rows.{row_of}
use Rattle.memory.specs.Inner.Enter.{bytes_of}
use Rattle.memory.specs.Inner.Stored.{code_of}
use Rattle.memory.proofs.StateLaws.{state_is_read_back}
use Rattle.store.specs.Stored.{order_of, orders_of}
use Rattle.store.proofs.Fields.{behind_field, number_there, byte_there, number_then, byte_then}

-- an order is 11 bytes, and orders 11 to each
pub order_long : (row : Row) → length (order_of row) ≡ row_size
unfolding order_of
order_long row = refl

pub orders_long : (rows : List Row) → length (orders_of rows) ≡ row_size * length rows
unfolding orders_of
orders_long [] = refl
orders_long (row ∷ rows) =
    let a = length-append (order_of row) (orders_of rows) in
    let b = order_long row in
    let c = orders_long rows in
    omega arith

-- numbers that have room in their fields, and a state that has a byte
pub record RowHasRoom (row : Row) : Type 0 where
  pub amount : row.amount.0 < 2 ^ 32
  pub fee : row.fee.0 < 2 ^ 32
  pub remainder : row.remainder < 2 ^ 16
  pub known : fault_in_range row.state ≡ true

-- the first of sound rows has them
pub first_row : (terms : Terms) (stage : Stage) (row : Row) (rows : List Row) → rows_sound terms stage (row ∷ rows) ≡ true
    → RowHasRoom row × (rows_sound terms stage rows ≡ true)
unfolding rows_sound row_sound
first_row terms stage row rows h =
    let charged : row_charged terms row ≡ true = search halves in
    let most = leb-true row.amount.0 order_cap (search halves) in
    let fee = leb-true row.fee.0 order_cap (search halves) in
    let facts = facts_of terms row.amount.0 row.fee.0 row.remainder (search halves) in
    let below = facts.below in
    (record { amount = omega arith; fee = omega arith; remainder = omega arith; known = search halves }, search halves)

-- read back
module _ (row : Row) (room : RowHasRoom row) where
  abbrev m : List ℕ
  m = order_of row

  abbrev last : List ℕ
  last = bytes_of 2 row.remainder

  abbrev from_5 : List ℕ
  from_5 = bytes_of 4 row.fee.0 ++ last

  abbrev from_4 : List ℕ
  from_4 = code_of row.state ∷ from_5

  at_4 : drop 4 m ≡ from_4
  unfolding order_of
  at_4 = behind_field m 0 (bytes_of 4 row.amount.0) from_4 4 refl refl

  at_5 : drop 5 m ≡ from_5
  at_5 = behind_field m 4 (code_of row.state ∷ []) from_5 1 refl at_4

  at_9 : drop 9 m ≡ last
  at_9 = behind_field m 5 (bytes_of 4 row.fee.0) last 4 refl at_5

  pub order_back : row_of (order_of row) ≡ row
  unfolding order_of row_of
  order_back =
      let amount = number_there m 0 4 row.amount.0 from_4 room.amount refl in
      let state = ap state_of (byte_there m 4 (code_of row.state) from_5 at_4) ∙ state_is_read_back row.state room.known in
      let fee = number_there m 5 4 row.fee.0 last room.fee at_5 in
      let remainder = number_there m 9 2 row.remainder [] room.remainder at_9 in
      λ i. record { amount = record { 0 = amount i }; fee = record { 0 = fee i }; remainder = remainder i; state = state i }

-- every byte that says a state of a sound book is that of the state
byte_right : ℕ → Bool
byte_right code = not (fault_in_range (state_of code)) || eqb (code_of (state_of code)) code

code_forth : (code : ℕ) → code < 256 → fault_in_range (state_of code) ≡ true → code_of (state_of code) ≡ code
unfolding byte_right state_of
code_forth code byte known =
    eqb-true (code_of (state_of code)) code (rw known at (each byte_right 256 refl code byte))

pub order_forth : (row : List ℕ) → IsRow row → ((j : ℕ) → get_or row j 0 < 256) → fault_in_range (row_of row).state ≡ true → order_of (row_of row) ≡ row
unfolding order_of row_of
order_forth row is_row bytes known =
    let end : [] ≡ drop row_size row = sym (ap (λ (j : ℕ). drop j row) (sym is_row) ∙ drop-length row) in
    let f9 = number_then row bytes 2 9 (omega arith) end in
    let f5 = number_then row bytes 4 5 (omega arith) f9 in
    let f4 = byte_then row bytes 4 (omega arith) f5 in
    let code = code_forth (get_or row 4 0) (bytes 4) known in
    number_then row bytes 4 0 (omega arith) (ap (λ (b : ℕ). b ∷ (bytes_of 4 (number_at 4 row 5) ++ bytes_of 2 (number_at 2 row 9))) code ∙ f4)
