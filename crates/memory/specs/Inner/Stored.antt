-- What is stored in a head or a row, and what it changes. Only the contracts of what stores need these.
use Rattle.std.specs.Prelude.{◌≡◌, Bool, true, false, List, ℕ, ◌+◌, ◌*◌, ◌%◌, ◌^◌, ◌≤◌, ◌<◌, length, set}
use Rattle.money.specs.declared.Money.{Money}
use Rattle.model.specs.Shipment.{most_rows, accepted, returned}
use Rattle.model.specs.Calls.{with_state, with_stage, with_go_ahead, with_accepted, with_returned}
use Rattle.model.specs.Sound.{fault_in_range}
use Rattle.model.specs.declared.Row.{Row}
use Rattle.model.specs.declared.Stage.{Stage}
use Rattle.model.specs.declared.Stage.TheVariants.{Waiting, Paired, Closed}
use Rattle.model.specs.declared.State.{State}
use Rattle.model.specs.declared.State.TheVariants.{Open, Posted, Paid, Faulty, Undelivered, Withdrawn}
use Rattle.memory.specs.Number.{with_number}
use Rattle.memory.specs.Layout.{head_at, code_at, size, row_bytes, OnlyRow}
use Rattle.memory.specs.States.{state_of}
use Rattle.memory.specs.Rows.{row_of}
use Rattle.memory.specs.Heads.{stage_at, go_ahead_at, accepted_at, returned_at, shipment_in}

-- The byte of a stage.
abbrev pub stage_byte : Stage → ℕ
stage_byte Waiting = 0
stage_byte Paired = 1
stage_byte Closed = 2

-- The memory with a field of head i stored anew.
abbrev pub with_stage_at : List ℕ → ℕ → Stage → List ℕ
with_stage_at m i stage = set m (head_at i + stage_at) (stage_byte stage)

abbrev pub with_go_ahead_at : List ℕ → ℕ → List ℕ
with_go_ahead_at m i = set m (head_at i + go_ahead_at) 1

abbrev pub with_transfers_at : List ℕ → ℕ → Money → ℕ → List ℕ
with_transfers_at m i money n = with_number 8 m (head_at i + accepted_at money) n

abbrev pub with_surplus_at : List ℕ → ℕ → Money → ℕ → List ℕ
with_surplus_at m i money n = with_number 8 m (head_at i + returned_at money) n

-- A head with one field stored anew: its shipment has that field anew, and every other as it was.
pub record FieldStored (head : List ℕ) (rows : List Row) : Type 0 where
  pub stage : (stage : Stage) → shipment_in (set head stage_at (stage_byte stage)) rows ≡ with_stage stage (shipment_in head rows)
  pub go_ahead_holds : shipment_in (set head go_ahead_at 1) rows ≡ with_go_ahead (shipment_in head rows)
  pub accepted : (money : Money) (n : ℕ) → accepted money (shipment_in head rows) + n < 2 ^ 64
      → shipment_in (with_number 8 head (accepted_at money) (accepted money (shipment_in head rows) + n)) rows ≡ with_accepted money n (shipment_in head rows)
  pub returned : (money : Money) (n : ℕ) → returned money (shipment_in head rows) + n < 2 ^ 64
      → shipment_in (with_number 8 head (returned_at money) (returned money (shipment_in head rows) + n)) rows ≡ with_returned money n (shipment_in head rows)

-- The byte of a state. A fault is 1 to 10, so that the remainder is the fault.
abbrev pub waits_code : Bool → Bool → ℕ
waits_code true true = 3
waits_code true false = 1
waits_code false true = 2
waits_code false false = 0

abbrev pub code_of : State → ℕ
code_of Open = 0
code_of Posted = 1
code_of Paid = 2
code_of (Undelivered k) = 4 + waits_code k false
code_of (Withdrawn k o) = 8 + waits_code k o
code_of (Faulty fault k o) = 8 + 4 * (fault % 32) + waits_code k o

-- Every state that a sound book has is read back from its byte.
abbrev pub StateIsReadBack : Type 0
StateIsReadBack = (state : State) → fault_in_range state ≡ true → state_of (code_of state) ≡ state

-- The memory with another byte of state in row k.
unfoldable pub with_code_at : List ℕ → ℕ → ℕ → List ℕ
with_code_at m k code = set m (code_at k) code

-- Row k then has the state that the byte says, and all else of it; and nothing else moves.
pub record CodeStored (m : List ℕ) (k code : ℕ) : Type 0 where
  pub row : k < most_rows → size ≤ length m → row_of (row_bytes (with_code_at m k code) k) ≡ with_state (state_of code) (row_of (row_bytes m k))
  pub only : k < most_rows → OnlyRow k m (with_code_at m k code)

-- Row k is what the bytes of a row say, and nothing else moves.
pub record RowStored (bytes : List ℕ) (k : ℕ) (m m' : List ℕ) : Type 0 where
  pub row : row_of (row_bytes m' k) ≡ row_of bytes
  pub only : OnlyRow k m m'
