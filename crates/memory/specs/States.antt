-- The byte of state of an order's row, and the state that it says.
use Rattle.std.specs.Prelude.{Bool, false, cond, ℕ, ◌+◌, ◌*◌, ◌-◌, ◌/◌, ◌%◌, eqb}
use Rattle.text.specs.Bytes.{between}
use Rattle.model.specs.declared.State.{State}
use Rattle.model.specs.declared.State.TheVariants.{Open, Posted, Paid, Faulty, Undelivered, Withdrawn}

-- The waits, where a state has any: 1 where K waits, and 2 more where O waits, above a multiple of 4.
abbrev pub k_waits : ℕ → Bool
k_waits code = eqb (code % 2) 1

abbrev pub o_waits : ℕ → Bool
o_waits code = eqb (code / 2 % 2) 1

-- The faults are 1 to 10. The last byte that says a state is that of the last fault, with both waits: 51.
abbrev pub last_fault : ℕ
last_fault = 10

abbrev pub last_code : ℕ
last_code = 8 + 4 * last_fault + 3

-- 4 Undelivered, 8 Withdrawn, 8 and four times the fault Faulty, each with its waits.
abbrev pub says_undelivered : ℕ → Bool
says_undelivered code = between 4 5 code

abbrev pub says_withdrawn : ℕ → Bool
says_withdrawn code = between 8 11 code

abbrev pub says_faulty : ℕ → Bool
says_faulty code = between 12 last_code code

-- What is no state: an order with fault 0, which no sound book has.
abbrev pub no_state : State
no_state = Faulty 0 false false

-- 0 Open, 1 Posted, 2 Paid, and those with waits.
unfoldable pub state_of : ℕ → State
state_of code =
    cond (eqb code 0) Open
    (cond (eqb code 1) Posted
    (cond (eqb code 2) Paid
    (cond (says_undelivered code) (Undelivered (k_waits code))
    (cond (says_withdrawn code) (Withdrawn (k_waits code) (o_waits code))
    (cond (says_faulty code) (Faulty (code / 4 - 2) (k_waits code) (o_waits code)) no_state)))))
