-- `memory::row::store_row` stores an amount, a fee, a remainder and a byte of state.
use native.Mathlib.Omega.{arith}
use Rattle.memory.proofs.RowStores.{row_stored}
use Rattle.memory.proofs.row.store_row.Goals as goal

pub returns : goal.returns
returns c =
    let is_amount = c.read.ensures in
    let is_fee = c.read-2.ensures in
    let is_remainder = c.read-3.ensures in
    rw (c.store_code.ensures, c.store-3.ensures, c.store-2.ensures, c.store.ensures, is_amount.0, is_fee.0, is_remainder.0)
    (row_stored c.args.row.now c.args.k c.args.memory.now c.requires.0 c.requires.1 (omega (arith, is_amount.0, is_amount.1))
    (omega (arith, is_fee.0, is_fee.1)) (omega (arith, is_remainder.0, is_remainder.1)))
