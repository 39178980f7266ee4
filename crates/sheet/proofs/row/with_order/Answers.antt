-- `sheet::row::with_order` adds an order to the parts.
use mathlib.Core.Path.{ap}
use Prim.Native.Nat.{ℕ}
use native.Mathlib.Omega.{arith}
use Rattle.money.specs.declared.Amount.{Amount}
use Rattle.money.specs.declared.Fee.{Fee}
use Rattle.sheet.proofs.Adding.{order_added}
use Rattle.sheet.proofs.row.with_order.Goals as goal

abbrev grosze_of : Amount → ℕ
grosze_of amount = amount.0

abbrev fee_of : Fee → ℕ
fee_of fee = fee.0

pub returns : goal.returns
returns c =
    let start = c.args in (
      order_added start.parts start.row.now c.amount-amount.ensures.0 c.fee-fee.ensures.0 c.holding-holding.ensures c.sum-amounts.ensures c.sum-held.ensures
          c.sum-fees.ensures c.sum-fees_held.ensures,
      omega (arith, ap grosze_of c.sum-amounts.ensures, c.amount-amount.ensures.1),
      omega (arith, ap fee_of c.sum-fees.ensures, c.fee-fee.ensures.1),
    )
