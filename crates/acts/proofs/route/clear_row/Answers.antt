-- `acts::route::clear_row` counts what it took, and adds the order's worth as many times.
use mathlib.Core.Path.{refl, ap, ◌∙◌}
use Prim.Native.Nat.{◌+◌, ◌*◌}
use native.Mathlib.Omega.{arith}
use Rattle.model.specs.Shipment.{worth}
use Rattle.memory.specs.Layout.{row_bytes}
use Rattle.memory.specs.Rows.{row_of}
use Rattle.acts.proofs.Returns.{twice_at_most}
use Rattle.acts.proofs.route.clear_row.Goals as goal

pub overflow_mul-sum : goal.overflow_mul-sum
overflow_mul-sum c =
    omega (arith, twice_at_most c.worth-worth.result c.store_return-took.result c.store_return-took.ensures.1)

pub overflow_add-sum : goal.overflow_add-sum
overflow_add-sum c =
    omega (arith, twice_at_most c.worth-worth.result c.store_return-took.result c.store_return-took.ensures.1)

pub returns : goal.returns
returns c =
    let args = c.args in
    let took = c.store_return-took.result in
    let is_worth = c.worth-worth.ensures.0 ∙ ap (worth args.money) (c.row.ensures ∙ ap (λ m. row_of (row_bytes m args.k)) c.lent.ensures) in
    let twice = twice_at_most c.worth-worth.result took c.store_return-took.ensures.1 in (
      λ route is. record {
        taken = took;
        row = c.store_return-took.ensures.0 route args.money is;
        added = ap (λ n. args.taken.worth + n * took) is_worth;
        counted = refl;
      },
      omega arith,
      omega arith,
    )
