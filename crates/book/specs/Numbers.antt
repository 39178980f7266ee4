-- Routes and moneys as numbers, as the exports and a journal take them: 0 ZWR, 1 OPR, 2 ZPR, 3 ZZR, and 0 K, 1 O.
use Rattle.std.specs.Prelude.{Bool, cond, ◌&&◌, ℕ, leb, eqb}
use Rattle.money.specs.declared.Money.{Money}
use Rattle.money.specs.declared.Money.TheVariants.{K, O}
use Rattle.model.specs.declared.Route.{Route}
use Rattle.model.specs.declared.Route.TheVariants.{Zwr, Opr, Zpr, Zzr}

unfoldable pub are_known : ℕ → ℕ → Bool
are_known route money = leb route 3 && leb money 1

unfoldable pub route_of : ℕ → Route
route_of n = cond (eqb n 0) Zwr (cond (eqb n 1) Opr (cond (eqb n 2) Zpr Zzr))

unfoldable pub money_of : ℕ → Money
money_of n = cond (eqb n 0) K O
