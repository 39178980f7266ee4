-- The money that an ending names. Only contracts below a title need it.
use Rattle.std.specs.Prelude.{cond, List, ℕ, Option, Some, None}
use Rattle.text.specs.Bytes.{same}
use Rattle.text.specs.Quoted.{bytes}
use Rattle.money.specs.declared.Money.{Money}
use Rattle.money.specs.declared.Money.TheVariants.{K, O}

unfoldable pub ending_money : List ℕ → Option Money
ending_money ending = cond (same ending (bytes "-K")) (Some K) (cond (same ending (bytes "-O")) (Some O) None)
