-- A return that is a sum of the money it is asked for answers its grosze.
-- Assumes nothing.
use mathlib.Core.Path.{◌≡◌, refl}
use Prim.Native.Nat.{ℕ}
use Rattle.money.specs.Money.{grosze_in, money_of_sum}
use Rattle.money.specs.declared.Money.{Money}
use Rattle.money.specs.declared.Sum.{Sum}
use Rattle.money.specs.declared.Sum.TheVariants.{Amounts, Fees}
use Rattle.model.specs.Calls.{Returned}
use Rattle.acts.specs.Answers.{sum_returned}

of_its_money : (sum : Sum) (count : ℕ) → sum_returned (money_of_sum sum) sum count ≡ Returned (grosze_in sum) count
unfolding money_of_sum grosze_in
of_its_money (Amounts amount) count = refl
of_its_money (Fees fee) count = refl

pub returned_as : {money : Money} (sum : Sum) (count : ℕ) → money_of_sum sum ≡ money → sum_returned money sum count ≡ Returned (grosze_in sum) count
returned_as sum count is = rw (← is) (of_its_money sum count)
