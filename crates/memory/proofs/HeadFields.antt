-- What is read in a head and its orders' rows is what their shipment has.
-- Assumes nothing.
use mathlib.Core.Path.{◌≡◌, refl, ap, ◌∙◌}
use mathlib.Core.Bool.{true}
use mathlib.Core.List.{List}
use Prim.Native.Nat.{ℕ}
use native.Mathlib.Omega.{arith}
use lib.ListN.{length}
use Rattle.money.specs.Money.{WithinSum}
use Rattle.money.specs.declared.Money.{Money}
use Rattle.money.specs.declared.Money.TheVariants.{K, O}
use Rattle.model.specs.Shipment.{Shipment, accepted, returned}
use Rattle.model.specs.Sound.{shipment_sound}
use Rattle.model.specs.declared.Row.{Row}
use Rattle.model.proofs.SoundParts.{in_order}
use Rattle.memory.specs.Read.{orders_at, shipment_at}
use Rattle.memory.proofs.Columns.{rows_many}
use Rattle.memory.specs.Heads.{transfers_in, surplus_in, shipment_in}

-- in any head, with any rows
module _ (head : List ℕ) (rows : List Row) where
  pub accepted_there : (money : Money) → transfers_in money head ≡ accepted money (shipment_in head rows)
  unfolding shipment_in
  accepted_there K = refl
  accepted_there O = refl

  pub returned_there : (money : Money) → surplus_in money head ≡ returned money (shipment_in head rows)
  unfolding shipment_in
  returned_there K = refl
  returned_there O = refl

  -- of a sound shipment both are sums
  module _ (sound : shipment_sound (shipment_in head rows) ≡ true) (money : Money) where
    pub accepted_low : WithinSum (transfers_in money head)
    accepted_low = omega (arith, accepted_there money, ((in_order (shipment_in head rows) sound).moneys money).accepted_fits)

    pub returned_low : WithinSum (surplus_in money head)
    returned_low = omega (arith, returned_there money, ((in_order (shipment_in head rows) sound).moneys money).returned_fits)

-- and of one at a place, how many orders it has
module _ (m : List ℕ) (i k : ℕ) (s : Shipment) (is : s ≡ shipment_at m i k) (rows : List Row) (rows_are : rows ≡ s.rows) where
  pub orders_are : {n : ℕ} → n ≡ length rows → n ≡ orders_at m i
  unfolding shipment_in
  orders_are many = many ∙ ap length (rows_are ∙ ap (λ (s : Shipment). s.rows) is) ∙ rows_many m k (orders_at m i)
