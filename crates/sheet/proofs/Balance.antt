-- The sheet balances: in a Paired shipment each order's worth is held or has left, and in any other nothing is held and no order's money has left.
-- Assumes nothing.
use mathlib.Core.Path.{◌≡◌, refl}
use mathlib.Core.Bool.{Bool, true, false, ◌||◌, false≢true}
use mathlib.Core.List.{List, [], ◌∷◌}
use Prim.Native.Nat.{ℕ, ◌+◌}
use native.Mathlib.Omega.{arith}
use Rattle.money.specs.declared.Money.{Money}
use Rattle.money.specs.declared.Money.TheVariants.{K, O}
use Rattle.model.specs.Shipment.{Shipment, accepted, is_paired, only_if, sum_over, worth, need, free, holds, held}
use Rattle.model.specs.Sound.{before_pairing, row_sound, rows_sound, shipment_sound}
use Rattle.model.specs.declared.Row.{Row}
use Rattle.model.specs.declared.State.{State}
use Rattle.model.specs.declared.State.TheVariants.{Open, Posted, Paid, Faulty, Undelivered, Withdrawn}
use Rattle.model.proofs.SoundParts.{halves, in_order}
use Rattle.sheet.specs.Sheet.{is_out, waits_no_more, left, Balances}

-- an order's worth is held, is out, or waits no more
shared : (money : Money) (state : State) (n : ℕ)
    → only_if (holds money state) n + only_if (is_out money state) n + only_if (waits_no_more money state) n ≡ n
shared K Open n = omega arith
shared K Posted n = omega arith
shared K Paid n = omega arith
shared K (Faulty fault true o) n = omega arith
shared K (Faulty fault false o) n = omega arith
shared K (Undelivered true) n = omega arith
shared K (Undelivered false) n = omega arith
shared K (Withdrawn true o) n = omega arith
shared K (Withdrawn false o) n = omega arith
shared O Open n = omega arith
shared O Posted n = omega arith
shared O Paid n = omega arith
shared O (Faulty fault k true) n = omega arith
shared O (Faulty fault k false) n = omega arith
shared O (Undelivered k) n = omega arith
shared O (Withdrawn k true) n = omega arith
shared O (Withdrawn k false) n = omega arith

-- before pairing no order's money is out
none_out : (money : Money) (state : State) (n : ℕ) → before_pairing state ≡ true → only_if (is_out money state) n ≡ 0
none_out K Open n h = refl
none_out K Posted n h = absurd (false≢true h)
none_out K Paid n h = absurd (false≢true h)
none_out K (Faulty fault k o) n h = refl
none_out K (Undelivered k) n h = absurd (false≢true h)
none_out K (Withdrawn k o) n h = absurd (false≢true h)
none_out O Open n h = refl
none_out O Posted n h = absurd (false≢true h)
none_out O Paid n h = absurd (false≢true h)
none_out O (Faulty fault k o) n h = refl
none_out O (Undelivered k) n h = absurd (false≢true h)
none_out O (Withdrawn k o) n h = absurd (false≢true h)

module _ (money : Money) (s : Shipment) where
  abbrev those : (State → Bool) → Row → ℕ
  those test row = only_if (test row.state) (worth money row)

  shared_all : (rows : List Row)
      → sum_over (those (holds money)) rows + sum_over (those (is_out money)) rows + sum_over (those (waits_no_more money)) rows
      ≡ sum_over (worth money) rows
  shared_all [] = refl
  shared_all (row ∷ rows) =
      let here = shared money row.state (worth money row) in
      let rest = shared_all rows in
      omega arith

  -- an order of a shipment that is not Paired
  row_before : (row : Row) → is_paired s.stage ≡ false → row_sound s.agreed.terms s.stage row ≡ true → before_pairing row.state ≡ true
  unfolding row_sound
  row_before row unpaired h =
      let either : (is_paired s.stage || before_pairing row.state) ≡ true = search halves in
      rw unpaired at either

  none_out_of_all : is_paired s.stage ≡ false → (rows : List Row) → rows_sound s.agreed.terms s.stage rows ≡ true → sum_over (those (is_out money)) rows ≡ 0
  unfolding rows_sound
  none_out_of_all unpaired [] h = refl
  none_out_of_all unpaired (row ∷ rows) h =
      omega (
        arith,
        none_out money row.state (worth money row) (row_before row unpaired (search halves)),
        none_out_of_all unpaired rows (search halves),
      )

  pub balances_when : (paired : Bool) → is_paired s.stage ≡ paired → shipment_sound s ≡ true
      → accepted money s ≡ held money s + free money s + left money s
  unfolding need held free left
  balances_when true paired h =
      let covered = ((in_order s h).moneys money).covered in
      let whole = shared_all s.rows in
      rw paired (omega (arith, rw paired at covered))
  balances_when false unpaired h =
      let covered = ((in_order s h).moneys money).covered in
      let none = none_out_of_all unpaired s.rows (in_order s h).rows_sound in
      rw unpaired (omega (arith, rw unpaired at covered))

pub balances : Balances
balances money s = balances_when money s (is_paired s.stage) refl
