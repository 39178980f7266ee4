-- What the sheet says has left is what the answers so far say went out: what was accepted is so, by the answers and by the sheet, and held and free
-- are the same in both.
-- Assumes nothing.
use mathlib.Core.Path.{◌≡◌, refl}
use mathlib.Core.Bool.{true}
use mathlib.Core.List.{[], ◌∷◌}
use mathlib.Core.Option.{Option, some}
use Prim.Native.Nat.{◌+◌}
use native.Mathlib.Omega.{arith}
use Rattle.text.proofs.Branches.{cond_either}
use Rattle.money.specs.declared.Money.{Money}
use Rattle.epe.specs.declared.ident.Ident.{Ident}
use Rattle.model.specs.Shipment.{Shipment, accepted, free, held}
use Rattle.model.specs.Book.{Book, is_called, find}
use Rattle.model.specs.Sound.{shipments_sound, sound}
use Rattle.model.specs.Demand.{book_at, of_shipment}
use Rattle.model.proofs.SoundParts.{halves}
use Rattle.model.proofs.StaysSound.{always_sound}
use Rattle.model.proofs.Conserved.{conserves, accepted_as_answered}
use Rattle.sheet.specs.Sheet.{left, LeftAsAnswered}
use Rattle.sheet.proofs.Balance.{balances}

abbrev Balanced : Money → Option Shipment → Type 0
Balanced money s = of_shipment (accepted money) s ≡ of_shipment (held money) s + of_shipment (free money) s + of_shipment (left money) s

balanced_in : (money : Money) (ident : Ident) (book : Book) → shipments_sound book ≡ true → Balanced money (find ident book)
unfolding shipments_sound
balanced_in money ident [] h = refl
balanced_in money ident (s ∷ book) h =
    cond_either (Balanced money) (is_called ident s) (some s) (find ident book)
    (λ called. balances money s (search halves))
    (λ other. balanced_in money ident book (search halves depth 4))

pub left_as_answered : LeftAsAnswered
unfolding sound
left_as_answered calls p ident money =
    let all = always_sound calls p in
    let here = balanced_in money ident (book_at calls p) (search halves depth 4) in
    let place : 0 + p ≡ p = omega arith in
    let before = rw place at (conserves calls 0 p ident money) in
    omega (arith, here, before, accepted_as_answered calls p ident money)
