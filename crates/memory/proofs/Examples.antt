-- The bytes of docs/LAYOUT.md, computed: the head of shipment ZS1 and rows of each kind, read as what they are.
-- Assumes nothing.
use mathlib.Core.Path.{◌≡◌, refl}
use mathlib.Core.Bool.{true, false}
use mathlib.Core.List.{List, [], ◌∷◌, map}
use Prim.Native.Nat.{ℕ}
use Rattle.text.specs.Bytes.{letter, digit, letter_or_digit}
use Rattle.text.specs.Quoted.{bytes}
use Rattle.money.specs.Money.{amount, fee}
use Rattle.fee.specs.Fee.{rate}
use Rattle.epe.specs.Ident.{identifier, ident_of}
use Rattle.model.specs.declared.Row.{Row}
use Rattle.model.specs.declared.Stage.TheVariants.{Paired}
use Rattle.model.specs.declared.State.TheVariants.{Open, Posted, Paid, Faulty, Undelivered, Withdrawn}
use Rattle.memory.specs.Number.{number_at}
use Rattle.memory.specs.States.{state_of}
use Rattle.memory.specs.Rows.{row_of}
use Rattle.memory.specs.Heads.{stage_of, shipment_in}

-- a flat part of 350 and a rate of 125, Paired after a go-ahead, three orders, K 17,650 and O 1,050 accepted, 100 of K returned
head : List ℕ
head =
    90 ∷ 83 ∷ 49 ∷ 0 ∷ 0 ∷ 0 ∷ 0 ∷ 0 ∷ 0 ∷ 0 ∷ 0 ∷ 0 ∷ 0 ∷ 0 ∷ 0 ∷ 0 ∷ 0 ∷ 3 ∷ 47 ∷ 62 ∷ 52 ∷ 1 ∷ 65 ∷ 0 ∷ 94 ∷ 1 ∷ 0 ∷
    0 ∷ 1 ∷ 1 ∷ 3 ∷ 0 ∷ 242 ∷ 68 ∷ 0 ∷ 0 ∷ 0 ∷ 0 ∷ 0 ∷ 0 ∷ 26 ∷ 4 ∷ 0 ∷ 0 ∷ 0 ∷ 0 ∷ 0 ∷ 0 ∷ 100 ∷ 0 ∷ 0 ∷ 0 ∷ 0 ∷ 0 ∷
    0 ∷ 0 ∷ 0 ∷ 0 ∷ 0 ∷ 0 ∷ 0 ∷ 0 ∷ 0 ∷ 0 ∷ 125 ∷ 0 ∷ []

zs1_is_read : (rows : List Row) → shipment_in head rows ≡ record {
  agreed = record { name = record { ident = ident_of (bytes "ZS1"); date = record { 0 = 20201007 }; payment = 0x41; kind = 0 }; terms = record { flat = fee 350; rate = rate 125 } };
  stage = Paired;
  go_ahead = true;
  accepted_sums = record { k = 17_650; o = 1_050 };
  returned_sums = record { k = 100; o = 0 };
  rows = rows;
}
unfolding head shipment_in number_at stage_of ident_of identifier letter digit letter_or_digit
zs1_is_read rows = refl

-- an order of 25.50 that is Posted, with a fee of 3.81 and a remainder of 8,750
row_is_read : row_of (246 ∷ 9 ∷ 0 ∷ 0 ∷ 1 ∷ 125 ∷ 1 ∷ 0 ∷ 0 ∷ 46 ∷ 34 ∷ []) ≡ record { amount = amount 2_550; fee = fee 381; remainder = 8_750; state = Posted }
unfolding row_of number_at state_of
row_is_read = refl

states_are_read : map state_of (0 ∷ 1 ∷ 2 ∷ 4 ∷ 5 ∷ 8 ∷ 9 ∷ 10 ∷ 11 ∷ 12 ∷ 15 ∷ 48 ∷ 51 ∷ [])
    ≡ Open ∷ Posted ∷ Paid ∷ Undelivered false ∷ Undelivered true
    ∷ Withdrawn false false ∷ Withdrawn true false ∷ Withdrawn false true ∷ Withdrawn true true
    ∷ Faulty 1 false false ∷ Faulty 1 true true ∷ Faulty 10 false false ∷ Faulty 10 true true ∷ []
unfolding state_of
states_are_read = refl

no_states : map state_of (3 ∷ 6 ∷ 7 ∷ 52 ∷ 255 ∷ []) ≡ Faulty 0 false false ∷ Faulty 0 false false ∷ Faulty 0 false false ∷ Faulty 0 false false ∷ Faulty 0 false false ∷ []
unfolding state_of
no_states = refl
