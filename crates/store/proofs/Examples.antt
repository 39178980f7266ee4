-- Worked bytes, and the questions of storing at their edges, each computed from the definitions.
-- Assumes nothing.
use mathlib.Core.Path.{◌≡◌, refl}
use mathlib.Core.List.{List, [], ◌∷◌, ◌++◌, map}
use mathlib.Core.Option.{Option, some, none}
use Prim.Native.Nat.{ℕ}
use lib.ListN.{length, replicate, take}
use Rattle.text.specs.Quoted.{bytes}
use Rattle.money.specs.Money.{amount, fee}
use Rattle.fee.specs.Fee.{rate}
use Rattle.epe.specs.Questions.{asked}
use Rattle.model.specs.Shipment.{Shipment}
use Rattle.model.specs.Book.{Book, new_shipment}
use Rattle.model.specs.Demand.{book_at}
use Rattle.model.specs.Zs1.{calls, zs1}
use Rattle.model.specs.Rated.{calls as rated_calls}
use Rattle.model.specs.declared.State.TheVariants.{Open}
use Rattle.model.proofs.AboutZs1.{stepped}
use Rattle.write.specs.Written.{Wrote, leaving, written_after}
use Rattle.std.specs.Prelude.{Ok}
use Rattle.store.specs.Stored.{head_of, order_of, orders_of, contents_from, bodies_of, stored, stored_into}

-- names the definitions that the examples compute
bytes_in : Book → List ℕ
unfolding stepped zs1 head_of order_of orders_of contents_from bodies_of stored
bytes_in = stored

answered : Option Book → List ℕ → Wrote
unfolding bytes_in stored_into written_after asked
answered = stored_into

-- The empty book: the form, and no shipment.
empty : bytes_in [] ≡ 0x02 ∷ 0x00 ∷ []
unfolding bytes_in
empty = refl

-- ZS1's identifier with its length, its date 20201007, A, kind 0 and flat part 350: what its head begins with at any time.
zs1_named : List ℕ
zs1_named =
    bytes "ZS1" ++ replicate 14 0 ++ 0x03 ∷ 0x2F ∷ 0x3E ∷ 0x34 ∷ 0x01 ∷ 0x41 ∷ 0x00 ∷ 0x5E ∷ 0x01 ∷ 0x00 ∷ 0x00 ∷ []

-- With what stands before it where there is no other shipment: the form, the number of shipments, and one body from byte 10 on, 99 bytes long.
zs1_alone : List ℕ
zs1_alone = 0x02 ∷ 0x01 ∷ 0x0A ∷ 0x00 ∷ 0x00 ∷ 0x00 ∷ 0x63 ∷ 0x00 ∷ 0x00 ∷ 0x00 ∷ zs1_named

-- An order's fee and remainder where the rate is 0: the flat part, and nothing.
flat_fee : List ℕ
flat_fee = 0x5E ∷ 0x01 ∷ 0x00 ∷ 0x00 ∷ 0x00 ∷ 0x00 ∷ []

-- ZS1 just taken in, 109 bytes: Waiting, no go-ahead, 3 orders, no money, rate 0; 100.00 and 25.50 Open, 50.00 Faulty with fault 1 and both moneys waiting.
zs1_stored : List ℕ
zs1_stored =
    zs1_alone
    ++ 0x00 ∷ 0x00 ∷ 0x03 ∷ 0x00 ∷ replicate 32 0
    ++ 0x00 ∷ 0x00 ∷ 0x10 ∷ 0x27 ∷ 0x00 ∷ 0x00 ∷ 0x00 ∷ flat_fee
    ++ 0x88 ∷ 0x13 ∷ 0x00 ∷ 0x00 ∷ 0x0F ∷ flat_fee
    ++ 0xF6 ∷ 0x09 ∷ 0x00 ∷ 0x00 ∷ 0x00 ∷ flat_fee

taken_in_lem : bytes_in (book_at calls 1) ≡ zs1_stored
unfolding bytes_in zs1_named zs1_alone flat_fee zs1_stored
taken_in_lem = refl

-- On a rate of 125: fees 475, 412 and 381, remainders 0, 5,000 and 8,750.
rated_in : bytes_in (book_at rated_calls 1)
    ≡ zs1_alone
    ++ 0x00 ∷ 0x00 ∷ 0x03 ∷ 0x00 ∷ replicate 32 0
    ++ 0x7D ∷ 0x00 ∷ 0x10 ∷ 0x27 ∷ 0x00 ∷ 0x00 ∷ 0x00 ∷ 0xDB ∷ 0x01 ∷ 0x00 ∷ 0x00 ∷ 0x00 ∷ 0x00
    ∷ 0x88 ∷ 0x13 ∷ 0x00 ∷ 0x00 ∷ 0x0F ∷ 0x9C ∷ 0x01 ∷ 0x00 ∷ 0x00 ∷ 0x88 ∷ 0x13
    ∷ 0xF6 ∷ 0x09 ∷ 0x00 ∷ 0x00 ∷ 0x00 ∷ 0x7D ∷ 0x01 ∷ 0x00 ∷ 0x00 ∷ 0x2E ∷ 0x22 ∷ []
unfolding bytes_in zs1_named zs1_alone
rated_in = refl

-- ZS1 at the end: Paired, with its go-ahead; K 17,650 and O 1,050 accepted, surplus K 100 returned; order 1 Paid, 2 Faulty and 3 Withdrawn, nothing waiting.
at_the_end : bytes_in (book_at calls 17)
    ≡ zs1_alone
    ++ 0x01 ∷ 0x01 ∷ 0x03 ∷ 0x00 ∷ 0xF2 ∷ 0x44 ∷ replicate 6 0 ++ 0x1A ∷ 0x04 ∷ replicate 6 0 ++ 0x64 ∷ replicate 7 0 ++ replicate 8 0
    ++ 0x00 ∷ 0x00 ∷ 0x10 ∷ 0x27 ∷ 0x00 ∷ 0x00 ∷ 0x02 ∷ flat_fee
    ++ 0x88 ∷ 0x13 ∷ 0x00 ∷ 0x00 ∷ 0x0C ∷ flat_fee
    ++ 0xF6 ∷ 0x09 ∷ 0x00 ∷ 0x00 ∷ 0x08 ∷ flat_fee
unfolding bytes_in zs1_named zs1_alone flat_fee
at_the_end = refl

-- Two shipments: the first body starts behind both entries, at 18, and the second where the first ends, at 117. They have one identifier, as no sound book
-- has: here and in `longest` only places and lengths are looked at.
two_entries : take 18 (bytes_in (book_at calls 1 ++ book_at calls 17))
    ≡ 0x02 ∷ 0x02 ∷ 0x12 ∷ 0x00 ∷ 0x00 ∷ 0x00 ∷ 0x63 ∷ 0x00 ∷ 0x00 ∷ 0x00 ∷ 0x75 ∷ 0x00 ∷ 0x00 ∷ 0x00 ∷ 0x63 ∷ 0x00 ∷ 0x00 ∷ 0x00 ∷ []
unfolding bytes_in
two_entries = refl

-- The most that a book can take, 32 shipments with 2,048 orders between them: 24,898 bytes.
full_shipment : Shipment
full_shipment =
    new_shipment (record { ident = zs1; date = record { 0 = 20201007 }; payment = 0x41; kind = 0 }) (record { flat = fee 350; rate = rate 0 })
    (replicate 64 (record { amount = amount 1; fee = fee 350; remainder = 0; state = Open }))

longest : length (bytes_in (replicate 32 full_shipment)) ≡ 24_898
unfolding bytes_in full_shipment
longest = refl

-- Memory that holds no book is 10, even where no book would fit the output: 10 is asked before 30. Every byte is left.
no_book : map (λ (room : ℕ). answered none (replicate room 7)) (0 ∷ 1 ∷ 109 ∷ []) ≡ map (λ (room : ℕ). leaving (replicate room 7) 10) (0 ∷ 1 ∷ 109 ∷ [])
unfolding answered
no_book = refl

-- A byte too short is 30, and leaves every byte; just long enough will do; and a byte behind stays as it was.
rooms : map (λ (room : ℕ). answered (some (book_at calls 1)) (replicate room 7)) (108 ∷ 109 ∷ 110 ∷ [])
    ≡ leaving (replicate 108 7) 30
    ∷ record { answer = Ok 109; output = zs1_stored }
    ∷ record { answer = Ok 109; output = zs1_stored ++ 7 ∷ [] }
    ∷ []
unfolding answered zs1_named zs1_alone flat_fee zs1_stored
rooms = refl

-- So of the empty book, whose bytes are two.
empty_rooms : map (λ (room : ℕ). answered (some []) (replicate room 7)) (1 ∷ 2 ∷ 3 ∷ [])
    ≡ leaving (7 ∷ []) 30 ∷ record { answer = Ok 2; output = 2 ∷ 0 ∷ [] } ∷ record { answer = Ok 2; output = 2 ∷ 0 ∷ 7 ∷ [] } ∷ []
unfolding answered
empty_rooms = refl
