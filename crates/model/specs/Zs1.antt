-- Document 01, "Shipment ZS1 and its neighbours": "Proved as one table, by one fact, over the definitions."
use Rattle.std.specs.Prelude.{◌≡◌, List, [], ◌∷◌, ◌++◌, map, ℕ, Some, None}
use Prim.Native.String.{String}
use Rattle.text.specs.Quoted.{bytes}
use Rattle.money.specs.Money.{fee}
use Rattle.fee.specs.Fee.{rate}
use Rattle.money.specs.Text.{order_text}
use Rattle.money.specs.declared.Money.{Money}
use Rattle.money.specs.declared.Money.TheVariants.{K, O}
use Rattle.epe.specs.Ident.{ident_of}
use Rattle.epe.specs.declared.ident.Ident.{Ident}
use Rattle.epe.specs.declared.profile.Profile.{Profile}
use Rattle.model.specs.Shipment.{need, sum_over}
use Rattle.model.specs.Calls.{GoAhead, Pair, OnOrder, Return, Call, Intake, Transfer, On}
use Rattle.model.specs.Calls.{Answer, Refused, Done, Accepted, IsPaired, Short, FeeEarned, AmountPaid, Returned}
use Rattle.model.specs.Book.{find, step}
use Rattle.model.specs.Demand.{Event, book_at, events_between, of_shipment, held_in, free_in, left_for}
use Rattle.model.specs.declared.Deed.TheVariants.{Post, Pay, Withdraw}
use Rattle.model.specs.declared.Route.TheVariants.{Zwr, Opr, Zzr}

-- "ZS1: orders 100.00, 50.00 (no surname), 25.50; F 350; ..", behind a header: the bytes of its file.
abbrev ended : List String → List ℕ
ended [] = []
ended (line ∷ lines) = bytes line ++ (0x0D ∷ 0x0A ∷ ended lines)

abbrev pub file_behind : String → List ℕ
file_behind header =
    0xEF ∷ 0xBB ∷ 0xBF ∷ ended
    (header
    ∷ "2|1|100.00|Kowalski|Jan|Krakow|30-001|Krakow|Dluga|5||||ZUS/1|09.2020||||"
    ∷ "2|2|50.00||Anna|Krakow|30-002|Krakow|Krotka|7||||ZUS/2|09.2020||||"
    ∷ "2|3|25.50|Nowak|Piotr|Krakow|30-003|||||SP_12||ZUS/3|09.2020||||"
    ∷ [])

abbrev pub profile : Profile
profile = record { today = record { 0 = 20201007 }; flat = map fee (350 ∷ 350 ∷ 350 ∷ 350 ∷ 350 ∷ []); fields = 19; rates = map rate (0 ∷ 0 ∷ 0 ∷ 0 ∷ 0 ∷ []) }

abbrev pub intake : String → String → Call
intake name header = Intake profile (bytes name) (file_behind header)

abbrev pub title_k : List ℕ
title_k = bytes "EPEZZS1-201007-A-0-K"

abbrev pub title_o : List ℕ
title_o = bytes "EPEZZS1-201007-A-0-O"

unfoldable pub zs1 : Ident
zs1 = ident_of (bytes "ZS1")

abbrev pub calls : List Call
calls =
    intake "EPEZZS1-201007-A-0" "1|ZUS|EPE|1.0|ZS1|ABC123|20201007120000|20201007|A|0|3|175.50"
    ∷ Transfer title_k 17_549 ∷ Transfer title_o 1_050 ∷ On zs1 Pair
    ∷ On zs1 GoAhead ∷ On zs1 Pair
    ∷ Transfer title_k 101 ∷ On zs1 Pair
    ∷ On zs1 (Return Zwr K) ∷ On zs1 (Return Zwr K)
    ∷ On zs1 (Return Opr K) ∷ On zs1 (Return Opr O)
    ∷ On zs1 (OnOrder Post 1) ∷ On zs1 (OnOrder Pay 1)
    ∷ On zs1 (OnOrder Withdraw 3) ∷ On zs1 (Return Zzr K) ∷ On zs1 (Return Zzr O)
    ∷ []

-- The answers to n calls from point p on, and what the shipment comes to at a point.
abbrev pub answers : ℕ → ℕ → List Answer
answers p n = map (λ (event : Event). event.answer) (events_between calls p n)

abbrev pub left_so_far : Money → ℕ → ℕ
left_so_far money p = sum_over (left_for money zs1) (events_between calls 0 p)

-- An intake into an empty book, as an answer.
abbrev pub first_answer : String → String → Answer
first_answer name header = (step [] (intake name header)).answer

pub record Table : Type 0 where
  -- ".. needs 17,550 and 1,050."
  pub needs : (of_shipment (need K) (find zs1 (book_at calls 1)) ≡ 17_550) × (of_shipment (need O) (find zs1 (book_at calls 1)) ≡ 1_050)
  pub line_0 : answers 0 1 ≡ Accepted 3 1 ∷ []
  -- "1. K 17,549 and O 1,050 in; pair: 18."
  pub line_1 : answers 1 3 ≡ Done ∷ Done ∷ Refused 18 ∷ []
  -- "2. Go-ahead, pair: Short 1 and 0."
  pub line_2 : answers 4 2 ≡ Done ∷ Short 1 0 ∷ []
  -- "3. K 101 in; pair: Paired, free 100 and 0."
  pub line_3 : (answers 6 2 ≡ Done ∷ IsPaired ∷ []) × (free_in K zs1 (book_at calls 8) ≡ 100) × (free_in O zs1 (book_at calls 8) ≡ 0)
  -- "4. ZWR K: 100; again: 23."
  pub line_4 : answers 8 2 ≡ Returned 100 0 ∷ Refused 23 ∷ []
  -- "5. OPR K: 5,000, 1 order; OPR O: 350."
  pub line_5 : answers 10 2 ≡ Returned 5_000 1 ∷ Returned 350 1 ∷ []
  -- "6. Post and pay 1: O 350 and K 10,000 left."
  pub line_6 : answers 12 2 ≡ FeeEarned 350 ∷ AmountPaid 10_000 ∷ []
  -- "7. Withdraw 3; ZZR K 2,550, O 350."
  pub line_7 : answers 14 3 ≡ Done ∷ Returned 2_550 1 ∷ Returned 350 1 ∷ []
  -- "8. Then K left 17,650, O left 1,050, nothing held or free."
  pub line_8 : (left_so_far K 17 ≡ 17_650) × (left_so_far O 17 ≡ 1_050)
      × (held_in K zs1 (book_at calls 17) ≡ 0) × (held_in O zs1 (book_at calls 17) ≡ 0)
      × (free_in K zs1 (book_at calls 17) ≡ 0) × (free_in O zs1 (book_at calls 17) ≡ 0)
  -- "9. `9999999.99` reads 999,999,999; `0.01` reads 1. 10. `1.5` is no amount."
  pub lines_9_and_10 : map (λ (text : String). order_text (bytes text)) ("9999999.99" ∷ "0.01" ∷ "1.5" ∷ [])
      ≡ Some (record { 0 = 999_999_999 }) ∷ Some (record { 0 = 1 }) ∷ None ∷ []
  -- "11. Today 20201007: created on 20200808 or 20201017 passes, 20200807 or 20201018 is 103."
  pub line_11 : map (first_answer "EPEZZS1-201007-A-0")
      ("1|ZUS|EPE|1.0|ZS1|ABC123|20200808000000|20201007|A|0|3|175.50"
      ∷ "1|ZUS|EPE|1.0|ZS1|ABC123|20201017235959|20201007|A|0|3|175.50"
      ∷ "1|ZUS|EPE|1.0|ZS1|ABC123|20200807235959|20201007|A|0|3|175.50"
      ∷ "1|ZUS|EPE|1.0|ZS1|ABC123|20201018000000|20201007|A|0|3|175.50"
      ∷ [])
      ≡ Accepted 3 1 ∷ Accepted 3 1 ∷ Refused 103 ∷ Refused 103 ∷ []
  -- "12. Benefit date 20200907 or 20201106 passes, 20200906 is 125." And so is 20201107.
  pub line_12 :
      first_answer "EPEZZS1-200907-A-0" "1|ZUS|EPE|1.0|ZS1|ABC123|20201007120000|20200907|A|0|3|175.50"
      ∷ first_answer "EPEZZS1-201106-A-0" "1|ZUS|EPE|1.0|ZS1|ABC123|20201007120000|20201106|A|0|3|175.50"
      ∷ first_answer "EPEZZS1-200906-A-0" "1|ZUS|EPE|1.0|ZS1|ABC123|20201007120000|20200906|A|0|3|175.50"
      ∷ first_answer "EPEZZS1-201107-A-0" "1|ZUS|EPE|1.0|ZS1|ABC123|20201007120000|20201107|A|0|3|175.50"
      ∷ []
      ≡ Accepted 3 1 ∷ Accepted 3 1 ∷ Refused 125 ∷ Refused 125 ∷ []
