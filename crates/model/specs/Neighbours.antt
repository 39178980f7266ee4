-- Beside ZS1's table: each refusal that a call on a book can have, and what a Closed shipment and an undelivered order give back.
use Rattle.std.specs.Prelude.{◌≡◌, List, [], ◌∷◌, map}
use Rattle.text.specs.Quoted.{bytes}
use Rattle.money.specs.declared.Money.TheVariants.{K, O}
use Rattle.epe.specs.Ident.{ident_of}
use Rattle.model.specs.Calls.{GoAhead, Pair, Close, OnOrder, Return, Call, Intake, Transfer, On}
use Rattle.model.specs.Calls.{Answer, Refused, Done, Accepted, FeeEarned, Returned}
use Rattle.model.specs.Book.{Book}
use Rattle.model.specs.Demand.{Event, events, book_at}
use Rattle.model.specs.Zs1.{profile, intake, title_k, title_o, zs1, calls as story}
use Rattle.model.specs.declared.Deed.TheVariants.{Post, Pay, MarkUndelivered, Withdraw}
use Rattle.model.specs.declared.Route.TheVariants.{Zwr, Opr, Zpr}

abbrev pub answers_from : Book → List Call → List Answer
answers_from book calls = map (λ (event : Event). event.answer) (events book calls)

abbrev pub again : Call
again = intake "EPEZZS1-201007-A-0" "1|ZUS|EPE|1.0|ZS1|ABC123|20201007120000|20201007|A|0|3|175.50"

-- ZS2 has one order, without fault.
abbrev pub faultless : Call
faultless =
    Intake profile (bytes "EPEZZS2-201007-B-4")
    (0xEF ∷ 0xBB ∷ 0xBF ∷ bytes
    "1|ZUS|EPE|1.0|ZS2|ABC123|20201007120000|20201007|B|4|1|0.01\r\n2|1|0.01|Nowak|Jan|Krakow|30-001|Krakow|Dluga|5||||ZUS/1|09.2020||||")

pub record Neighbours : Type 0 where
  -- before any money: 101, 11 (seven digits in the title), 12 (nothing, and above the cap), 13 (another date, and no such identifier), 18, 19, 24
  pub waiting : answers_from (book_at story 1)
      (again ∷ Transfer (bytes "EPEZZS1-2020107-A-0-K") 1 ∷ Transfer title_k 0 ∷ Transfer title_k 10_000_000_000_000
      ∷ Transfer (bytes "EPEZZS1-201008-A-0-K") 1 ∷ On (ident_of (bytes "ZS9")) Pair
      ∷ On zs1 Pair ∷ On zs1 (OnOrder Post 1) ∷ On zs1 (Return Opr K) ∷ On zs1 (Return Zpr O) ∷ On zs1 (Return Zwr K) ∷ [])
      ≡ Refused 101 ∷ Refused 11 ∷ Refused 12 ∷ Refused 12
      ∷ Refused 13 ∷ Refused 13
      ∷ Refused 18 ∷ Refused 19 ∷ Refused 19 ∷ Refused 19 ∷ Refused 24 ∷ []
  -- the cap is for each money by itself (14); one go-ahead (17); what is Closed waits no more (15), takes money, and gives all of it back
  pub closing : answers_from (book_at story 1)
      (Transfer title_k 9_999_999_999_999 ∷ Transfer title_k 1 ∷ Transfer title_o 1
      ∷ On zs1 GoAhead ∷ On zs1 GoAhead
      ∷ On zs1 Close ∷ On zs1 Close ∷ On zs1 GoAhead ∷ On zs1 Pair ∷ Transfer title_o 2
      ∷ On zs1 (Return Zwr K) ∷ On zs1 (Return Zwr O) ∷ On zs1 (Return Zwr O) ∷ On zs1 (Return Opr K) ∷ [])
      ≡ Done ∷ Refused 14 ∷ Done
      ∷ Done ∷ Refused 17
      ∷ Done ∷ Refused 15 ∷ Refused 15 ∷ Refused 15 ∷ Done
      ∷ Returned 9_999_999_999_999 0 ∷ Returned 3 0 ∷ Refused 23 ∷ Refused 19 ∷ []
  -- no go-ahead without a fault (16)
  pub faultless_file : answers_from [] (faultless ∷ On (ident_of (bytes "ZS2")) GoAhead ∷ []) ≡ Accepted 1 0 ∷ Refused 16 ∷ []
  -- once Paired: 15, 20 (0, and one past the count), 21 (a faulty order, and one not posted), 22, 23
  pub paired : answers_from (book_at story 8)
      (On zs1 Pair ∷ On zs1 Close ∷ On zs1 (OnOrder Post 0) ∷ On zs1 (OnOrder Post 4)
      ∷ On zs1 (OnOrder Post 2) ∷ On zs1 (OnOrder Withdraw 2) ∷ On zs1 (OnOrder Pay 1) ∷ On zs1 (OnOrder MarkUndelivered 1)
      ∷ On zs1 (Return Zpr O) ∷ On zs1 (Return Zpr K) ∷ [])
      ≡ Refused 15 ∷ Refused 15 ∷ Refused 20 ∷ Refused 20
      ∷ Refused 21 ∷ Refused 21 ∷ Refused 21 ∷ Refused 21
      ∷ Refused 22 ∷ Refused 23 ∷ []
  -- an undelivered order gives back its amount, once, and keeps its fee
  pub undelivered : answers_from (book_at story 8)
      (On zs1 (OnOrder Post 1) ∷ On zs1 (OnOrder Withdraw 1) ∷ On zs1 (OnOrder MarkUndelivered 1) ∷ On zs1 (OnOrder Pay 1)
      ∷ On zs1 (Return Zpr K) ∷ On zs1 (Return Zpr K) ∷ On zs1 (Return Zpr O) ∷ [])
      ≡ FeeEarned 350 ∷ Refused 21 ∷ Done ∷ Refused 21 ∷ Returned 10_000 1 ∷ Refused 23 ∷ Refused 22 ∷ []
