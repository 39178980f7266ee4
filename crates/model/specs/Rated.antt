-- Document 02, A5: "Fees in ten-thousandths of the amount." ZS1's file with a rate, the edges of 906 and 907, and fees of nothing.
use Rattle.std.specs.Prelude.{◌≡◌, List, [], ◌∷◌, map, ℕ}
use Rattle.text.specs.Quoted.{bytes}
use Rattle.money.specs.Money.{fee}
use Rattle.money.specs.declared.Money.TheVariants.{K, O}
use Rattle.fee.specs.Fee.{rate}
use Rattle.epe.specs.declared.profile.Profile.{Profile}
use Rattle.model.specs.Shipment.{need, sum_over}
use Rattle.model.specs.Calls.{GoAhead, Pair, OnOrder, Return, Call, Intake, Transfer, On}
use Rattle.model.specs.Calls.{Answer, Refused, Done, Accepted, IsPaired, Short, FeeEarned, AmountPaid, Returned, waiting_orders}
use Rattle.model.specs.Book.{find, step}
use Rattle.model.specs.Demand.{book_at, events_between, of_shipment, held_in, free_in, left_for, order_by_index}
use Rattle.model.specs.Zs1.{file_behind, title_k, title_o, zs1}
use Rattle.model.specs.Neighbours.{answers_from}
use Rattle.model.specs.declared.Deed.TheVariants.{Post, Pay, Withdraw}
use Rattle.model.specs.declared.Route.TheVariants.{Opr, Zzr}
use Rattle.model.specs.declared.Row.{Row}

-- A profile of some flat parts and rates, by kind; a number for the first kind alone, and for the last.
abbrev pub agreed_on : List ℕ → List ℕ → Profile
agreed_on flat rates = record { today = record { 0 = 20201007 }; flat = map fee flat; fields = 19; rates = map rate rates }

abbrev pub for_first : ℕ → List ℕ
for_first n = n ∷ 0 ∷ 0 ∷ 0 ∷ 0 ∷ []

abbrev pub for_last : ℕ → List ℕ
for_last n = 0 ∷ 0 ∷ 0 ∷ 0 ∷ n ∷ []

-- ZS1's file, which is of the first kind, on a flat part and a rate.
abbrev pub name : List ℕ
name = bytes "EPEZZS1-201007-A-0"

abbrev pub file : List ℕ
file = file_behind "1|ZUS|EPE|1.0|ZS1|ABC123|20201007120000|20201007|A|0|3|175.50"

abbrev pub rated : ℕ → ℕ → Call
rated flat rate = Intake (agreed_on (for_first flat) (for_first rate)) name file

-- ZS2 is of the last kind, and has one order, a faulty one of 100.00.
abbrev pub lone : Profile → Call
lone profile =
    Intake profile (bytes "EPEZZS2-201007-B-4")
    (0xEF ∷ 0xBB ∷ 0xBF ∷ bytes
    "1|ZUS|EPE|1.0|ZS2|ABC123|20201007120000|20201007|B|4|1|100.00\r\n2|1|100.00||Jan|Krakow|30-001|Krakow|Dluga|5||||ZUS/1|09.2020||||")

abbrev pub first_answer : Call → Answer
first_answer call = (step [] call).answer

-- 3.50 and 1.25 per cent.
abbrev pub calls : List Call
calls =
    rated 350 125
    ∷ Transfer title_k 17_550 ∷ Transfer title_o 1_267 ∷ On zs1 GoAhead ∷ On zs1 Pair
    ∷ Transfer title_o 1 ∷ On zs1 Pair
    ∷ On zs1 (OnOrder Post 1) ∷ On zs1 (OnOrder Pay 1)
    ∷ On zs1 (Return Opr K) ∷ On zs1 (Return Opr O)
    ∷ On zs1 (OnOrder Withdraw 3) ∷ On zs1 (Return Zzr K) ∷ On zs1 (Return Zzr O)
    ∷ []

-- What the rows of ZS1 say, the first three, once it is taken in on some terms.
abbrev pub of_rows : (Row → ℕ) → ℕ → ℕ → List ℕ
of_rows f flat rate = map (λ (j : ℕ). f (order_by_index j (find zs1 (book_at (rated flat rate ∷ []) 1)))) (0 ∷ 1 ∷ 2 ∷ [])

abbrev pub fees_on : ℕ → ℕ → List ℕ
fees_on = of_rows (λ (row : Row). row.fee.0)

abbrev pub remainders_on : ℕ → ℕ → List ℕ
remainders_on = of_rows (λ (row : Row). row.remainder)

-- No flat part and the least rate, so that 100.00 costs a grosz, and 50.00 and 25.50 nothing: Paired, orders 1 and 3 withdrawn.
abbrev pub scant : List Call
scant =
    rated 0 1
    ∷ Transfer title_k 17_550 ∷ Transfer title_o 1 ∷ On zs1 GoAhead ∷ On zs1 Pair
    ∷ On zs1 (OnOrder Withdraw 1) ∷ On zs1 (OnOrder Withdraw 3)
    ∷ On zs1 (Return Zzr O) ∷ On zs1 (Return Zzr O) ∷ On zs1 (Return Opr O)
    ∷ []

-- No fee at all: Paired without O, order 3 withdrawn.
abbrev pub gratis : List Call
gratis =
    rated 0 0
    ∷ Transfer title_k 17_550 ∷ On zs1 GoAhead ∷ On zs1 Pair
    ∷ On zs1 (OnOrder Post 1) ∷ On zs1 (OnOrder Withdraw 3)
    ∷ On zs1 (Return Zzr O) ∷ On zs1 (Return Zzr K) ∷ On zs1 (Return Zzr O)
    ∷ []

pub record Rated : Type 0 where
  -- "An order's fee is the flat part plus the whole part of amount times rate over 10,000, and the division's remainder is given beside it."
  pub charged : (fees_on 350 125 ≡ 475 ∷ 412 ∷ 381 ∷ []) × (remainders_on 350 125 ≡ 0 ∷ 5_000 ∷ 8_750 ∷ [])
  -- ".. and the need in O is the sum of fees ..": not what the sum of the amounts would come to, 1,269.
  pub needs : (of_shipment (need K) (find zs1 (book_at calls 1)) ≡ 17_550) × (of_shipment (need O) (find zs1 (book_at calls 1)) ≡ 1_268)
  -- O a grosz short, then Paired with nothing free
  pub pairing : answers_from [] calls
      ≡ Accepted 3 1
      ∷ Done ∷ Done ∷ Done ∷ Short 0 1
      ∷ Done ∷ IsPaired
      ∷ FeeEarned 475 ∷ AmountPaid 10_000
      ∷ Returned 5_000 1 ∷ Returned 412 1
      ∷ Done ∷ Returned 2_550 1 ∷ Returned 381 1
      ∷ []
  pub paired : (held_in O zs1 (book_at calls 7) ≡ 1_268) × (free_in O zs1 (book_at calls 7) ≡ 0)
  -- "Earned and returned fees are each order's own from here on, ..": what an order holds leaves with it, and in the end all has left
  pub leaving : (map (λ (p : ℕ). held_in O zs1 (book_at calls p)) (8 ∷ 11 ∷ 14 ∷ []) ≡ 793 ∷ 381 ∷ 0 ∷ [])
      × (sum_over (left_for O zs1) (events_between calls 0 14) ≡ 1_268) × (sum_over (left_for K zs1) (events_between calls 0 14) ≡ 17_550)
  -- "907 when any of the profile's rates is above 10,000, asked after 905": the rate's cap; a kind that the file is not of; an empty file, which
  -- is 001 behind it; and a flat part out of range too
  pub rates : map first_answer
      (rated 0 10_000 ∷ rated 0 10_001
      ∷ Intake (agreed_on (for_first 350) (for_last 10_001)) name file
      ∷ Intake (agreed_on (for_first 350) (for_last 10_000)) name []
      ∷ Intake (agreed_on (for_first 350) (for_last 10_001)) name []
      ∷ rated 1_000_000_000 10_001
      ∷ [])
      ≡ Accepted 3 1 ∷ Refused 907 ∷ Refused 907 ∷ Refused 1 ∷ Refused 907 ∷ Refused 905 ∷ []
  -- the whole amount is a fee, with nothing left beside it
  pub whole_amount : (fees_on 0 10_000 ≡ 10_000 ∷ 5_000 ∷ 2_550 ∷ []) × (remainders_on 0 10_000 ≡ 0 ∷ 0 ∷ 0 ∷ [])
  -- "906 when an order's fee exceeds 999,999,999, asked after 132.": the largest fee, of 100.00, at the cap and above it; with a sum of 175.51 it
  -- is 132; and a faulty order is asked too
  pub fees : map first_answer
      (rated 999_999_874 125 ∷ rated 999_999_875 125
      ∷ Intake (agreed_on (for_first 999_999_875) (for_first 125)) name
      (file_behind "1|ZUS|EPE|1.0|ZS1|ABC123|20201007120000|20201007|A|0|3|175.51")
      ∷ lone (agreed_on (for_last 999_999_874) (for_last 125)) ∷ lone (agreed_on (for_last 999_999_875) (for_last 125))
      ∷ [])
      ≡ Accepted 3 1 ∷ Refused 906 ∷ Refused 132 ∷ Accepted 1 1 ∷ Refused 906 ∷ []
  pub at_the_cap : fees_on 999_999_874 125 ≡ 999_999_999 ∷ 999_999_936 ∷ 999_999_905 ∷ []
  -- by the file's kind: another's flat part and rate are not its own
  pub by_kind : map first_answer (lone (agreed_on (for_first 999_999_999) (for_first 10_000)) ∷ []) ≡ Accepted 1 1 ∷ []
  -- a return of O with a fee of nothing among others: both orders are counted and nothing of O waits there after (23). The faulty order's fee is
  -- nothing by itself: 23, and it waits on.
  pub scantily : (fees_on 0 1 ≡ 1 ∷ 0 ∷ 0 ∷ [])
      × (answers_from [] scant
      ≡ Accepted 3 1
      ∷ Done ∷ Done ∷ Done ∷ IsPaired
      ∷ Done ∷ Done
      ∷ Returned 1 2 ∷ Refused 23 ∷ Refused 23
      ∷ [])
      × (map (λ (p : ℕ). of_shipment (waiting_orders Zzr O) (find zs1 (book_at scant p))) (7 ∷ 8 ∷ []) ≡ 2 ∷ 0 ∷ [])
      × (map (λ (p : ℕ). of_shipment (waiting_orders Opr O) (find zs1 (book_at scant p))) (9 ∷ 10 ∷ []) ≡ 1 ∷ 1 ∷ [])
  -- and where all fees are nothing: a post earns it, a return of O is 23, and the wait stays, whatever of K returns
  pub free_of_charge : (answers_from [] gratis
      ≡ Accepted 3 1
      ∷ Done ∷ Done ∷ IsPaired
      ∷ FeeEarned 0 ∷ Done
      ∷ Refused 23 ∷ Returned 2_550 1 ∷ Refused 23
      ∷ [])
      × (map (λ (p : ℕ). of_shipment (waiting_orders Zzr O) (find zs1 (book_at gratis p))) (6 ∷ 7 ∷ 9 ∷ []) ≡ 1 ∷ 1 ∷ 1 ∷ [])
