-- Document 02, A1: "Long dates in transfer titles." A call with a long title is the call with the short one, in any book and any list.
use Rattle.std.specs.Prelude.{◌≡◌, List, [], ◌∷◌, ℕ, length}
use Rattle.text.specs.Quoted.{bytes}
use Rattle.money.specs.declared.Money.TheVariants.{K, O}
use Rattle.epe.specs.Name.{name_part, long_title}
use Rattle.epe.specs.declared.ident.Ident.{Ident}
use Rattle.model.specs.Shipment.{sum_over}
use Rattle.model.specs.Calls.{Pair, Call, Transfer, On, Answer, Refused, Done, Accepted, IsPaired, GoAhead}
use Rattle.model.specs.Moved.{moved}
use Rattle.model.specs.Book.{Book, step}
use Rattle.model.specs.Demand.{is_for, book_at, events_between, accepted_for, held_in, free_in}
use Rattle.model.specs.Zs1.{title_k, zs1, calls as story}
use Rattle.model.specs.Neighbours.{again, answers_from}

-- ".. `20` and a name's six mean what the six alone would ..": the answer and the book after.
abbrev pub LongIsShort : Type 0
LongIsShort = (title : List ℕ) → length (name_part 2 title) ≡ 6 → (amount : ℕ) (book : Book)
    → step book (Transfer (long_title title) amount) ≡ step book (Transfer title amount)

-- ".. money booked through a long title is counted like any other.": it is for the same shipment, and moves what the short one moves.
abbrev pub LongCounts : Type 0
LongCounts = (title : List ℕ) → length (name_part 2 title) ≡ 6 → (amount : ℕ)
    → ((ident : Ident) → is_for ident (Transfer (long_title title) amount) ≡ is_for ident (Transfer title amount))
    × ((answer : Answer) → moved (Transfer (long_title title) amount) answer ≡ moved (Transfer title amount) answer)

-- ZS1 paid in part through long titles.
abbrev pub long_k : List ℕ
long_k = bytes "EPEZZS1-20201007-A-0-K"

abbrev pub long_o : List ℕ
long_o = bytes "EPEZZS1-20201007-A-0-O"

abbrev pub paid_long : List Call
paid_long = again ∷ Transfer long_k 17_549 ∷ Transfer long_o 1_050 ∷ Transfer title_k 101 ∷ On zs1 GoAhead ∷ On zs1 Pair ∷ []

pub record LongTitles : Type 0 where
  -- long and short titles are for ZS1 alike: what was accepted, is held and is free is as in ZS1's own list, once Paired
  pub answers : answers_from [] paid_long ≡ Accepted 3 1 ∷ Done ∷ Done ∷ Done ∷ Done ∷ IsPaired ∷ []
  pub counted : (sum_over (accepted_for K zs1) (events_between paid_long 0 6) ≡ 17_650) × (sum_over (accepted_for O zs1) (events_between paid_long 0 6) ≡ 1_050)
  pub booked : (held_in K zs1 (book_at paid_long 6) ≡ 17_550) × (free_in K zs1 (book_at paid_long 6) ≡ 100)
      × (held_in O zs1 (book_at paid_long 6) ≡ 1_050) × (free_in O zs1 (book_at paid_long 6) ≡ 0)
  -- a long title of another payment kind, benefit kind or date is the name of no shipment here; another century is no title
  pub others : answers_from (book_at story 1)
      (Transfer (bytes "EPEZZS1-20201007-B-0-K") 1 ∷ Transfer (bytes "EPEZZS1-20201007-A-1-K") 1 ∷ Transfer (bytes "EPEZZS1-20201008-A-0-K") 1
      ∷ Transfer (bytes "EPEZZS1-19201007-A-0-K") 1 ∷ Transfer long_k 0 ∷ [])
      ≡ Refused 13 ∷ Refused 13 ∷ Refused 13 ∷ Refused 11 ∷ Refused 12 ∷ []
