-- The calls and their answers, and what a call does to the shipment that it is for. Document 01, "The book".
use Rattle.std.specs.Prelude.{Bool, true, false, not, cond, ◌&&◌, ◌||◌, List, [], ◌∷◌, map, ℕ, ◌+◌, ◌-◌, leb, ltb, length, get_or, set}
use Rattle.text.specs.Bytes.{between}
use Rattle.money.specs.Money.{is_sum}
use Rattle.money.specs.declared.Money.{Money}
use Rattle.money.specs.declared.Money.TheVariants.{K, O}
use Rattle.epe.specs.Questions.{◌else_no◌, asked}
use Rattle.epe.specs.declared.ident.Ident.{Ident}
use Rattle.epe.specs.declared.profile.Profile.{Profile}
use Rattle.model.specs.Shipment.{by_money, plus_in, Shipment, accepted, is_waiting, is_paired, only_if, sum_over, is_open, is_posted, is_faulty, is_undelivered, is_withdrawn}
use Rattle.model.specs.Shipment.{waits, worth, need, free, any_faulty}
use Rattle.model.specs.declared.Deed.{Deed}
use Rattle.model.specs.declared.Deed.TheVariants.{Post, Pay, MarkUndelivered, Withdraw}
use Rattle.model.specs.declared.Route.{Route}
use Rattle.model.specs.declared.Route.TheVariants.{Zwr, Opr, Zpr, Zzr}
use Rattle.model.specs.declared.Row.{Row}
use Rattle.model.specs.declared.Stage.{Stage}
use Rattle.model.specs.declared.Stage.TheVariants.{Paired, Closed}
use Rattle.model.specs.declared.State.{State}
use Rattle.model.specs.declared.State.TheVariants.{Open, Posted, Paid, Faulty, Undelivered, Withdrawn}

-- What is done with a shipment that an identifier names.
pub data Act : Type 0 where
  GoAhead Pair Close : Act
  OnOrder : Deed → ℕ → Act
  Return : Route → Money → Act

-- A call is exactly what a caller passes.
pub data Call : Type 0 where
  Intake : Profile → List ℕ → List ℕ → Call
  Transfer : List ℕ → ℕ → Call
  On : Ident → Act → Call

-- "An accepted post answers F, pay the order's amount, a return its sum and count; .. Pair answers as said below, the others only that they were
-- done."
pub data Answer : Type 0 where
  Refused : ℕ → Answer
  Done : Answer
  Accepted : ℕ → ℕ → Answer
  IsPaired : Answer
  Short : ℕ → ℕ → Answer
  FeeEarned : ℕ → Answer
  AmountPaid : ℕ → Answer
  Returned : ℕ → ℕ → Answer

abbrev pub is_refusal : Answer → Bool
is_refusal (Refused n) = true
is_refusal Done = false
is_refusal (Accepted orders faulty) = false
is_refusal IsPaired = false
is_refusal (Short k o) = false
is_refusal (FeeEarned fee) = false
is_refusal (AmountPaid amount) = false
is_refusal (Returned total count) = false

-- A refusal leaves all as it was, and "Short changes nothing".
abbrev pub changes_nothing : Answer → Bool
changes_nothing (Refused n) = true
changes_nothing Done = false
changes_nothing (Accepted orders faulty) = false
changes_nothing IsPaired = false
changes_nothing (Short k o) = true
changes_nothing (FeeEarned fee) = false
changes_nothing (AmountPaid amount) = false
changes_nothing (Returned total count) = false

-- What a call leaves of its shipment, and its answer.
pub record Outcome : Type 0 where
  pub shipment : Shipment
  pub answer : Answer

abbrev pub leave : Answer → Shipment → Outcome
leave answer s = record { shipment = s; answer = answer }

-- A question answered no: its number is the answer, and the shipment is as it was.
abbrev pub refusing : Shipment → ℕ → Outcome
refusing s number = leave (Refused number) s

-- A shipment with one thing changed.
abbrev pub with_stage : Stage → Shipment → Shipment
with_stage stage s = record {
  agreed = s.agreed;
  stage = stage;
  go_ahead = s.go_ahead;
  accepted_sums = s.accepted_sums;
  returned_sums = s.returned_sums;
  rows = s.rows;
}

abbrev pub with_go_ahead : Shipment → Shipment
with_go_ahead s = record {
  agreed = s.agreed;
  stage = s.stage;
  go_ahead = true;
  accepted_sums = s.accepted_sums;
  returned_sums = s.returned_sums;
  rows = s.rows;
}

abbrev pub with_accepted : Money → ℕ → Shipment → Shipment
with_accepted money n s = record {
  agreed = s.agreed;
  stage = s.stage;
  go_ahead = s.go_ahead;
  accepted_sums = plus_in money n s.accepted_sums;
  returned_sums = s.returned_sums;
  rows = s.rows;
}

abbrev pub with_returned : Money → ℕ → Shipment → Shipment
with_returned money n s = record {
  agreed = s.agreed;
  stage = s.stage;
  go_ahead = s.go_ahead;
  accepted_sums = s.accepted_sums;
  returned_sums = plus_in money n s.returned_sums;
  rows = s.rows;
}

abbrev pub with_rows : List Row → Shipment → Shipment
with_rows rows s = record {
  agreed = s.agreed;
  stage = s.stage;
  go_ahead = s.go_ahead;
  accepted_sums = s.accepted_sums;
  returned_sums = s.returned_sums;
  rows = rows;
}

abbrev pub with_state : State → Row → Row
with_state state row = record { amount = row.amount; fee = row.fee; remainder = row.remainder; state = state }

-- ".. Total accepted for that money still at most 9,999,999,999,999? 14. Any stage takes it."
unfoldable pub transferred : Money → ℕ → Shipment → Outcome
transferred money n s = asked ((is_sum (accepted money s + n) else_no 14) ∷ []) (refusing s) (leave Done (with_accepted money n s))

-- "Go-ahead: .. Waiting? 15. Any faulty order? 16. None came before? 17."
unfoldable pub gone_ahead : Shipment → Outcome
gone_ahead s =
    asked ((is_waiting s.stage else_no 15) ∷ (any_faulty s.rows else_no 16) ∷ (not s.go_ahead else_no 17) ∷ []) (refusing s)
    (leave Done (with_go_ahead s))

-- ".. Paired when both needs are covered; ..", else what is missing of either money.
abbrev pub needs_covered : Shipment → Bool
needs_covered s = leb (need K s) (accepted K s) && leb (need O s) (accepted O s)

abbrev pub missing : Money → Shipment → ℕ
missing money s = need money s - accepted money s

-- "Pair: .. 15. No faults, or go-ahead given? 18. Pairing answers Paired, or Short with the two missing amounts, or a refusal. Paired when both needs
-- are covered; Short changes nothing."
unfoldable pub paired : Shipment → Outcome
paired s =
    asked ((is_waiting s.stage else_no 15) ∷ (not (any_faulty s.rows) || s.go_ahead else_no 18) ∷ []) (refusing s)
    (cond (needs_covered s) (leave IsPaired (with_stage Paired s)) (leave (Short (missing K s) (missing O s)) s))

-- "Close (WYC or ODR): .. 15. Waiting becomes Closed."
unfoldable pub closed : Shipment → Outcome
closed s = asked ((is_waiting s.stage else_no 15) ∷ []) (refusing s) (leave Done (with_stage Closed s))

-- ".. Post: Open to Posted, F earned. Pay: Posted to Paid. Undelivered: Posted to Undelivered, K waiting. Withdraw: Open to Withdrawn, both waiting."
abbrev pub fits : Deed → State → Bool
fits Post state = is_open state
fits Pay state = is_posted state
fits MarkUndelivered state = is_posted state
fits Withdraw state = is_open state

abbrev pub becomes : Deed → State
becomes Post = Posted
becomes Pay = Paid
becomes MarkUndelivered = Undelivered true
becomes Withdraw = Withdrawn true true

abbrev pub says : Deed → Row → Answer
says Post row = FeeEarned (worth O row)
says Pay row = AmountPaid (worth K row)
says MarkUndelivered row = Done
says Withdraw row = Done

-- Order n of a shipment, counted from 1.
abbrev pub no_order : Row
no_order = record { amount = record { 0 = 0 }; fee = record { 0 = 0 }; remainder = 0; state = Paid }

abbrev pub order_at : ℕ → Shipment → Row
order_at number s = get_or s.rows (number - 1) no_order

-- "Post, pay, mark undelivered, withdraw one: .. Paired? 19. Order number from 1 to the count? 20. State fits? 21. .."
unfoldable pub on_order : Deed → ℕ → Shipment → Outcome
on_order deed number s =
    asked
    ((is_paired s.stage else_no 19)
    ∷ (between 1 (length s.rows) number else_no 20)
    ∷ (fits deed (order_at number s).state else_no 21)
    ∷ []) (refusing s)
    (leave (says deed (order_at number s)) (with_rows (set s.rows (number - 1) (with_state (becomes deed) (order_at number s))) s))

-- "OPR, ZPR, ZZR return all that waits in Faulty, Undelivered, Withdrawn orders, ..": whether a money of an order waits on a route.
abbrev pub takes : Route → State → Bool
takes Zwr state = false
takes Opr state = is_faulty state
takes Zpr state = is_undelivered state
takes Zzr state = is_withdrawn state

abbrev pub waits_on : Route → Money → Row → Bool
waits_on route money row = takes route row.state && waits money row.state

-- ".. and nothing of that money waits there after."
abbrev pub cleared : Money → State → State
cleared money Open = Open
cleared money Posted = Posted
cleared money Paid = Paid
cleared money (Faulty fault k o) = Faulty fault (by_money money false k) (by_money money o false)
cleared money (Undelivered k) = Undelivered (by_money money false k)
cleared money (Withdrawn k o) = Withdrawn (by_money money false k) (by_money money o false)

abbrev pub after_return : Route → Money → Row → Row
after_return route money row = cond (waits_on route money row) (with_state (cleared money row.state) row) row

-- What waits on a route, and in how many orders.
unfoldable pub waiting : Route → Money → Shipment → ℕ
waiting route money s = sum_over (λ (row : Row). only_if (waits_on route money row) (worth money row)) s.rows

unfoldable pub waiting_orders : Route → Money → Shipment → ℕ
waiting_orders route money s = sum_over (λ (row : Row). only_if (waits_on route money row) 1) s.rows

abbrev pub is_zpr_with_o : Route → Money → Bool
is_zpr_with_o Zwr money = false
is_zpr_with_o Opr money = false
is_zpr_with_o Zpr money = by_money money false true
is_zpr_with_o Zzr money = false

-- ".. For the rest: Paired? 19. Not ZPR with O? 22. Anything above zero to return? 23. .."
unfoldable pub returned_by : Route → Money → Shipment → Outcome
returned_by route money s =
    asked
    ((is_paired s.stage else_no 19)
    ∷ (not (is_zpr_with_o route money) else_no 22)
    ∷ (ltb 0 (waiting route money s) else_no 23)
    ∷ []) (refusing s)
    (leave (Returned (waiting route money s) (waiting_orders route money s)) (with_rows (map (after_return route money) s.rows) s))

-- ".. For ZWR: not Waiting? 24. .. Anything above zero to return? 23. ZWR returns the free money, count 0."
unfoldable pub surplus_returned : Money → Shipment → Outcome
surplus_returned money s =
    asked ((not (is_waiting s.stage) else_no 24) ∷ (ltb 0 (free money s) else_no 23) ∷ []) (refusing s)
    (leave (Returned (free money s) 0) (with_returned money (free money s) s))

-- What a call does to the shipment that it names.
unfoldable pub acted : Act → Shipment → Outcome
acted GoAhead s = gone_ahead s
acted Pair s = paired s
acted Close s = closed s
acted (OnOrder deed number) s = on_order deed number s
acted (Return Zwr money) s = surplus_returned money s
acted (Return Opr money) s = returned_by Opr money s
acted (Return Zpr money) s = returned_by Zpr money s
acted (Return Zzr money) s = returned_by Zzr money s
