-- What an answered call moves. Demand 3 reads what was accepted and what left off this definition, and from nowhere else.
use Rattle.std.specs.Prelude.{Bool, true, false, not, ◌&&◌, ℕ, ◌+◌, eqb}
use Rattle.std.proofs.Math.Option.{Option, some, none}
use Rattle.money.specs.declared.Money.{Money}
use Rattle.money.specs.declared.Money.TheVariants.{K, O}
use Rattle.epe.specs.Name.{title_of}
use Rattle.model.specs.Shipment.{by_money, only_if, waits}
use Rattle.model.specs.Calls.{GoAhead, Pair, Close, OnOrder, Return, Call, Intake, Transfer, On}
use Rattle.model.specs.Calls.{Answer, Refused, Done, Accepted, IsPaired, Short, FeeEarned, AmountPaid, Returned}
use Rattle.model.specs.declared.Route.{Route}
use Rattle.model.specs.declared.Route.TheVariants.{Zwr, Opr, Zpr, Zzr}
use Rattle.model.specs.declared.Row.{Row}

-- One money is the other.
abbrev pub is_money : Money → Money → Bool
is_money K money = by_money money true false
is_money O money = by_money money false true

-- What an answered call moves for its shipment: what comes in and what goes out of either money, what of that is surplus and no order's, whether it
-- takes order j's money (counted from 0; by the order before and after), and how many orders it says that it took from.
pub record Moved : Type 0 where
  pub comes_in : Money → ℕ
  pub goes_out : Money → ℕ
  pub surplus : Money → ℕ
  pub takes_from : Money → ℕ → Row → Row → Bool
  pub count : Option ℕ

abbrev no_money : Money → ℕ
no_money money = 0

abbrev no_orders : Money → ℕ → Row → Row → Bool
no_orders money j before after = false

abbrev pub nothing : Moved
nothing = record { comes_in = no_money; goes_out = no_money; surplus = no_money; takes_from = no_orders; count = none }

-- ".. demand 3 counts .. the amounts of the transfer calls answered as done as transfers accepted."
abbrev pub money_in : Money → ℕ → Moved
money_in other n = record { comes_in = λ money. only_if (is_money money other) n; goes_out = no_money; surplus = no_money; takes_from = no_orders; count = none }

-- "An order's K leaves by an accepted pay of it, .. its O by an accepted post of it, ..": order n of the shipment, counted from 1.
abbrev pub fee_earned : ℕ → ℕ → Moved
fee_earned n fee = record {
  comes_in = no_money;
  goes_out = λ money. by_money money 0 fee;
  surplus = no_money;
  takes_from = λ money j before after. by_money money false (eqb n (j + 1));
  count = none;
}

abbrev pub amount_paid : ℕ → ℕ → Moved
amount_paid n amount = record {
  comes_in = no_money;
  goes_out = λ money. by_money money amount 0;
  surplus = no_money;
  takes_from = λ money j before after. by_money money (eqb n (j + 1)) false;
  count = none;
}

-- ".. or by the accepted return .. that ends its wait": what a return sends back is with ZWR the surplus, else the money of the orders whose wait ends.
abbrev pub wait_ends : Money → Row → Row → Bool
wait_ends money before after = waits money before.state && not (waits money after.state)

abbrev pub surplus_of : Route → ℕ → ℕ
surplus_of Zwr n = n
surplus_of Opr n = 0
surplus_of Zpr n = 0
surplus_of Zzr n = 0

abbrev pub sent_back : Route → Money → ℕ → ℕ → Moved
sent_back route other total orders = record {
  comes_in = no_money;
  goes_out = λ money. only_if (is_money money other) total;
  surplus = λ money. surplus_of route (only_if (is_money money other) total);
  takes_from = λ money j before after. is_money money other && wait_ends money before after;
  count = some orders;
}

-- What a call moves that is answered as done; the number of the order that it names, 0 where it names none; what a return moves.
abbrev pub when_done : Call → Moved
when_done (Intake profile name file) = nothing
when_done (Transfer title amount) = money_in (title_of title).money amount
when_done (On ident act) = nothing

abbrev pub order_named : Call → ℕ
order_named (Intake profile name file) = 0
order_named (Transfer title amount) = 0
order_named (On ident GoAhead) = 0
order_named (On ident Pair) = 0
order_named (On ident Close) = 0
order_named (On ident (OnOrder deed number)) = number
order_named (On ident (Return route money)) = 0

abbrev pub when_returned : Call → ℕ → ℕ → Moved
when_returned (Intake profile name file) total orders = nothing
when_returned (Transfer title amount) total orders = nothing
when_returned (On ident GoAhead) total orders = nothing
when_returned (On ident Pair) total orders = nothing
when_returned (On ident Close) total orders = nothing
when_returned (On ident (OnOrder deed number)) total orders = nothing
when_returned (On ident (Return route money)) total orders = sent_back route money total orders

-- "An accepted post answers F, pay the order's amount, a return its sum and count; demand 3 counts these answers as what left .."
abbrev pub moved : Call → Answer → Moved
moved call (Refused number) = nothing
moved call Done = when_done call
moved call (Accepted orders faulty) = nothing
moved call IsPaired = nothing
moved call (Short k o) = nothing
moved call (FeeEarned fee) = fee_earned (order_named call) fee
moved call (AmountPaid amount) = amount_paid (order_named call) amount
moved call (Returned total count) = when_returned call total count
