-- A shipment's head in memory: where each field lies and what it says, and the shipment that a head and its orders' rows are.
use Rattle.std.specs.Prelude.{List, Bool, cond, ◌&&◌, ℕ, eqb, leb, get_or, take}
use Rattle.money.specs.Money.{fee}
use Rattle.money.specs.declared.Money.{Money}
use Rattle.money.specs.declared.Money.TheVariants.{K, O}
use Rattle.fee.specs.Fee.{rate}
use Rattle.fee.specs.declared.Terms.{Terms}
use Rattle.epe.specs.declared.name.Name.{Name}
use Rattle.model.specs.Shipment.{Agreed, PerMoney, Shipment}
use Rattle.model.specs.declared.Row.{Row}
use Rattle.model.specs.declared.Stage.{Stage}
use Rattle.model.specs.declared.Stage.TheVariants.{Waiting, Paired, Closed}
use Rattle.memory.specs.Number.{number_at}

-- Its name parts: the identifier with its length, the date, A or B, the kind.
abbrev pub name_in : List ℕ → Name
name_in head = record {
  ident = record { bytes = take 17 head; len = get_or head 17 0 };
  date = record { 0 = number_at 4 head 18 };
  payment = get_or head 22 0;
  kind = get_or head 23 0;
}

-- The flat part and the rate.
abbrev pub terms_in : List ℕ → Terms
terms_in head = record { flat = fee (number_at 4 head 24); rate = rate (number_at 2 head 64) }

-- The stage: 0 Waiting, 1 Paired, 2 Closed.
unfoldable pub stage_of : ℕ → Stage
stage_of byte = cond (eqb byte 0) Waiting (cond (eqb byte 1) Paired Closed)

abbrev pub stage_at : ℕ
stage_at = 28

abbrev pub stage_in : List ℕ → Stage
stage_in head = stage_of (get_or head stage_at 0)

-- Whether a go-ahead came: 0 none, 1 one.
abbrev pub go_ahead_at : ℕ
go_ahead_at = 29

abbrev pub go_ahead_in : List ℕ → Bool
go_ahead_in head = eqb (get_or head go_ahead_at 0) 1

-- A stage byte above 2 or a go-ahead byte above 1 is in no form.
abbrev pub flags_in_form : List ℕ → Bool
flags_in_form head = leb (get_or head stage_at 0) 2 && leb (get_or head go_ahead_at 0) 1

-- How many orders it has.
abbrev pub order_count_in : List ℕ → ℕ
order_count_in head = number_at 2 head 30

-- Transfers accepted, of either money.
abbrev pub accepted_at : Money → ℕ
accepted_at K = 32
accepted_at O = 40

abbrev pub transfers_in : Money → List ℕ → ℕ
transfers_in money head = number_at 8 head (accepted_at money)

-- Surplus returned, of either money.
abbrev pub returned_at : Money → ℕ
returned_at K = 48
returned_at O = 56

abbrev pub surplus_in : Money → List ℕ → ℕ
surplus_in money head = number_at 8 head (returned_at money)

-- The shipment of a head and its orders.
abbrev pub agreed_in : List ℕ → Agreed
agreed_in head = record { name = name_in head; terms = terms_in head }

abbrev pub sums_in : (Money → ℕ) → List ℕ → PerMoney
sums_in at head = record { k = number_at 8 head (at K); o = number_at 8 head (at O) }

unfoldable pub shipment_in : List ℕ → List Row → Shipment
shipment_in head rows = record {
  agreed = agreed_in head;
  stage = stage_in head;
  go_ahead = go_ahead_in head;
  accepted_sums = sums_in accepted_at head;
  returned_sums = sums_in returned_at head;
  rows = rows;
}
