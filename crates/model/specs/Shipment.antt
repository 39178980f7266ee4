-- A shipment and its orders, and what they come to in either money. Document 01, "The book".
use Rattle.std.specs.Prelude.{Bool, true, false, ◌||◌, List, [], ◌∷◌, ℕ, ◌+◌, ◌-◌}
use Rattle.money.specs.declared.Money.{Money}
use Rattle.money.specs.declared.Money.TheVariants.{K, O}
use Rattle.fee.specs.declared.Terms.{Terms}
use Rattle.epe.specs.declared.name.Name.{Name}
use Rattle.model.specs.declared.Row.{Row}
use Rattle.model.specs.declared.Stage.{Stage}
use Rattle.model.specs.declared.Stage.TheVariants.{Waiting, Paired, Closed}
use Rattle.model.specs.declared.State.{State}
use Rattle.model.specs.declared.State.TheVariants.{Open, Posted, Paid, Faulty, Undelivered, Withdrawn}

-- "Lent memory with up to 32 shipments in order of intake.", "Its orders fit with those present in 2,048 rows?"
abbrev pub most_shipments : ℕ
most_shipments = 32

abbrev pub most_rows : ℕ
most_rows = 2_048

-- What is meant for K, or for O.
abbrev pub by_money {ℓ} : {A : Type ℓ} → Money → A → A → A
by_money K k o = k
by_money O k o = o

-- ".. its name parts, fee F (the profile's for its kind) ..": what intake fixes. "Shipments keep flat part and rate .." (document 02, A5).
pub record Agreed : Type 0 where
  pub name : Name
  pub terms : Terms

-- A sum of K, and one of O.
pub record PerMoney : Type 0 where
  pub k : ℕ
  pub o : ℕ

abbrev pub in_money : Money → PerMoney → ℕ
in_money money sums = by_money money sums.k sums.o

abbrev pub no_sums : PerMoney
no_sums = record { k = 0; o = 0 }

-- n more of a money.
abbrev pub plus_in : Money → ℕ → PerMoney → PerMoney
plus_in money n sums = record { k = sums.k + by_money money n 0; o = sums.o + by_money money 0 n }

-- "A shipment has its name parts, fee F (the profile's for its kind), stage Waiting, Paired or Closed, whether a go-ahead (OBS) came,
-- transfers accepted per money, and surplus returned per money." And its orders, in the order of the file.
pub record Shipment : Type 0 where
  pub agreed : Agreed
  pub stage : Stage
  pub go_ahead : Bool
  pub accepted_sums : PerMoney
  pub returned_sums : PerMoney
  pub rows : List Row

abbrev pub accepted : Money → Shipment → ℕ
accepted money s = in_money money s.accepted_sums

abbrev pub returned : Money → Shipment → ℕ
returned money s = in_money money s.returned_sums

abbrev pub is_waiting : Stage → Bool
is_waiting Waiting = true
is_waiting Paired = false
is_waiting Closed = false

abbrev pub is_paired : Stage → Bool
is_paired Waiting = false
is_paired Paired = true
is_paired Closed = false

-- n where a test holds, else nothing; and a sum over a list.
abbrev pub only_if : Bool → ℕ → ℕ
only_if true n = n
only_if false n = 0

abbrev pub sum_over {ℓ} : {A : Type ℓ} → (A → ℕ) → List A → ℕ
sum_over f [] = 0
sum_over f (a ∷ l) = f a + sum_over f l

-- The states, each by itself.
abbrev pub is_open : State → Bool
is_open Open = true
is_open Posted = false
is_open Paid = false
is_open (Faulty fault k o) = false
is_open (Undelivered k) = false
is_open (Withdrawn k o) = false

abbrev pub is_posted : State → Bool
is_posted Open = false
is_posted Posted = true
is_posted Paid = false
is_posted (Faulty fault k o) = false
is_posted (Undelivered k) = false
is_posted (Withdrawn k o) = false

abbrev pub is_faulty : State → Bool
is_faulty Open = false
is_faulty Posted = false
is_faulty Paid = false
is_faulty (Faulty fault k o) = true
is_faulty (Undelivered k) = false
is_faulty (Withdrawn k o) = false

abbrev pub is_undelivered : State → Bool
is_undelivered Open = false
is_undelivered Posted = false
is_undelivered Paid = false
is_undelivered (Faulty fault k o) = false
is_undelivered (Undelivered k) = true
is_undelivered (Withdrawn k o) = false

abbrev pub is_withdrawn : State → Bool
is_withdrawn Open = false
is_withdrawn Posted = false
is_withdrawn Paid = false
is_withdrawn (Faulty fault k o) = false
is_withdrawn (Undelivered k) = false
is_withdrawn (Withdrawn k o) = true

-- Whether a money of the order still waits to be returned.
abbrev pub waits : Money → State → Bool
waits money Open = false
waits money Posted = false
waits money Paid = false
waits money (Faulty fault k o) = by_money money k o
waits money (Undelivered k) = by_money money k false
waits money (Withdrawn k o) = by_money money k o

-- What an order is worth: its amount in K, and in O its fee. ".. fees are each order's own from here on, .." (document 02, A5).
abbrev pub worth : Money → Row → ℕ
worth money row = by_money money row.amount.0 row.fee.0

-- "Need: K is the sum of all amounts, faulty ones too; ..", ".. and the need in O is the sum of fees .." (document 02, A5).
unfoldable pub need : Money → Shipment → ℕ
need money s = sum_over (worth money) s.rows

abbrev pub need_once_paired : Money → Shipment → ℕ
need_once_paired money s = only_if (is_paired s.stage) (need money s)

-- "Free money is transfers accepted, less the need once Paired, less surplus returned."
unfoldable pub free : Money → Shipment → ℕ
free money s = accepted money s - need_once_paired money s - returned money s

-- "In a Paired shipment an order holds K while Open or Posted or while its K waits, and O while Open or while its O waits."
abbrev pub holds : Money → State → Bool
holds K state = is_open state || (is_posted state || waits K state)
holds O state = is_open state || waits O state

-- "In other stages orders hold nothing."
unfoldable pub held : Money → Shipment → ℕ
held money s = only_if (is_paired s.stage) (sum_over (λ (row : Row). only_if (holds money row.state) (worth money row)) s.rows)

unfoldable pub any_faulty : List Row → Bool
any_faulty [] = false
any_faulty (row ∷ rows) = is_faulty row.state || any_faulty rows
