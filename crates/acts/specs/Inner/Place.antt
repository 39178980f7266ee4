-- Where a call finds its shipment, and what it does there.
use Rattle.std.specs.Prelude.{◌≡◌, Bool, true, cond, List, ℕ, zero, suc, ◌+◌, ◌≤◌, ◌<◌, Option, Some, None, Result, Err, ok_or}
use Rattle.epe.specs.Ident.{same_ident}
use Rattle.epe.specs.declared.ident.Ident.{Ident}
use Rattle.epe.specs.declared.name.Name.{Name}
use Rattle.model.specs.Shipment.{Shipment}
use Rattle.model.specs.Calls.{Answer, changes_nothing, Outcome}
use Rattle.model.specs.Book.{same_name}
use Rattle.model.specs.declared.Row.{Row}
use Rattle.memory.specs.Layout.{head_bytes, row_bytes, OnlyRows, OnlyShipment}
use Rattle.memory.specs.Rows.{row_of}
use Rattle.memory.specs.Heads.{name_in, flags_in_form}
use Rattle.memory.specs.Read.{orders_at, shipment_at, shipments_in, sound_in}
use Rattle.memory.specs.declared.place.Place.{Place}
use Rattle.acts.specs.declared.refusal.Refusal.{Refusal}
use Rattle.acts.specs.declared.refusal.Refusal.TheVariants.{Unsound, Unknown}

-- A head's shipment is of that identifier, or of that whole name.
abbrev pub called_in : Ident → List ℕ → Bool
called_in ident head = same_ident ident (name_in head).ident

abbrev pub named_in : Name → List ℕ → Bool
named_in name head = same_name name (name_in head)

-- The first of n heads from the i-th on that passes a test, and its first row.
abbrev pub place_at : ℕ → ℕ → Place
place_at i k = record { head = i; row = k }

unfoldable pub place_from : (List ℕ → Bool) → List ℕ → ℕ → ℕ → ℕ → Option Place
place_from is m i k zero = None
place_from is m i k (suc n) = cond (is (head_bytes m i)) (Some (place_at i k)) (place_from is m (suc i) (k + orders_at m i) n)

-- That of a book, if it is sound and has one.
unfoldable pub place_in : (List ℕ → Bool) → List ℕ → Result Place Refusal
place_in is m = cond (sound_in m) (ok_or (place_from is m 0 0 (shipments_in m)) Unknown) (Err Unsound)

-- Each of n rows from the k-th on is what is given for it, and nothing else moves.
pub record RowsStored (given : ℕ → Row) (k n : ℕ) (m m' : List ℕ) : Type 0 where
  pub rows : (r : ℕ) → k ≤ r → r < k + n → row_of (row_bytes m' r) ≡ given r
  pub only : OnlyRows k n m m'

-- What the model does to a shipment is done to the one at a place: its answer, its fields, and nothing else.
pub record ActAt (m : List ℕ) (i k : ℕ) (does : Shipment → Outcome) (answer : Answer) (m' : List ℕ) : Type 0 where
  pub answers : answer ≡ (does (shipment_at m i k)).answer
  pub leaves : shipment_at m' i k ≡ (does (shipment_at m i k)).shipment
  pub only : OnlyShipment i k (orders_at m i) m m'
  pub orders : orders_at m' i ≡ orders_at m i
  pub flags : flags_in_form (head_bytes m i) ≡ true → flags_in_form (head_bytes m' i) ≡ true
  pub unmoved : changes_nothing answer ≡ true → m' ≡ m
