-- An intake that has come to its contents: its orders, its head and its number are stored, or a question refuses it.
-- Assumes nothing.
use mathlib.Core.Path.{◌≡◌, refl, sym, ap, ◌∙◌}
use mathlib.Core.List.{List, ◌∷◌, map}
use Prim.Native.Nat.{ℕ, zero, suc, ◌+◌, ◌-◌, ◌<◌}
use native.Mathlib.Numerals.{add-one}
use native.Mathlib.Omega.{arith}
use lib.ListN.{get_or, set, length-set}
use lib.Seq.{get_or-set_same, get_or-set_other}
use Rattle.money.specs.Money.{WithinOrder}
use Rattle.fee.specs.Fee.{TermsFit, fee_of}
use Rattle.fee.specs.declared.Terms.{Terms}
use Rattle.contents.specs.Accepted.{OrderInRange, EachInRange, EachCharged}
use Rattle.contents.specs.Kept.{order_in, orders_in}
use Rattle.epe.specs.declared.name.Name.{Name}
use Rattle.contents.specs.declared.record.Order.{Order}
use Rattle.model.specs.Shipment.{most_rows}
use Rattle.model.specs.Book.{entered_row, new_shipment, rows_in}
use Rattle.memory.specs.Layout.{head_bytes, row_bytes}
use Rattle.memory.specs.Rows.{row_of}
use Rattle.memory.specs.Read.{rows_from, shipment_at, shipments_from, book_in}
use Rattle.memory.specs.Inner.Enter.{Enterable, OrderEntered, HeadEntered}
use Rattle.memory.proofs.Parts.{number_heads, number_rows}
use Rattle.memory.proofs.Frames.{heads_kept, rows_kept}
use Rattle.acts.specs.Inner.Place.{RowsStored}
use Rattle.acts.proofs.RowsInTurn.{none_stored, one_more_stored}
use Rattle.book.specs.Inner.Entering.{kept_row, Fits, ShipmentEntered}
use Rattle.book.proofs.Appending.{appended, flags_alike}

-- each order of a table in range, and with a fee
order_in_range : (kept : List ℕ) (j n i : ℕ) → EachInRange (orders_in kept j n) → i < n → OrderInRange (order_in kept (j + i))
unfolding orders_in
order_in_range kept j zero i all within = absurd (omega arith)
order_in_range kept j (suc n) zero all within = let here : j + 0 ≡ j = omega arith in rw here all.0
order_in_range kept j (suc n) (suc i) all within =
    let next : j + suc i ≡ j + 1 + i = omega arith in rw next (order_in_range kept (j + 1) n i all.1 (omega arith))

order_charged : (terms : Terms) (kept : List ℕ) (j n i : ℕ) → EachCharged terms (orders_in kept j n) → i < n
    → WithinOrder (fee_of terms (order_in kept (j + i)).amount.0)
unfolding orders_in
order_charged terms kept j zero i all within = absurd (omega arith)
order_charged terms kept j (suc n) zero all within = let here : j + 0 ≡ j = omega arith in rw here all.0
order_charged terms kept j (suc n) (suc i) all within =
    let next : j + suc i ≡ j + 1 + i = omega arith in rw next (order_charged terms kept (j + 1) n i all.1 (omega arith))

pub kept_enterable : (terms : Terms) (kept : List ℕ) (n i : ℕ) {order : Order} → TermsFit terms → EachInRange (orders_in kept 0 n)
    → EachCharged terms (orders_in kept 0 n) → i < n → order ≡ order_in kept i → Enterable terms order
kept_enterable terms kept n i terms_fit_holds all charged within is =
    let here : 0 + i ≡ i = omega arith in
    let range = rw here at (order_in_range kept 0 n i all within) in
    let fee = rw here at (order_charged terms kept 0 n i charged within) in
    rw is (record { terms_fit_holds = terms_fit_holds; amount_fits_holds = range.to_the_cap; fee_fits_holds = fee; fault_known = range.fault_known })

-- one order more
pub one_more_entered : (terms : Terms) (kept : List ℕ) {l m m' : List ℕ} {k n : ℕ} {order : Order} → k + n < most_rows
    → RowsStored (kept_row terms k kept) k n l m → order ≡ order_in kept n → OrderEntered terms order (k + n) m m' → RowsStored (kept_row terms k kept) k (n + 1) l m'
one_more_entered terms kept {l} {m} {m'} {k} {n} there rest is one =
    let place : k + n - k ≡ n = omega arith in
    one_more_stored there rest (one.row ∙ ap (entered_row terms) (is ∙ ap (order_in kept) (sym place))) one.only

-- all orders, as the rows of a shipment
listed_rows : (terms : Terms) (m kept : List ℕ) (k j n : ℕ) → ((i : ℕ) → i < n → row_of (row_bytes m (k + i)) ≡ entered_row terms (order_in kept (j + i)))
    → rows_from m k n ≡ map (entered_row terms) (orders_in kept j n)
unfolding rows_from orders_in
listed_rows terms m kept k j zero each = refl
listed_rows terms m kept k j (suc n) each =
    let row : k + 0 ≡ k = omega arith in
    let entry : j + 0 ≡ j = omega arith in
    let first : row_of (row_bytes m k) ≡ entered_row terms (order_in kept j) = rw (row, entry) at (each 0 (omega arith)) in
    let rest = listed_rows terms m kept (suc k) (j + 1) n (λ i within.
    let next_row : suc k + i ≡ k + suc i = omega arith in
    let next_entry : j + 1 + i ≡ j + suc i = omega arith in
    rw (next_row, next_entry) (each (suc i) (omega arith))) in
    λ t. first t ∷ rest t

-- then the head, and the number of shipments
module _ (m m₁ m₂ : List ℕ) (i k : ℕ) (name : Name) (terms : Terms) (n : ℕ) (kept : List ℕ) (fits : Fits m i k name terms n kept)
    (stored : RowsStored (kept_row terms k kept) k n m m₁) (head : HeadEntered name terms n i m₁ m₂) where
  abbrev m' : List ℕ
  m' = set m₂ 0 (i + 1)

  number_is : get_or m' 0 0 ≡ suc i
  number_is =
      get_or-set_same m₂ 0 (i + 1) 0 (omega (arith, fits.enough, head.only.as_long, stored.only.as_long)) ∙ add-one i

  heads_before : (j : ℕ) → j < i → head_bytes m' j ≡ head_bytes m j
  heads_before j before =
      number_heads m₂ (i + 1) j ∙ head.only.other_heads j (omega (arith, fits.few)) (λ same. omega arith) ∙ heads_kept stored.only j (omega (arith, fits.few))

  rows_before : (r : ℕ) → r < k → row_bytes m' r ≡ row_bytes m r
  rows_before r before =
      let there : r < most_rows = omega (arith, fits.room) in
      number_rows m₂ (i + 1) r ∙ rows_kept head.only r there ∙ stored.only.other_rows r there (λ among. omega (arith, among.0))

  rows_new : rows_from m' k n ≡ map (entered_row terms) (orders_in kept 0 n)
  rows_new =
      listed_rows terms m' kept k 0 n (λ j within.
      let place : k + j - k ≡ 0 + j = omega arith in
      ap row_of (number_rows m₂ (i + 1) (k + j) ∙ rows_kept head.only (k + j) (omega (arith, fits.room)))
      ∙ stored.rows (k + j) (omega arith) (omega arith)
      ∙ ap (λ p. entered_row terms (order_in kept p)) place)

  shipment_new : shipment_at m' i k ≡ new_shipment name terms (map (entered_row terms) (orders_in kept 0 n))
  shipment_new =
      rw (number_heads m₂ (i + 1) i, head.orders)
      (head.shipment (rows_from m' k n) ∙ ap (new_shipment name terms) rows_new)

  pub shipment_entered : ShipmentEntered (new_shipment name terms (map (entered_row terms) (orders_in kept 0 n))) m m'
  unfolding book_in
  shipment_entered = record {
    book =
        rw number_is
        (rw (← fits.last)
        (appended m m' i (new_shipment name terms (map (entered_row terms) (orders_in kept 0 n))) heads_before
        (λ r before. rows_before r (omega (arith, fits.from, from_is)))
        (rw (← from_is) shipment_new)));
    flags = λ h.
        rw number_is
        (flags_alike m m' 0 i (λ j from below. heads_before j (omega arith))
        (let here : 0 + i ≡ i = omega arith in rw (here, number_heads m₂ (i + 1) i) head.flags) (rw (← fits.last) at h));
    behind = λ j far.
        get_or-set_other m₂ 0 j (i + 1) 0 (omega arith) ∙ head.only.behind j far ∙ stored.only.behind j far;
    as_long = length-set m₂ 0 (i + 1) ∙ head.only.as_long ∙ stored.only.as_long;
  }
    where
      from_is : k ≡ rows_in (shipments_from m 0 0 i)
      from_is = fits.from ∙ ap (λ n. rows_in (shipments_from m 0 0 n)) (sym fits.last)

pub ruleset enters = (kept_enterable, one_more_entered, none_stored)
