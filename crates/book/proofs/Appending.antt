-- A shipment entered behind the last: the memory then holds the book with that shipment at its end.
-- Assumes nothing.
use mathlib.Core.Path.{◌≡◌, refl, sym, ap, ◌∙◌}
use mathlib.Core.Bool.{true}
use mathlib.Core.List.{List, [], ◌∷◌, ◌++◌}
use Prim.Native.Nat.{ℕ, zero, suc, ◌+◌, ◌≤◌, ◌<◌}
use native.Mathlib.Omega.{arith}
use Rattle.text.proofs.Branches.{and_left, and_right, both_yes}
use Rattle.model.specs.Shipment.{Shipment}
use Rattle.model.specs.Book.{rows_in}
use Rattle.memory.specs.Layout.{head_bytes, row_bytes}
use Rattle.memory.specs.Heads.{flags_in_form}
use Rattle.memory.specs.Read.{orders_at, shipment_at, shipments_from, flags_from}
use Rattle.sound.proofs.ReadLaws.{rows_next}
use Rattle.acts.proofs.RowLaws.{rows_alike}

-- one shipment more, at the end
shipments_then : (m : List ℕ) (i k n : ℕ)
    → shipments_from m i k (suc n) ≡ shipments_from m i k n ++ (shipment_at m (i + n) (k + rows_in (shipments_from m i k n)) ∷ [])
unfolding shipments_from
shipments_then m i k zero = let head : i + 0 ≡ i = omega arith in let row : k + 0 ≡ k = omega arith in rw (head, row)
shipments_then m i k (suc n) =
    let rest = shipments_then m (suc i) (k + orders_at m i) n in
    let head : i + suc n ≡ suc i + n = omega arith in
    let row : k + rows_in (shipments_from m i k (suc n)) ≡ k + orders_at m i + rows_in (shipments_from m (suc i) (k + orders_at m i) n)
    = omega (arith, rows_next m i k n) in
    rw (head, row) (ap (λ book. shipment_at m i k ∷ book) rest)

-- shipments whose heads and rows are as they were
module _ (m m' : List ℕ) where
  pub shipments_alike : (i k n : ℕ) → ((j : ℕ) → i ≤ j → j < i + n → head_bytes m' j ≡ head_bytes m j)
      → ((r : ℕ) → k ≤ r → r < k + rows_in (shipments_from m i k n) → row_bytes m' r ≡ row_bytes m r)
      → shipments_from m' i k n ≡ shipments_from m i k n
  unfolding shipments_from
  shipments_alike i k zero heads rows = refl
  shipments_alike i k (suc n) heads rows =
      let head = heads i (omega arith) (omega arith) in
      let many = rows_next m i k n in
      let first = rows_alike m m' k (orders_at m i) (λ r from below. rows r from (omega (arith, many))) in
      let rest = shipments_alike (suc i) (k + orders_at m i) n (λ j from below. heads j (omega arith) (omega arith))
      (λ r from below. rows r (omega arith) (omega (arith, many))) in
      rw (head, first, rest)

  pub flags_alike : (i n : ℕ) → ((j : ℕ) → i ≤ j → j < i + n → head_bytes m' j ≡ head_bytes m j) → flags_in_form (head_bytes m' (i + n)) ≡ true
      → flags_from m i n ≡ true → flags_from m' i (suc n) ≡ true
  unfolding flags_from
  flags_alike i zero heads last h = let here : i + 0 ≡ i = omega arith in rw here at (both_yes (flags_in_form (head_bytes m' (i + 0))) true last refl)
  flags_alike i (suc n) heads last h =
      let next : i + suc n ≡ suc i + n = omega arith in
      both_yes (flags_in_form (head_bytes m' i)) (flags_from m' (suc i) (suc n))
      (ap flags_in_form (heads i (omega arith) (omega arith)) ∙ and_left (flags_in_form (head_bytes m i)) (flags_from m (suc i) n) h)
      (flags_alike (suc i) n (λ j from below. heads j (omega arith) (omega arith)) (ap (λ j. flags_in_form (head_bytes m' j)) (sym next) ∙ last)
      (and_right (flags_in_form (head_bytes m i)) (flags_from m (suc i) n) h))

  -- and the shipment behind them
  pub appended : (n : ℕ) (s : Shipment) → ((j : ℕ) → j < n → head_bytes m' j ≡ head_bytes m j)
      → ((r : ℕ) → r < rows_in (shipments_from m 0 0 n) → row_bytes m' r ≡ row_bytes m r)
      → shipment_at m' n (rows_in (shipments_from m 0 0 n)) ≡ s → shipments_from m' 0 0 (suc n) ≡ shipments_from m 0 0 n ++ (s ∷ [])
  appended n s heads rows last =
      let before = shipments_alike 0 0 n (λ j from below. heads j (omega arith)) (λ r from below. rows r (omega arith)) in
      let head : 0 + n ≡ n = omega arith in
      let row : 0 + rows_in (shipments_from m 0 0 n) ≡ rows_in (shipments_from m 0 0 n) = omega arith in
      shipments_then m' 0 0 n
      ∙ rw (before, head, row) (ap (λ t. shipments_from m 0 0 n ++ (t ∷ [])) last)
