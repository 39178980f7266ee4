-- What is done to the shipment at a place of the memory is done to that shipment of the book, and to no other.
-- Assumes nothing.
use mathlib.Core.Path.{◌≡◌, refl}
use mathlib.Core.Bool.{Bool, true}
use mathlib.Core.List.{List}
use Prim.Native.Nat.{ℕ, zero, suc, ◌+◌, ◌≤◌, ◌<◌}
use native.Mathlib.Omega.{arith}
use borrow.Author.Tests.{eqb-true, eqb-false}
use lib.Dec.{eqb}
use Rattle.text.proofs.Branches.{either_way, and_left, and_right, both_yes}
use Rattle.model.specs.Shipment.{most_shipments, most_rows, Shipment}
use Rattle.model.specs.Calls.{Call, Answer, Refused, Outcome}
use Rattle.model.specs.Book.{stay, on_first, rows_in}
use Rattle.memory.specs.Layout.{head_bytes, row_bytes}
use Rattle.memory.specs.Heads.{flags_in_form}
use Rattle.memory.specs.Read.{rows_from, orders_at, shipment_at, shipments_from, flags_from}
use Rattle.sound.proofs.ReadLaws.{rows_next}
use Rattle.std.specs.Prelude.{None}
use Rattle.acts.specs.Inner.Place.{place_from, ActAt}
use Rattle.acts.proofs.RowLaws.{rows_alike}
use Rattle.acts.proofs.Finding.{Found, here, further, within}
use Rattle.book.specs.Inner.Sought.{Seeks}

-- a shipment with its head and its rows as they were
shipment_alike : (m m' : List ℕ) (j s : ℕ) → head_bytes m' j ≡ head_bytes m j
    → ((r : ℕ) → s ≤ r → r < s + orders_at m j → row_bytes m' r ≡ row_bytes m r) → shipment_at m' j s ≡ shipment_at m j s
shipment_alike m m' j s head rows = rw (head, rows_alike m m' s (orders_at m j) rows)

module _ {m m' : List ℕ} {i k : ℕ} {does : Shipment → Outcome} {answer : Answer} (act : ActAt m i k does answer m') where
  behind_alike : (j s n : ℕ) → i < j → k + orders_at m i ≤ s → j + n ≤ most_shipments → s + rows_in (shipments_from m j s n) ≤ most_rows
      → shipments_from m' j s n ≡ shipments_from m j s n
  unfolding shipments_from
  behind_alike j s zero behind rows few room = refl
  behind_alike j s (suc n) behind rows few room =
      let many = rows_next m j s n in
      let head = act.only.other_heads j (omega arith) (λ same. omega arith) in
      let first = shipment_alike m m' j s head (λ r from below. act.only.other_rows r (omega arith) (λ among. omega (arith, among.1))) in
      let rest = behind_alike (suc j) (s + orders_at m j) n (omega arith) (omega arith) (omega arith) (omega arith) in
      rw (first, head, rest)

  flag_kept : (j : ℕ) → j < most_shipments → flags_in_form (head_bytes m j) ≡ true → flags_in_form (head_bytes m' j) ≡ true
  flag_kept j few h =
      either_way (eqb j i)
      (λ same. let e = eqb-true j i same in rw e (act.flags (rw e at h)))
      (λ apart. rw (act.only.other_heads j few (eqb-false j i apart)) h)

  pub flags_kept : (j n : ℕ) → j + n ≤ most_shipments → flags_from m j n ≡ true → flags_from m' j n ≡ true
  unfolding flags_from
  flags_kept j zero few h = refl
  flags_kept j (suc n) few h =
      let first = flags_in_form (head_bytes m j) in
      let rest = flags_from m (suc j) n in
      both_yes (flags_in_form (head_bytes m' j)) (flags_from m' (suc j) n) (flag_kept j (omega arith) (and_left first rest h))
      (flags_kept (suc j) n (omega arith) (and_right first rest h))

module _ {is : List ℕ → Bool} {does : Shipment → Outcome} {call : Call} (seeks : Seeks is does call) where
  pub none_found : (m : List ℕ) (j s n : ℕ) → place_from is m j s n ≡ None
      → on_first seeks.called does (shipments_from m j s n) ≡ stay (Refused 13) (shipments_from m j s n)
  unfolding place_from shipments_from
  none_found m j s zero e = refl
  none_found m j s (suc n) e =
      let by_head = seeks.by_head (head_bytes m j) (rows_from m s (orders_at m j)) in
      either_way (is (head_bytes m j))
      (λ fits. let same = rw fits at e in cc)
      (λ other. rw (by_head, other, none_found m (suc j) (s + orders_at m j) n (rw other at e)))

  pub first_acted : {m m' : List ℕ} {i k j s n : ℕ} {answer : Answer} → ActAt m i k does answer m' → Found is m i k j s n → j + n ≤ most_shipments
      → s + rows_in (shipments_from m j s n) ≤ most_rows → on_first seeks.called does (shipments_from m j s n) ≡ record { book = shipments_from m' j s n; answer = answer }
  unfolding shipments_from
  first_acted {m} {m'} {i} {k} act (here {n} fits) few room =
      let many = rows_next m i k n in
      let by_head = seeks.by_head (head_bytes m i) (rows_from m k (orders_at m i)) in
      let rest = behind_alike act (suc i) (k + orders_at m i) n (omega arith) (omega arith) (omega arith) (omega arith) in
      rw (by_head, fits, act.leaves, act.orders, rest, act.answers)
  first_acted {m} {m'} act (further {j} {s} {n} other later) few room =
      let many = rows_next m j s n in
      let by_head = seeks.by_head (head_bytes m j) (rows_from m s (orders_at m j)) in
      let place = within later in
      let head = act.only.other_heads j (omega arith) (λ same. omega arith) in
      let first = shipment_alike m m' j s head (λ r from below. act.only.other_rows r (omega arith) (λ among. omega (arith, among.0))) in
      rw (by_head, other, first, head, first_acted act later (omega arith) (omega arith))
