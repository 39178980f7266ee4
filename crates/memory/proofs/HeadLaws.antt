-- A field stored in a head is read back, and every other field of it is as it was.
-- Assumes nothing.
use mathlib.Core.Path.{◌≡◌, refl, ap, ◌∙◌}
use mathlib.Core.Bool.{true}
use mathlib.Core.List.{List}
use Prim.Native.Nat.{ℕ, zero, suc, ◌+◌, ◌/◌, ◌%◌, ◌^◌, ◌<◌, ◌≤◌}
use native.Mathlib.Omega.{arith}
use borrow.Author.Tests.{eqb-true}
use lib.Dec.{eqb, leb}
use lib.ListN.{get_or, set, take}
use lib.Seq.{take-set-le, get_or-set_same, get_or-set_other}
use Rattle.text.proofs.Branches.{either_way, and_left, and_right, both_yes}
use Rattle.money.specs.declared.Money.{Money}
use Rattle.money.specs.declared.Money.TheVariants.{K, O}
use Rattle.model.specs.Shipment.{PerMoney, plus_in, accepted, returned, is_waiting, is_paired}
use Rattle.model.specs.Calls.{with_stage, with_go_ahead, with_accepted, with_returned}
use Rattle.model.specs.declared.Row.{Row}
use Rattle.model.specs.declared.Stage.{Stage}
use Rattle.model.specs.declared.Stage.TheVariants.{Waiting, Paired, Closed}
use Rattle.memory.specs.Number.{number_at, with_number}
use Rattle.memory.specs.Layout.{IsHead}
use Rattle.memory.specs.Heads.{name_in, agreed_in, stage_of, stage_at, stage_in, go_ahead_at, go_ahead_in, flags_in_form, order_count_in, accepted_at, returned_at, sums_in, shipment_in}
use Rattle.memory.specs.Inner.Stored.{stage_byte, FieldStored}
use Rattle.memory.proofs.Numbers.{number_alike, stored_is_read}

-- Two heads that are the same outside the bytes from one place up to another, which lie behind the name.
record Elsewhere (from to : ℕ) (head head' : List ℕ) : Type 0 where
  ident : take 17 head' ≡ take 17 head
  before : (j : ℕ) → j < from → get_or head' j 0 ≡ get_or head j 0
  behind : (j : ℕ) → to ≤ j → get_or head' j 0 ≡ get_or head j 0

module _ (from to : ℕ) (head head' : List ℕ) (e : Elsewhere from to head head') where
  number_before : (width at : ℕ) → at + width ≤ from → number_at width head' at ≡ number_at width head at
  number_before width at h = number_alike width head' head at at (λ j within. e.before (at + j) (omega arith))

  number_behind : (width at : ℕ) → to ≤ at → number_at width head' at ≡ number_at width head at
  number_behind width at h = number_alike width head' head at at (λ j within. e.behind (at + j) (omega arith))

  same_name : 24 ≤ from → name_in head' ≡ name_in head
  same_name h = λ i. record {
    ident = record { bytes = e.ident i; len = e.before 17 (omega arith) i };
    date = record { 0 = number_before 4 18 (omega arith) i };
    payment = e.before 22 (omega arith) i;
    kind = e.before 23 (omega arith) i;
  }

  same_agreed : 28 ≤ from → to ≤ 64 → agreed_in head' ≡ agreed_in head
  same_agreed h k = λ i. record {
    name = same_name (omega arith) i;
    terms = record { flat = record { 0 = number_before 4 24 (omega arith) i }; rate = record { 0 = number_behind 2 64 (omega arith) i } };
  }

  -- the sums of either money, where both lie behind
  same_sums : (at : Money → ℕ) → to ≤ at K → to ≤ at O → sums_in at head' ≡ sums_in at head
  same_sums at k o = λ i. record { k = number_behind 8 (at K) k i; o = number_behind 8 (at O) o i }

byte_elsewhere : (head : List ℕ) (q v : ℕ) → 17 ≤ q → Elsewhere q (q + 1) head (set head q v)
byte_elsewhere head q v h = record {
  ident = take-set-le 17 head q v h;
  before = λ j low. get_or-set_other head q j v 0 (omega arith);
  behind = λ j high. get_or-set_other head q j v 0 (omega arith);
}

take_number : (width : ℕ) (head : List ℕ) (at n : ℕ) → 17 ≤ at → take 17 (with_number width head at n) ≡ take 17 head
unfolding with_number
take_number zero head at n h = refl
take_number (suc width) head at n h = take_number width (set head at (n % 256)) (suc at) (n / 256) (omega arith) ∙ take-set-le 17 head at (n % 256) h

number_elsewhere : (head : List ℕ) (at n : ℕ) → 17 ≤ at → Elsewhere at (at + 8) head (with_number 8 head at n)
number_elsewhere head at n h =
    let stored = stored_is_read 8 head at n in
    record { ident = take_number 8 head at n h; before = stored.before; behind = stored.behind }

-- Two heads with the same number of orders, the second's flags in form where the first's are.
pub record FormKept (head head' : List ℕ) : Type 0 where
  pub orders : order_count_in head' ≡ order_count_in head
  pub flags : flags_in_form head ≡ true → flags_in_form head' ≡ true

pub number_keeps_form : (head : List ℕ) (at n : ℕ) → 32 ≤ at → FormKept head (with_number 8 head at n)
number_keeps_form head at n h =
    let e = number_elsewhere head at n (omega arith) in
    record {
      orders = number_before at (at + 8) head (with_number 8 head at n) e 2 30 (omega arith);
      flags = λ form. rw (e.before stage_at (omega arith), e.before go_ahead_at (omega arith)) form;
    }

pub stage_keeps_form : (head : List ℕ) (stage : Stage) → IsHead head → FormKept head (set head stage_at (stage_byte stage))
stage_keeps_form head stage whole =
    let e = byte_elsewhere head stage_at (stage_byte stage) (omega arith) in
    record {
      orders = number_behind 28 29 head (set head stage_at (stage_byte stage)) e 2 30 (omega arith);
      flags = λ form.
          rw (get_or-set_same head stage_at (stage_byte stage) 0 (omega arith), e.behind go_ahead_at (omega arith))
          (both_yes (leb (stage_byte stage) 2) (leb (get_or head go_ahead_at 0) 1) (by stage) (and_right (leb (get_or head stage_at 0) 2) (leb (get_or head go_ahead_at 0) 1) form));
    }
  where
    by : (stage : Stage) → leb (stage_byte stage) 2 ≡ true
    by Waiting = refl
    by Paired = refl
    by Closed = refl

pub go_ahead_keeps_form : (head : List ℕ) → IsHead head → FormKept head (set head go_ahead_at 1)
go_ahead_keeps_form head whole =
    let e = byte_elsewhere head go_ahead_at 1 (omega arith) in
    record {
      orders = number_behind 29 30 head (set head go_ahead_at 1) e 2 30 (omega arith);
      flags = λ form.
          rw (get_or-set_same head go_ahead_at 1 0 (omega arith), e.before stage_at (omega arith))
          (both_yes (leb (get_or head stage_at 0) 2) true (and_left (leb (get_or head stage_at 0) 2) (leb (get_or head go_ahead_at 0) 1) form) refl);
    }

stage_back : (stage : Stage) → stage_of (stage_byte stage) ≡ stage
unfolding stage_of
stage_back Waiting = refl
stage_back Paired = refl
stage_back Closed = refl

-- a stage, by its byte
pub waiting_byte : (byte : ℕ) → eqb byte 0 ≡ is_waiting (stage_of byte)
unfolding stage_of
waiting_byte byte = either_way (eqb byte 0) (λ zero. rw zero) (λ other. rw other (either_way (eqb byte 1) (λ one. rw one) (λ more. rw more)))

pub paired_byte : (byte : ℕ) → eqb byte 1 ≡ is_paired (stage_of byte)
unfolding stage_of
paired_byte byte =
    either_way (eqb byte 0) (λ zero. rw zero (ap (λ b. eqb b 1) (eqb-true byte 0 zero)))
    (λ other. rw other (either_way (eqb byte 1) (λ one. rw one) (λ more. rw more)))

-- the sums of either money, each by itself
both_sums : (head : List ℕ) (at : Money → ℕ) {k o : ℕ} → number_at 8 head (at K) ≡ k → number_at 8 head (at O) ≡ o → sums_in at head ≡ record { k = k; o = o }
both_sums head at is_k is_o = λ i. record { k = is_k i; o = is_o i }

module _ (head : List ℕ) (rows : List Row) (whole : IsHead head) where
  stage_stored : (stage : Stage) → shipment_in (set head stage_at (stage_byte stage)) rows ≡ with_stage stage (shipment_in head rows)
  unfolding shipment_in
  stage_stored stage =
      let head' = set head stage_at (stage_byte stage) in
      let e = byte_elsewhere head stage_at (stage_byte stage) (omega arith) in
      let there : get_or head' stage_at 0 ≡ stage_byte stage = get_or-set_same head stage_at (stage_byte stage) 0 (omega arith) in
      let staged = ap stage_of there ∙ stage_back stage in
      λ i. record {
        agreed = same_agreed 28 29 head head' e (omega arith) (omega arith) i;
        stage = staged i;
        go_ahead = eqb (e.behind go_ahead_at (omega arith) i) 1;
        accepted_sums = same_sums 28 29 head head' e accepted_at (omega arith) (omega arith) i;
        returned_sums = same_sums 28 29 head head' e returned_at (omega arith) (omega arith) i;
        rows = rows;
      }

  go_ahead_stored : shipment_in (set head go_ahead_at 1) rows ≡ with_go_ahead (shipment_in head rows)
  unfolding shipment_in
  go_ahead_stored =
      let head' = set head go_ahead_at 1 in
      let e = byte_elsewhere head go_ahead_at 1 (omega arith) in
      λ i. record {
        agreed = same_agreed 29 30 head head' e (omega arith) (omega arith) i;
        stage = stage_of (e.before stage_at (omega arith) i);
        go_ahead = eqb (get_or-set_same head go_ahead_at 1 0 (omega arith) i) 1;
        accepted_sums = same_sums 29 30 head head' e accepted_at (omega arith) (omega arith) i;
        returned_sums = same_sums 29 30 head head' e returned_at (omega arith) (omega arith) i;
        rows = rows;
      }

  -- a number in one of the four fields of money
  module _ (at x : ℕ) (low : 30 ≤ at) (high : at + 8 ≤ 64) (fits : x < 2 ^ 64) where
    abbrev after : List ℕ
    after = with_number 8 head at x

    elsewhere : Elsewhere at (at + 8) head after
    elsewhere = number_elsewhere head at x (omega arith)

    there : number_at 8 after at ≡ x
    there = (stored_is_read 8 head at x).back (omega arith) fits

    below : (q : ℕ) → q + 8 ≤ at → number_at 8 after q ≡ number_at 8 head q
    below q h = number_before at (at + 8) head after elsewhere 8 q h

    above : (q : ℕ) → at + 8 ≤ q → number_at 8 after q ≡ number_at 8 head q
    above q h = number_behind at (at + 8) head after elsewhere 8 q h

    -- the shipment, whatever its sums then are
    with_sums : (accepted returned : PerMoney) → sums_in accepted_at after ≡ accepted → sums_in returned_at after ≡ returned
        → shipment_in after rows ≡ record {
          agreed = agreed_in head;
          stage = stage_in head;
          go_ahead = go_ahead_in head;
          accepted_sums = accepted;
          returned_sums = returned;
          rows = rows;
        }
    unfolding shipment_in
    with_sums accepted returned are_accepted are_returned = λ i. record {
      agreed = same_agreed at (at + 8) head after elsewhere (omega arith) (omega arith) i;
      stage = stage_of (elsewhere.before stage_at (omega arith) i);
      go_ahead = eqb (elsewhere.before go_ahead_at (omega arith) i) 1;
      accepted_sums = are_accepted i;
      returned_sums = are_returned i;
      rows = rows;
    }

  accepted_stored : (money : Money) (n : ℕ) → accepted money (shipment_in head rows) + n < 2 ^ 64
      → shipment_in (with_number 8 head (accepted_at money) (accepted money (shipment_in head rows) + n)) rows ≡ with_accepted money n (shipment_in head rows)
  unfolding shipment_in
  accepted_stored K n fits =
      let x = number_at 8 head 32 + n in
      let same : (q : ℕ) → 40 ≤ q → number_at 8 (with_number 8 head 32 x) q ≡ number_at 8 head q = above 32 x (omega arith) (omega arith) fits in
      with_sums 32 x (omega arith) (omega arith) fits (plus_in K n (sums_in accepted_at head)) (sums_in returned_at head)
      (both_sums _ accepted_at (there 32 x (omega arith) (omega arith) fits) (omega (arith, same 40 (omega arith))))
      (both_sums _ returned_at (same 48 (omega arith)) (same 56 (omega arith)))
  accepted_stored O n fits =
      let x = number_at 8 head 40 + n in
      let same : (q : ℕ) → 48 ≤ q → number_at 8 (with_number 8 head 40 x) q ≡ number_at 8 head q = above 40 x (omega arith) (omega arith) fits in
      with_sums 40 x (omega arith) (omega arith) fits (plus_in O n (sums_in accepted_at head)) (sums_in returned_at head)
      (both_sums _ accepted_at (omega (arith, below 40 x (omega arith) (omega arith) fits 32 (omega arith))) (there 40 x (omega arith) (omega arith) fits))
      (both_sums _ returned_at (same 48 (omega arith)) (same 56 (omega arith)))

  returned_stored : (money : Money) (n : ℕ) → returned money (shipment_in head rows) + n < 2 ^ 64
      → shipment_in (with_number 8 head (returned_at money) (returned money (shipment_in head rows) + n)) rows ≡ with_returned money n (shipment_in head rows)
  unfolding shipment_in
  returned_stored K n fits =
      let x = number_at 8 head 48 + n in
      let same : (q : ℕ) → q + 8 ≤ 48 → number_at 8 (with_number 8 head 48 x) q ≡ number_at 8 head q = below 48 x (omega arith) (omega arith) fits in
      with_sums 48 x (omega arith) (omega arith) fits (sums_in accepted_at head) (plus_in K n (sums_in returned_at head))
      (both_sums _ accepted_at (same 32 (omega arith)) (same 40 (omega arith)))
      (both_sums _ returned_at (there 48 x (omega arith) (omega arith) fits) (omega (arith, above 48 x (omega arith) (omega arith) fits 56 (omega arith))))
  returned_stored O n fits =
      let x = number_at 8 head 56 + n in
      let same : (q : ℕ) → q + 8 ≤ 56 → number_at 8 (with_number 8 head 56 x) q ≡ number_at 8 head q = below 56 x (omega arith) (omega arith) fits in
      with_sums 56 x (omega arith) (omega arith) fits (sums_in accepted_at head) (plus_in O n (sums_in returned_at head))
      (both_sums _ accepted_at (same 32 (omega arith)) (same 40 (omega arith)))
      (both_sums _ returned_at (omega (arith, same 48 (omega arith))) (there 56 x (omega arith) (omega arith) fits))

  pub field_stored : FieldStored head rows
  field_stored = record { stage = stage_stored; go_ahead_holds = go_ahead_stored; accepted = accepted_stored; returned = returned_stored }
