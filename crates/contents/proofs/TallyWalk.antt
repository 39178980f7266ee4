-- The walk over a file's records: the tally and the table that are kept on the way.
-- Assumes nothing.
use mathlib.Core.Path.{◌≡◌, refl, sym, ap, ◌∙◌}
use mathlib.Core.Bool.{Bool, true, false, cond, not, ◌&&◌}
use mathlib.Core.List.{List, [], ◌∷◌, map}
use Prim.Native.Nat.{ℕ, ◌+◌, ◌*◌, ◌^◌, ◌<◌, ◌≤◌}
use native.Mathlib.Omega.{arith}
use borrow.Author.Tests.{le-leb, eqb-true}
use lib.Dec.{eqb, ltb, lit<}
use lib.ListN.{length, set, length-set}
use Rattle.text.specs.Bytes.{same, part}
use Rattle.text.specs.Quoted.{bytes}
use Rattle.std.specs.Prelude.{Some, None, is_some, Result, Ok, Err}
use Rattle.std.specs.Result.{result_ok}
use Rattle.std.specs.Option.{unwrap_or}
use Rattle.text.specs.Number.{number}
use Rattle.text.specs.Fields.{fields}
use Rattle.text.specs.Lines.{lines, stray}
use Rattle.text.proofs.Branches.{and_right, either_way}
use Rattle.text.proofs.Digits.{number_bound, value_bound}
use Rattle.money.specs.Money.{order_cap, is_order_fee}
use Rattle.money.proofs.Reading.{order_text_bound}
use Rattle.fee.specs.Fee.{fee_of, charged_by}
use Rattle.fee.specs.declared.Terms.{Terms}
use Rattle.epe.specs.File.{field}
use Rattle.epe.specs.Inner.Walk.{lines_from, line_end, next_line}
use Rattle.epe.proofs.LineWalk.{walk_on, next_later}
use Rattle.contents.specs.Contents.{shaped, all_shaped, amount_in, all_priced, all_charged, total, order_of, faulty_count, lines_read}
use Rattle.contents.specs.Kept.{Keepable, kept_code, kept_from}
use Rattle.contents.specs.Inner.Tally.{record_read, added, SmallTally, Tallied}
use Rattle.contents.specs.declared.tally.Tally.{Tally}
use Rattle.contents.specs.declared.record.Order.{Order}
use Rattle.contents.specs.declared.record.Misshaped.{Misshaped}
use Rattle.contents.proofs.FaultLaws.{fault_known}

-- a shaped record's number has at most six digits
pub number_few : (r n : ℕ) (line : List ℕ) → shaped r n line ≡ true → n < 1_000_000
unfolding shaped
number_few r n line h =
    let seen = number 1 6 (field 2 line) in
    let counts = is_some seen && eqb (unwrap_or seen 0) n in
    let second = same (field 1 line) (bytes "2") && counts in
    let first = eqb (length (fields 0x7C line)) r && not (stray line) in
    let told = and_right (same (field 1 line) (bytes "2")) counts (and_right first second h) in
    let e = eqb-true (unwrap_or seen 0) n (and_right (is_some seen) (eqb (unwrap_or seen 0) n) told) in
    omega (arith, value_bound (10 ^ 6) seen (lit< tt) (number_bound 1 6 (field 2 line)))

-- an order has a charge where its fee is one that an order can hold
pub charge_within : (terms : Terms) (grosze : ℕ) → is_some (charged_by terms grosze) ≡ is_order_fee (fee_of terms grosze)
unfolding charged_by
charge_within terms grosze = either_way (is_order_fee (fee_of terms grosze)) (λ h. rw h) (λ h. rw h)

-- the tally and the table on the way: with what is left they give the whole
pub record Going (fields : ℕ) (terms : Terms) (lines left : List (List ℕ)) (tally : Tally) (before kept : List ℕ) : Type 0 where
  pub shape : all_shaped fields (tally.count + 1) left ≡ all_shaped fields 1 lines
  pub prices : (tally.priced && all_priced left) ≡ all_priced lines
  pub charges : (tally.charged && all_charged terms left) ≡ all_charged terms lines
  pub counted : tally.count + length left ≡ length lines
  pub summed : tally.sum + total left ≡ total lines
  pub faults : tally.faulty + faulty_count (map order_of left) ≡ faulty_count (map order_of lines)
  pub keeping : kept_from kept tally.count (map order_of (lines_read fields (tally.count + 1) left))
      ≡ kept_from before 0 (map order_of (lines_read fields 1 lines))
  pub as_long : length kept ≡ length before
  pub few : tally.count ≤ 999_999
  pub little : tally.sum ≤ tally.count * 2 ^ 30
  pub fewer : tally.faulty ≤ tally.count

pub going_start : (fields : ℕ) (terms : Terms) (lines : List (List ℕ)) (tally : Tally) (kept : List ℕ)
    → tally ≡ record { priced = true; charged = true; count = 0; sum = 0; faulty = 0 }
    → Going fields terms lines lines tally kept kept
going_start fields terms lines tally kept e = rw e (record {
  shape = refl;
  prices = refl;
  charges = refl;
  counted = omega arith;
  summed = omega arith;
  faults = omega arith;
  keeping = refl;
  as_long = refl;
  few = omega arith;
  little = omega arith;
  fewer = omega arith;
})

one_at_most : (t : Bool) → cond t 0 1 ≤ 1
one_at_most true = omega arith
one_at_most false = omega arith

pub mark_at_most : (fault : ℕ) → cond (eqb fault 0) 0 1 ≤ 1
mark_at_most fault = one_at_most (eqb fault 0)

module _ (fields : ℕ) (terms : Terms) (lines left : List (List ℕ)) (line : List ℕ) (tally : Tally) (before kept : List ℕ)
    (going : Going fields terms lines (line ∷ left) tally before kept) where
  -- a line that is not shaped settles the question, and no more is read
  pub going_misshaped : shaped fields (tally.count + 1) line ≡ false
      → (all_shaped fields 1 lines ≡ false) × (kept ≡ kept_from before 0 (map order_of (lines_read fields 1 lines)))
  unfolding all_shaped lines_read kept_from
  going_misshaped h = (sym going.shape ∙ rw h, rw h at going.keeping)

  and_on : (t u v : Bool) → ((t && u) && v) ≡ (t && (u && v))
  and_on true u v = refl
  and_on false u v = refl

  -- a line that is shaped is added, and its order kept
  pub going_on : shaped fields (tally.count + 1) line ≡ true
      → Going fields terms lines left (added terms tally (order_of line)) before (set kept tally.count (kept_code (order_of line)))
  unfolding added all_shaped all_priced all_charged total faulty_count lines_read kept_from order_of
  going_on h =
      let bound = order_text_bound (field 3 line) in
      let small = number_few fields (tally.count + 1) line h in
      let one = mark_at_most (order_of line).fault in
      record {
        shape = rw h at going.shape;
        prices = and_on tally.priced (ltb 0 (amount_in line)) (all_priced left) ∙ going.prices;
        charges = and_on tally.charged (is_order_fee (fee_of terms (amount_in line))) (all_charged terms left) ∙ going.charges;
        counted = omega (arith, going.counted);
        summed = omega (arith, going.summed);
        faults = omega (arith, going.faults);
        keeping = rw h at going.keeping;
        as_long = length-set kept tally.count (kept_code (order_of line)) ∙ going.as_long;
        few = omega arith;
        little = omega (arith, going.little);
        fewer = omega (arith, going.fewer, one);
      }

pub going_end : (fields : ℕ) (terms : Terms) (lines : List (List ℕ)) (tally : Tally) (before kept : List ℕ)
    → Going fields terms lines [] tally before kept → Tallied fields terms lines (Some tally) before kept
unfolding all_shaped all_priced all_charged total faulty_count lines_read kept_from
going_end fields terms lines tally before kept going = record {
  shape = going.shape;
  totals = record {
    prices = and_yes tally.priced ∙ going.prices;
    charges = and_yes tally.charged ∙ going.charges;
    counted = omega (arith, going.counted);
    summed = omega (arith, going.summed);
    faults = omega (arith, going.faults);
  };
  kept = going.keeping;
}
  where
    and_yes : (t : Bool) → t ≡ (t && true)
    and_yes true = refl
    and_yes false = refl

-- What `read_record` says of a line, where a profile allows the number of fields.
abbrev if_shaped : Bool → Order → Result Order Misshaped
if_shaped shape order = cond shape (Ok order) (Err (record { order = order }))

module _ (r n : ℕ) (line : List ℕ) (allowed : r ≤ 32) {read : Result Order Misshaped} (is : read ≡ record_read r n line) where
  read_if : read ≡ if_shaped (shaped r n line) (order_of line)
  unfolding record_read
  read_if = is ∙ rw (le-leb r 32 allowed)

  read_shaped : {order : Order} → Some order ≡ result_ok read → (shaped r n line ≡ true) × (order ≡ order_of line)
  read_shaped {order} told = go (shaped r n line) (told ∙ ap result_ok read_if)
    where
      go : (t : Bool) → Some order ≡ result_ok (if_shaped t (order_of line)) → (t ≡ true) × (order ≡ order_of line)
      go true is = (refl, cc)
      go false is = cc

  read_misshaped : None ≡ result_ok read → shaped r n line ≡ false
  read_misshaped told = go (shaped r n line) (told ∙ ap result_ok read_if)
    where
      go : (t : Bool) → None ≡ result_ok (if_shaped t (order_of line)) → t ≡ false
      go true is = cc
      go false is = refl

-- a turn of the walk: the line at a place is read, its order kept, and the next place reached
pub record Turn (fields : ℕ) (terms : Terms) (s : List ℕ) (from at : ℕ) (tally : Tally) (before kept : List ℕ) (order : Order) (end : ℕ) : Type 0 where
  pub small : SmallTally tally order
  pub keepable : Keepable order
  pub on : (tally' : Tally) (kept' : List ℕ) (at' : ℕ) → tally' ≡ added terms tally order
      → kept' ≡ set kept tally.count (kept_code order)
      → at' ≡ cond (ltb end (length s)) (end + 2) (length s + 1)
      → Going fields terms (lines_from from s) (lines_from at' s) tally' before kept' × (at < at')

module _ (fields : ℕ) (terms : Terms) (s : List ℕ) (from at : ℕ) (tally : Tally) (before kept line : List ℕ) (end : ℕ) (inside : at ≤ length s)
    (allowed : fields ≤ 32) (going : Going fields terms (lines_from from s) (lines_from at s) tally before kept) (ends : end ≡ line_end at s)
    (lined : line ≡ part at end s) where
  on_line : Going fields terms (lines_from from s) (line ∷ lines_from (next_line at s) s) tally before kept
  on_line = let here_is : lines_from at s ≡ line ∷ lines_from (next_line at s) s = rw (lined, ends) (walk_on s at inside) in rw here_is at going

  pub turn_of : (order : Order) {read : Result Order Misshaped} → read ≡ record_read fields (tally.count + 1) line → Some order ≡ result_ok read
      → Turn fields terms s from at tally before kept order end
  unfolding next_line order_of
  turn_of order is told =
      let read = read_shaped fields (tally.count + 1) line allowed is told in
      let bound : order.amount.0 ≤ order_cap = rw read.1 (order_text_bound (field 3 line)) in
      record {
        small = record { few = going.few; little = going.little; fewer = going.fewer; bounded = bound };
        keepable = record { to_the_cap = bound; fault_known = rw read.1 (fault_known line) };
        on = λ tally' kept' at' t k a.
            let next : at' ≡ next_line at s = rw ends at a in (
              rw (t, k, read.1, next)
                  (going_on fields terms (lines_from from s) (lines_from (next_line at s) s) line tally before kept on_line read.0),
              rw next (next_later s at inside),
            );
      }

  -- the tally of lines that are not all shaped
  pub tallied_misshaped : {read : Result Order Misshaped} → read ≡ record_read fields (tally.count + 1) line → None ≡ result_ok read
      → Tallied fields terms (lines_from from s) None before kept
  tallied_misshaped is told =
      let settled = going_misshaped fields terms (lines_from from s) (lines_from (next_line at s) s) line tally before kept on_line (read_misshaped fields (tally.count + 1) line allowed is told) in
      record { shape = sym settled.0; totals = tt; kept = settled.1 }
