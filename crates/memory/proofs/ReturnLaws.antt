-- A return changes a row by its byte of state alone.
-- Assumes nothing.
use mathlib.Core.Path.{◌≡◌, refl, sym, ap, ◌∙◌}
use mathlib.Core.Bool.{Bool, true, false, cond, ◌&&◌}
use mathlib.Core.List.{List}
use Prim.Native.Nat.{ℕ, ◌-◌, ◌/◌, ◌%◌, ◌<◌, ◌≤◌}
use native.Mathlib.Omega.{arith}
use borrow.Author.Tests.{eqb-true}
use lib.ListN.{length, get_or, set}
use lib.Seq.{set-get_or}
use Rattle.text.proofs.Branches.{and_left, and_right}
use Rattle.calendar.proofs.Computed.{below, each}
use Rattle.money.specs.declared.Money.{Money}
use Rattle.money.specs.declared.Money.TheVariants.{K, O}
use Rattle.model.specs.Shipment.{most_rows, by_money, only_if}
use Rattle.model.specs.Calls.{with_state, waits_on, cleared, after_return}
use Rattle.model.specs.declared.Route.{Route}
use Rattle.model.specs.declared.Route.TheVariants.{Zwr, Opr, Zpr, Zzr}
use Rattle.model.specs.declared.Row.{Row}
use Rattle.memory.specs.Layout.{code_at, size, row_bytes}
use Rattle.memory.specs.States.{k_waits, o_waits, state_of}
use Rattle.memory.specs.Rows.{code_in, row_of}
use Rattle.memory.specs.Inner.Stored.{with_code_at}
use Rattle.memory.specs.Inner.Returns.{waits_in, state_after, route_has, code_waits, wait_in, code_after, WaitTable, RowReturned}
use Rattle.memory.proofs.StateLaws.{alike, alike_equal, agree, agree_equal}
use Rattle.memory.proofs.RowLaws.{code_in_lem, code_stored}

-- a return, at each byte
returned_right : Route → Money → ℕ → Bool
returned_right route money code =
    agree (code_waits route money code) (waits_in route money (state_of code))
    && alike (state_of (code_after route money code)) (state_after route money (state_of code))

returned_each : (route : Route) (money : Money) → below (returned_right route money) 256 ≡ true
unfolding returned_right agree state_of
returned_each Zwr K = refl
returned_each Zwr O = refl
returned_each Opr K = refl
returned_each Opr O = refl
returned_each Zpr K = refl
returned_each Zpr O = refl
returned_each Zzr K = refl
returned_each Zzr O = refl

module _ (route : Route) (money : Money) (code : ℕ) (byte : code < 256) where
  abbrev waiting : Bool
  waiting = agree (code_waits route money code) (waits_in route money (state_of code))

  abbrev after : Bool
  after = alike (state_of (code_after route money code)) (state_after route money (state_of code))

  right : (waiting && after) ≡ true
  unfolding returned_right
  right = each (returned_right route money) 256 (returned_each route money) code byte

  waits_by_code : code_waits route money code ≡ waits_in route money (state_of code)
  waits_by_code = agree_equal _ _ (and_left waiting after right)

  after_by_code : state_of (code_after route money code) ≡ state_after route money (state_of code)
  after_by_code = alike_equal _ _ (and_right waiting after right)

returned_row : (route : Route) (money : Money) (row : Row) → with_state (state_after route money row.state) row ≡ after_return route money row
returned_row route money row = by (waits_on route money row)
  where
    by : (t : Bool) → with_state (cond t (cleared money row.state) row.state) row ≡ cond t (with_state (cleared money row.state) row) row
    by true = refl
    by false = refl

-- and by the table of a route and a money
module _ (route : Route) (money : Money) (table : List ℕ) (is_table : WaitTable route money table) (code : ℕ) (byte : code < 256) where
  pub taken_few : get_or table code 0 ≤ 2
  taken_few = rw (is_table.told code byte) (by (code_waits route money code) money)
    where
      by : (t : Bool) (money : Money) → only_if t (by_money money 1 2) ≤ 2
      by true K = omega arith
      by true O = omega arith
      by false money = omega arith

  pub taken_within : get_or table code 0 ≤ code
  taken_within = rw (is_table.told code byte) (by (code_waits route money code) refl)
    where
      least : (money : Money) → code_waits route money code ≡ true → by_money money 1 2 ≤ code
      least K h = omega (arith, eqb-true (code % 2) 1 (and_right (route_has route code) (k_waits code) h))
      least O h = omega (arith, eqb-true (code / 2 % 2) 1 (and_right (route_has route code) (o_waits code) h))

      by : (t : Bool) → code_waits route money code ≡ t → only_if t (by_money money 1 2) ≤ code
      by true h = least money h
      by false h = omega arith

  -- it says as much of a row whose state the byte says
  pub told_of_row : (row : Row) → state_of code ≡ row.state → get_or table code 0 ≡ only_if (waits_on route money row) (by_money money 1 2)
  told_of_row row says =
      is_table.told code byte ∙ ap (λ t. only_if t (by_money money 1 2)) (waits_by_code route money code byte ∙ ap (waits_in route money) says)

  module _ (m : List ℕ) (k : ℕ) (there : k < most_rows) (enough : size ≤ length m) (code_there : code ≡ get_or m (code_at k) 0) where
    code_is : code ≡ code_in (row_bytes m k)
    code_is = code_there ∙ sym (code_in_lem m k there enough)

    state_then : state_of (code - get_or table code 0) ≡ state_after route money (state_of (code_in (row_bytes m k)))
    state_then = rw (is_table.told code byte) (after_by_code route money code byte ∙ ap (λ c. state_after route money (state_of c)) code_is)

    pub row_returned : RowReturned route money k m (with_code_at m k (code - get_or table code 0)) (get_or table code 0)
    unfolding row_of with_code_at
    row_returned =
        let stored = code_stored m k (code - get_or table code 0) in
        let row = row_of (row_bytes m k) in
        record {
          row = stored.row there enough ∙ ap (λ x. with_state x row) state_then ∙ returned_row route money row;
          only = stored.only there;
          took = is_table.told code byte
              ∙ ap (λ t. only_if t (by_money money 1 2)) (waits_by_code route money code byte ∙ ap (λ c. waits_in route money (state_of c)) code_is);
          still = λ none.
              ap (λ n. set m (code_at k) (code - n)) none ∙ ap (set m (code_at k)) (none_taken code ∙ code_there) ∙ set-get_or m (code_at k) 0;
        }
      where
        none_taken : (n : ℕ) → n - 0 ≡ n
        none_taken n = omega arith

-- as code makes it, byte after byte
pub record RepliesBelow (route : Route) (money : Money) (n : ℕ) (table : List ℕ) : Type 0 where
  pub long : length table ≡ 256
  pub within : n ≤ 256
  pub told : (code : ℕ) → code < n → get_or table code 0 ≡ wait_in route money code
