-- Returns by OPR, ZPR and ZZR: row by row, what waits in a shipment's orders is added up and waits no more.
-- Assumes nothing.
use mathlib.Core.Path.{◌≡◌, refl, sym, ap, ◌∙◌}
use mathlib.Core.Bool.{Bool, true, false, not, ◌&&◌, false≢true}
use mathlib.Core.List.{List, [], ◌∷◌, map}
use Prim.Native.Nat.{ℕ, zero, suc, ◌+◌, ◌*◌, ◌/◌, ◌≤◌, ◌<◌}
use native.Mathlib.Numerals.{add-one}
use native.Mathlib.Omega.{arith}
use borrow.Author.Tests.{lt-ltb, leb-true, eqb-true, eqb-false, eq-eqb, ne_eqb}
use lib.Dec.{ltb, eqb}
use Rattle.text.proofs.Branches.{and_right, both_yes, both_ways, either_way}
use Rattle.money.specs.Money.{WithinSum, sum_of, grosze_in}
use Rattle.money.specs.declared.Money.{Money}
use Rattle.money.specs.declared.Money.TheVariants.{K, O}
use Rattle.money.specs.declared.Sum.{Sum}
use Rattle.money.proofs.Sums.{grosze_is}
use Rattle.fee.specs.declared.Terms.{Terms}
use Rattle.fee.proofs.Division.{facts_of}
use Rattle.epe.proofs.QuestionLaws.{asked_no, asked_yes, asked_none}
use Rattle.model.specs.Shipment.{most_rows, by_money, Shipment, is_paired, only_if, sum_over, worth, need}
use Rattle.model.specs.Calls.{Refused, Returned, leave, with_rows, waits_on, after_return, waiting, waiting_orders, is_zpr_with_o, returned_by}
use Rattle.model.specs.Sound.{row_sound, rows_sound}
use Rattle.model.specs.declared.Route.{Route}
use Rattle.model.specs.declared.Row.{Row}
use Rattle.model.proofs.Shipments.{only_if_true}
use Rattle.model.proofs.SoundParts.{halves, in_order}
use Rattle.memory.specs.Layout.{row_bytes}
use Rattle.memory.specs.Rows.{row_of}
use Rattle.memory.specs.Heads.{shipment_in}
use Rattle.memory.specs.Read.{rows_from, orders_at, shipment_at, Sits}
use Rattle.acts.specs.Inner.Place.{ActAt}
use Rattle.acts.specs.Inner.Waits.{worth_waiting, fees_wait_in_vain, waits_in_vain, RowCleared, RowsReturned, Cleared}
use Rattle.acts.specs.declared.answer.Returned.{Returned as Waited}
use Rattle.acts.specs.declared.route.Taken.{Taken}
use Rattle.acts.proofs.RowsInTurn.{none_stored, one_more_stored}
use Rattle.acts.proofs.RowLaws.{rows_mapped}
use Rattle.acts.proofs.ShipmentChanged.{refused_at, rows_changed}

-- a wait is at most 2, and counts as often as it adds to the byte of state
pub twice_at_most : (n times : ℕ) → times ≤ 2 → n * times ≤ 2 * n
twice_at_most n zero h = omega arith
twice_at_most n (suc zero) h = omega arith
twice_at_most n (suc (suc zero)) h = omega arith
twice_at_most n (suc (suc (suc times))) h = absurd (omega arith)

only_if_most : (t : Bool) (n : ℕ) → only_if t n ≤ n
only_if_most true n = omega arith
only_if_most false n = omega arith

one_more_worth : (money : Money) (waits : Bool) (total n : ℕ)
    → total * by_money money 1 2 + n * only_if waits (by_money money 1 2) ≡ (total + only_if waits n) * by_money money 1 2
one_more_worth K true total n = omega arith
one_more_worth K false total n = omega arith
one_more_worth O true total n = omega arith
one_more_worth O false total n = omega arith

one_more_order : (money : Money) (waits : Bool) (total : ℕ) → total * by_money money 1 2 + only_if waits (by_money money 1 2) ≡ (total + only_if waits 1) * by_money money 1 2
one_more_order K true total = omega arith
one_more_order K false total = omega arith
one_more_order O true total = omega arith
one_more_order O false total = omega arith

counted_once : (money : Money) (n : ℕ) → n * by_money money 1 2 / by_money money 1 2 ≡ n
counted_once K n = omega arith
counted_once O n = omega arith

module _ (m : List ℕ) (f : Row → ℕ) where
  sum_then : (k n : ℕ) → sum_over f (rows_from m k (suc n)) ≡ sum_over f (rows_from m k n) + f (row_of (row_bytes m (k + n)))
  unfolding rows_from
  sum_then k zero = let here : k + 0 ≡ k = omega arith in rw here (omega arith)
  sum_then k (suc n) =
      let next : k + suc n ≡ suc k + n = omega arith in
      let rest = sum_then (suc k) n in
      rw next (omega arith)

  sum_more : (k n : ℕ) → sum_over f (rows_from m k n) + f (row_of (row_bytes m (k + n))) ≡ sum_over f (rows_from m k (n + 1))
  sum_more k n = rw add-one (sym (sum_then k n))

-- rows one after the other, and what waits in one more
pub one_more_waits : (route : Route) (money : Money) (m : List ℕ) (k n : ℕ) {before after taken : ℕ}
    → before ≡ worth_waiting route money (rows_from m k n) * by_money money 1 2
    → taken ≡ only_if (waits_on route money (row_of (row_bytes m (k + n)))) (by_money money 1 2)
    → after ≡ before + worth money (row_of (row_bytes m (k + n))) * taken
    → after ≡ worth_waiting route money (rows_from m k (n + 1)) * by_money money 1 2
one_more_waits route money m k n {before} before_is took added =
    let row = row_of (row_bytes m (k + n)) in
    let waits = waits_on route money row in
    added
    ∙ ap (λ n. before + worth money row * n) took
    ∙ ap (λ n. n + worth money row * only_if waits (by_money money 1 2)) before_is
    ∙ one_more_worth money waits _ (worth money row)
    ∙ ap (λ n. n * by_money money 1 2) (sum_more m (λ row. only_if (waits_on route money row) (worth money row)) k n)

-- and where rows are left of some
pub left_waits : (route : Route) (money : Money) (row : Row) (left : List Row) (before : ℕ) {all taken : ℕ}
    → before + worth_waiting route money (row ∷ left) * by_money money 1 2 ≡ all → taken ≡ only_if (waits_on route money row) (by_money money 1 2)
    → before + worth money row * taken + worth_waiting route money left * by_money money 1 2 ≡ all
left_waits route money row left before going took =
    ap (λ n. before + worth money row * n + worth_waiting route money left * by_money money 1 2) took
    ∙ split money (waits_on route money row) (worth money row) (worth_waiting route money left)
    ∙ going
  where
    split : (money : Money) (waits : Bool) (n rest : ℕ)
        → before + n * only_if waits (by_money money 1 2) + rest * by_money money 1 2 ≡ before + (only_if waits n + rest) * by_money money 1 2
    split K true n rest = omega arith
    split K false n rest = omega arith
    split O true n rest = omega arith
    split O false n rest = omega arith

-- rows returned one after the other
abbrev orders_waiting : Route → Money → List Row → ℕ
orders_waiting route money rows = sum_over (λ (row : Row). only_if (waits_on route money row) 1) rows

pub record Clearing (route : Route) (money : Money) (k n : ℕ) (m m' : List ℕ) (taken : Taken) : Type 0 where
  pub added : taken.worth ≡ worth_waiting route money (rows_from m k n) * by_money money 1 2
  pub counted : taken.count ≡ orders_waiting route money (rows_from m k n) * by_money money 1 2
  pub returned : RowsReturned route money k n m m'
  pub still : taken.count ≡ 0 → m' ≡ m

module _ {route : Route} {money : Money} {k : ℕ} where
  pub none_cleared : {m : List ℕ} → Clearing route money k 0 m m (record { worth = 0; count = 0 })
  unfolding rows_from
  none_cleared = record { added = none; counted = none; returned = none_stored; still = λ h. refl }
    where
      none : 0 ≡ 0 * by_money money 1 2
      none = omega arith

  pub one_more_cleared : {n : ℕ} {l m m' : List ℕ} {before after : Taken} → k + n < most_rows → Clearing route money k n l m before
      → RowCleared route money (k + n) before m m' after → Clearing route money k (n + 1) l m' after
  one_more_cleared {n} {l} {m} {m'} {before} {after} there rest one =
      let row_is = rest.returned.only.other_rows (k + n) there (λ among. omega (arith, among.1)) in
      let waits = waits_on route money (row_of (row_bytes l (k + n))) in
      let took : one.taken ≡ only_if waits (by_money money 1 2)
      = one.row.took ∙ ap (λ bytes. only_if (waits_on route money (row_of bytes)) (by_money money 1 2)) row_is in
      record {
        added = one_more_waits route money l k n rest.added took
            (one.added ∙ ap (λ bytes. before.worth + worth money (row_of bytes) * one.taken) row_is);
        counted = one.counted
            ∙ ap (λ n. before.count + n) took
            ∙ ap (λ n. n + only_if waits (by_money money 1 2)) rest.counted
            ∙ one_more_order money waits _
            ∙ ap (λ n. n * by_money money 1 2) (sum_more l (λ row. only_if (waits_on route money row) 1) k n);
        returned = one_more_stored there rest.returned
            (one.row.row ∙ ap (λ bytes. after_return route money (row_of bytes)) row_is) one.row.only;
        still = λ none.
            let grown = one.counted in
            one.row.still (omega arith) ∙ rest.still (omega arith);
      }

-- all rows of the shipment at a place, and what they come to once each wait counts as one
module _ {route : Route} {money : Money} (m : List ℕ) (i k : ℕ) {wait : ℕ} {m' : List ℕ} {taken : Taken}
    (all : Clearing route money k (orders_at m i) m m' taken) (wait_is : wait ≡ by_money money 1 2) where
  once : (x y : ℕ) → x ≡ y * by_money money 1 2 → x / wait ≡ y
  once x y is = ap (λ w. x / w) wait_is ∙ ap (λ x. x / by_money money 1 2) is ∙ counted_once money y

  pub worth_is : taken.worth / wait ≡ waiting route money (shipment_at m i k)
  unfolding waiting shipment_in
  worth_is = once taken.worth _ all.added

  count_is_once : taken.count / wait ≡ waiting_orders route money (shipment_at m i k)
  unfolding waiting_orders shipment_in
  count_is_once = once taken.count _ all.counted

  nothing : (n : ℕ) → 0 * n ≡ 0
  nothing n = omega arith

  pub all_cleared : {sum : Sum} → sum ≡ sum_of money (taken.worth / wait) → Cleared route money i k m m' (record { sum = sum; count = taken.count / wait })
  unfolding waiting_orders shipment_in
  all_cleared sum_is = record {
    sum = sum_is ∙ ap (sum_of money) worth_is;
    count = count_is_once;
    returned = all.returned;
    still = λ none. all.still (all.counted ∙ ap (λ n. n * by_money money 1 2) (sym count_is_once ∙ none) ∙ nothing (by_money money 1 2));
  }

-- what waits is part of the need
waits_below : (route : Route) (money : Money) (s : Shipment) → waiting route money s ≤ need money s
unfolding waiting need
waits_below route money s = by s.rows
  where
    by : (rows : List Row) → worth_waiting route money rows ≤ sum_over (worth money) rows
    by [] = omega arith
    by (row ∷ rows) = let rest = by rows in let here = only_if_most (waits_on route money row) (worth money row) in omega arith

-- where orders may wait in vain, the sum is asked beforehand
worthless : (route : Route) (money : Money) (s : Shipment) → waits_in_vain route money s ≡ true → waiting route money s ≡ 0
worthless route K s h = absurd (false≢true h)
worthless route O s h = eqb-true (waiting route O s) 0 (and_right (eqb s.agreed.terms.flat.0 0) (eqb (waiting route O s) 0) h)

-- elsewhere an order that waits is worth something, so that where nothing waits no order does
module _ (route : Route) (s : Shipment) where
  flat_above : fees_wait_in_vain route s ≡ false → waiting route O s ≡ 0 → 1 ≤ s.agreed.terms.flat.0
  flat_above h none =
      either_way (eqb s.agreed.terms.flat.0 0)
      (λ zero_flat. absurd (false≢true (sym h ∙ both_yes _ _ zero_flat (eq-eqb (waiting route O s) 0 none))))
      (λ above. let some = eqb-false s.agreed.terms.flat.0 0 above in omega arith)

  least : (money : Money) → waits_in_vain route money s ≡ false → waiting route money s ≡ 0 → (row : Row)
      → row_sound s.agreed.terms s.stage row ≡ true → 1 ≤ worth money row
  unfolding row_sound
  least K h none row sound = leb-true 1 row.amount.0 (search halves)
  least O h none row sound =
      let facts = facts_of s.agreed.terms row.amount.0 row.fee.0 row.remainder (search halves) in
      omega (arith, flat_above h none, facts.flat)

  unwaited : (money : Money) → ((row : Row) → row_sound s.agreed.terms s.stage row ≡ true → 1 ≤ worth money row) → (rows : List Row)
      → rows_sound s.agreed.terms s.stage rows ≡ true → worth_waiting route money rows ≡ 0 → orders_waiting route money rows ≡ 0
  unfolding rows_sound
  unwaited money some [] sound none = refl
  unwaited money some (row ∷ rows) sound none =
      let rest = unwaited money some rows (search halves) (omega arith) in
      let here = by (waits_on route money row) (worth money row) (some row (search halves)) (omega arith) in
      omega arith
    where
      by : (t : Bool) (n : ℕ) → 1 ≤ n → only_if t n ≡ 0 → only_if t 1 ≡ 0
      by true n some none = absurd (omega arith)
      by false n some none = refl

-- whether what waits in O is asked beforehand
module _ (t : Shipment) (route : Route) where
  module _ {terms : Terms} (terms_is : terms ≡ t.agreed.terms) where
    pub none_in_vain : (terms.flat.0 ≡ 0 → ⊥) → eqb terms.flat.0 0 ≡ fees_wait_in_vain route t
    none_in_vain above =
        let not_zero = ne_eqb terms.flat.0 0 above in
        not_zero ∙ ap (λ t'. t' && eqb (waiting route O t) 0) (sym not_zero ∙ ap (λ (terms : Terms). eqb terms.flat.0 0) terms_is)

    pub sum_in_vain : (rows : List Row) → rows ≡ t.rows → {sum : ℕ} → terms.flat.0 ≡ 0 → sum ≡ worth_waiting route O rows * 2 → eqb sum 0 ≡ fees_wait_in_vain route t
    unfolding waiting
    sum_in_vain rows same {sum} none sum_are =
        let waits = worth_waiting route O t.rows in
        let sum_is : sum ≡ waits * 2 = sum_are ∙ ap (λ rows. worth_waiting route O rows * 2) same in
        both_ways (eqb sum 0) (eqb waits 0)
        (λ yes_sum. eq-eqb waits 0 (omega (arith, eqb-true sum 0 yes_sum)))
        (λ yes_waits. eq-eqb sum 0 (omega (arith, eqb-true waits 0 yes_waits)))
        ∙ ap (λ t'. t' && eqb waits 0) (sym (eq-eqb terms.flat.0 0 none) ∙ ap (λ (terms : Terms). eqb terms.flat.0 0) terms_is)

module _ (m : List ℕ) (i k : ℕ) (t : Shipment) (is : t ≡ shipment_at m i k) where
  abbrev s : Shipment
  s = shipment_at m i k

  -- "Paired? 19"
  module _ (route : Route) (money : Money) {paired : Bool} (is-paired : paired ≡ is_paired t.stage) where
    paired_test : is_paired s.stage ≡ paired
    paired_test = sym (is-paired ∙ ap (λ (s : Shipment). is_paired s.stage) is)

    pub unpaired_at : paired ≡ false → ActAt m i k (returned_by route money) (Refused 19) m
    unfolding returned_by
    unpaired_at unpaired = refused_at (asked_no 19 _ _ _ (paired_test ∙ unpaired))

    -- "Not ZPR with O? 22"
    module _ (held : paired ≡ true) {barred : Bool} (is_barred : barred ≡ is_zpr_with_o route money) where
      pub undelivered_fee_at : barred ≡ true → ActAt m i k (returned_by route money) (Refused 22) m
      unfolding returned_by
      undelivered_fee_at fee = refused_at (asked_yes 19 _ _ _ (paired_test ∙ held) ∙ asked_no 22 _ _ _ (ap not (sym is_barred ∙ fee)))

      -- "Anything above zero to return? 23"
      module _ (free : barred ≡ false) where
        nothing_to_return : waiting route money s ≡ 0 → ActAt m i k (returned_by route money) (Refused 23) m
        unfolding returned_by
        nothing_to_return nothing =
            refused_at
            (asked_yes 19 _ _ _ (paired_test ∙ held)
            ∙ asked_yes 22 _ _ _ (ap not (sym is_barred ∙ free))
            ∙ asked_no 23 _ _ _ (ap (ltb 0) nothing))

        pub waiting_within : Sits m i k → WithinSum (waiting route money s)
        waiting_within sits =
            let moneys = (in_order s sits.sound).moneys money in
            let all_needed = only_if_true (is_paired s.stage) (need money s) (paired_test ∙ held) in
            omega (arith, waits_below route money s, all_needed, moneys.covered, moneys.accepted_fits)

        module _ {vain : Bool} (is-vain : vain ≡ waits_in_vain route money t) where
          is_vain : vain ≡ waits_in_vain route money s
          is_vain = is-vain ∙ ap (waits_in_vain route money) is

          pub worthless_at : vain ≡ true → ActAt m i k (returned_by route money) (Refused 23) m
          worthless_at h = nothing_to_return (worthless route money s (sym is_vain ∙ h))

          module _ (worth_it : vain ≡ false) (sits : Sits m i k) {m' : List ℕ} {found : Waited} (cleared : Cleared route money i k m m' found) where
            sum_is : waiting route money s ≡ grosze_in found.sum
            sum_is = sym (grosze_is money _ cleared.sum)

            pub nothing_at : grosze_in found.sum ≡ 0 → ActAt m i k (returned_by route money) (Refused 23) m'
            unfolding waiting waiting_orders
            nothing_at nothing =
                let sound = (in_order s sits.sound).rows_sound in
                let some = least route s money (sym is_vain ∙ worth_it) (sum_is ∙ nothing) in
                let no_order = unwaited route s money some s.rows sound (sum_is ∙ nothing) in
                rw (cleared.still (cleared.count ∙ no_order)) (nothing_to_return (sum_is ∙ nothing))

            pub returned_at : 0 < grosze_in found.sum → ActAt m i k (returned_by route money) (Returned (grosze_in found.sum) found.count) m'
            unfolding returned_by shipment_in
            returned_at some =
                let all = cleared.returned in
                rows_changed refl sits.few all.only (rows_mapped m _ (after_return route money) k (orders_at m i) all.rows)
                (asked_yes 19 _ _ _ (paired_test ∙ held)
                ∙ asked_yes 22 _ _ _ (ap not (sym is_barred ∙ free))
                ∙ asked_yes 23 _ _ _ (ap (ltb 0) sum_is ∙ lt-ltb 0 (grosze_in found.sum) some)
                ∙ asked_none _ _
                ∙ ap (λ answer. leave answer (with_rows (map (after_return route money) s.rows) s)) (λ t. Returned (sum_is t) (sym cleared.count t)))
