-- A pass over rows that counts the faulty orders: what is still to do makes the whole.
-- Assumes nothing.
use mathlib.Core.Path.{◌≡◌, refl, sym, ap, ◌∙◌}
use mathlib.Core.List.{List, [], ◌∷◌}
use Prim.Native.Nat.{ℕ, ◌+◌, ◌*◌, ◌^◌, ◌≤◌, ◌<◌}
use native.Mathlib.Numerals.{add-one}
use native.Mathlib.Omega.{arith}
use lib.ListN.{length}
use Rattle.std.specs.Prelude.{Option, Some, None}
use Rattle.std.specs.Option.{option_and_then}
use Rattle.text.specs.Bytes.{between}
use Rattle.text.proofs.Branches.{either_way}
use Rattle.model.specs.declared.Row.{Row}
use Rattle.model.specs.declared.State.{State}
use Rattle.model.specs.declared.State.TheVariants.{Open, Posted, Paid, Faulty, Undelivered, Withdrawn}
use Rattle.write.specs.Spelled.{places_of}
use Rattle.write.proofs.Spelling.{places_at_most}
use Rattle.report.specs.Ope.{code_for}
use Rattle.report.specs.Inner.Faults.{found_order, found_in}
use Rattle.report.specs.declared.ope.Found.{Found}

abbrev pub no_faults : Found
no_faults = record { count = 0; length = 0 }

-- Orders are left of some, the first of which has this number.
pub record Finding (codes : List ℕ) (rows left : List Row) (found : Found) (number : ℕ) : Type 0 where
  pub place : number + length left ≡ 1 + length rows
  pub few : found.count < number
  pub short : found.length ≤ number * 49
  pub rest : found_in codes found number left ≡ found_in codes no_faults 1 rows

pub finding_begun : (codes : List ℕ) (rows : List Row) → Finding codes rows rows no_faults 1
finding_begun codes rows = record { place = refl; few = omega arith; short = omega arith; rest = refl }

-- an order more is at most one faulty order more, and 49 bytes
pub record OneMore (found next : Found) : Type 0 where
  pub count : next.count ≤ found.count + 1
  pub length : next.length ≤ found.length + 49

same_found : {found next : Found} → Some found ≡ Some next → OneMore found next
same_found {found = found} {next = next} is = let same : found ≡ next = cc in rw (sym same) (record { count = omega arith; length = omega arith })

module _ (codes : List ℕ) (found : Found) (number : ℕ) {next : Found} (running_long : places_of (found.count + 1) ≤ 20) (number_long : places_of number ≤ 20) where
  one_more : (state : State) → found_order codes found number state ≡ Some next → OneMore found next
  one_more Open is = same_found is
  one_more Posted is = same_found is
  one_more Paid is = same_found is
  one_more (Faulty fault k o) is =
      either_way (between 308 336 (code_for codes fault))
      (λ coded. let told = rw coded at is in let same : record { count = found.count + 1; length = found.length + places_of (found.count + 1) + places_of number + 9 } ≡ next = cc in
      rw (sym same) (record { count = omega arith; length = omega arith }))
      (λ none. let told = rw none at is in let apart : ◌≡◌ {A = ℕ} 0 1 = cc in absurd (omega arith))
  one_more (Undelivered k) is = same_found is
  one_more (Withdrawn k o) is = same_found is

module _ {codes : List ℕ} {rows : List Row} (row : Row) {left : List Row} {found : Found} {number : ℕ} (so_far : Finding codes rows (row ∷ left) found number)
    {state : State} (is_state : state ≡ row.state) {added : Option Found} (is_added : added ≡ found_order codes found number state) where
  rest_here : option_and_then (λ next. found_in codes next (number + 1) left) added ≡ found_in codes no_faults 1 rows
  unfolding found_in
  rest_here = rw (is_added ∙ ap (found_order codes found number) is_state, add-one) so_far.rest

  pub finding_on : {next : Found} → added ≡ Some next → length rows ≤ 2_048 → Finding codes rows left next (number + 1)
  finding_on {next} is_next most =
      let few = so_far.few in
      let short = so_far.short in
      let running = places_at_most 20 (found.count + 1) (omega (arith, so_far.place)) (omega arith) in
      let its = places_at_most 20 number (omega (arith, so_far.place)) (omega arith) in
      let grown = one_more codes found number running its state (sym is_added ∙ is_next) in
      record {
        place = omega (arith, so_far.place);
        few = omega (arith, grown.count);
        short = omega (arith, grown.length);
        rest = rw is_next at rest_here;
      }

  pub finding_none : added ≡ None → None ≡ found_in codes no_faults 1 rows
  finding_none none = rw none at rest_here

module _ {codes : List ℕ} {rows : List Row} {found : Found} {number : ℕ} (all : Finding codes rows [] found number) where
  pub finding_done : Some found ≡ found_in codes no_faults 1 rows
  unfolding found_in
  finding_done = all.rest

  pub finding_short : length rows ≤ 2_048 → found.length ≤ 2 ^ 32
  finding_short most = omega (arith, all.place, all.short)

-- by which faulty orders are counted
pub ruleset finding = (finding_begun, finding_on, finding_none, finding_done, finding_short)
