-- What the joined classes of a shipment's rows tell of them, where each is charged its fee: whether all are sound, and whether any is Faulty.
-- Assumes nothing.
use mathlib.Core.Path.{◌≡◌, refl, sym, ap, ◌∙◌}
use mathlib.Core.Bool.{Bool, true, false, not, cond, ◌&&◌, ◌||◌, false≢true, or-false, or_assoc}
use mathlib.Core.List.{List, [], ◌∷◌}
use Prim.Native.Nat.{ℕ, ◌+◌, ◌%◌, ◌≤◌, ◌<◌}
use native.Mathlib.Omega.{arith}
use borrow.Author.Tests.{eqb-true, eqb-false, eq-eqb, ne_eqb, ltb-true, lt-ltb}
use lib.Bits.{bit_or, or_lt, or_step, or_add_and, and_le_l, and_le_r}
use lib.Dec.{eqb, ltb}
use Rattle.text.proofs.Branches.{and_left, and_right, both_yes, both_ways, either_way}
use Rattle.fee.specs.declared.Terms.{Terms}
use Rattle.epe.specs.Profile.{each}
use Rattle.model.specs.Shipment.{is_paired, only_if, is_faulty, any_faulty}
use Rattle.model.specs.Sound.{fault_in_range, before_pairing, row_charged, row_sound, rows_sound}
use Rattle.model.specs.declared.Row.{Row}
use Rattle.model.specs.declared.Stage.{Stage}
use Rattle.model.specs.declared.State.{State}
use Rattle.model.proofs.SoundParts.{halves}
use Rattle.memory.specs.Inner.Classes.{class_of}
use Rattle.sound.specs.Inner.Tally.{joined}

-- what is joined is no less than its parts, and below 2 or 4 where they are
join_first : (a b : ℕ) → a ≤ bit_or a b
join_first a b = omega (arith, or_add_and a b, and_le_r a b)

join_second : (a b : ℕ) → b ≤ bit_or a b
join_second a b = omega (arith, or_add_and a b, and_le_l a b)

joined_least : (classes : ℕ) (rows : List Row) → classes ≤ joined classes rows
joined_least classes [] = omega arith
joined_least classes (row ∷ rows) =
    let class = class_of row.state in
    omega (arith, join_first classes class, joined_least (bit_or classes class) rows)

join_low : (paired : Bool) (a b : ℕ) → a < cond paired 4 2 → b < cond paired 4 2 → bit_or a b < cond paired 4 2
join_low true a b = or_lt 2 a b
join_low false a b = or_lt 1 a b

-- the questions of one state
abbrev classed : Bool → Bool → Bool → ℕ
classed faulty fault before = only_if faulty 1 + (only_if (not before) 2 + only_if (not fault) 4)

class_fits : (faulty fault before paired : Bool) → ltb (classed faulty fault before) (cond paired 4 2) ≡ (fault && (paired || before))
class_fits true true true true = refl
class_fits true true true false = refl
class_fits true true false true = refl
class_fits true true false false = refl
class_fits true false true true = refl
class_fits true false true false = refl
class_fits true false false true = refl
class_fits true false false false = refl
class_fits false true true true = refl
class_fits false true true false = refl
class_fits false true false true = refl
class_fits false true false false = refl
class_fits false false true true = refl
class_fits false false true false = refl
class_fits false false false true = refl
class_fits false false false false = refl

class_faulty : (faulty fault before : Bool) → eqb (classed faulty fault before % 2) 1 ≡ faulty
class_faulty true true true = refl
class_faulty true true false = refl
class_faulty true false true = refl
class_faulty true false false = refl
class_faulty false true true = refl
class_faulty false true false = refl
class_faulty false false true = refl
class_faulty false false false = refl

module _ (terms : Terms) (stage : Stage) (paired : Bool) (e : is_paired stage ≡ paired) where
  state_fits : (state : State) → ltb (class_of state) (cond paired 4 2) ≡ (fault_in_range state && (is_paired stage || before_pairing state))
  state_fits state = rw e (class_fits (is_faulty state) (fault_in_range state) (before_pairing state) paired)

  row_low : (row : Row) → row_sound terms stage row ≡ true → (class_of row.state < cond paired 4 2) × (row_charged terms row ≡ true)
  unfolding row_sound
  row_low row h = (ltb-true _ _ (state_fits row.state ∙ search halves), search halves)

  low_row : (row : Row) → class_of row.state < cond paired 4 2 → row_charged terms row ≡ true → row_sound terms stage row ≡ true
  unfolding row_sound
  low_row row low charged = both_yes _ _ charged (sym (state_fits row.state) ∙ lt-ltb _ _ low)

  rows_low : (classes : ℕ) (rows : List Row) → classes < cond paired 4 2 → rows_sound terms stage rows ≡ true
      → (joined classes rows < cond paired 4 2) × (each (row_charged terms) rows ≡ true)
  unfolding rows_sound
  rows_low classes [] low h = (low, refl)
  rows_low classes (row ∷ rows) low h =
      let first = row_low row (search halves) in
      let rest = rows_low (bit_or classes (class_of row.state)) rows (join_low paired classes (class_of row.state) low first.0) (search halves) in
      (rest.0, both_yes (row_charged terms row) _ first.1 rest.1)

  low_rows : (classes : ℕ) (rows : List Row) → joined classes rows < cond paired 4 2 → each (row_charged terms) rows ≡ true → rows_sound terms stage rows ≡ true
  unfolding rows_sound
  low_rows classes [] low charged = refl
  low_rows classes (row ∷ rows) low charged =
      let class = class_of row.state in
      let least = joined_least (bit_or classes class) rows in
      both_yes _ _ (low_row row (omega (arith, join_second classes class)) (and_left (row_charged terms row) (each (row_charged terms) rows) charged))
      (low_rows (bit_or classes class) rows low (and_right (row_charged terms row) (each (row_charged terms) rows) charged))

-- as code asks it
abbrev fit : Bool → ℕ → Bool → Bool
fit paired classes charged = cond charged (cond paired (ltb classes 4) (ltb classes 2)) false

low_fit : (paired : Bool) (classes : ℕ) (charged : Bool) → classes < cond paired 4 2 → charged ≡ true → fit paired classes charged ≡ true
low_fit true classes charged low h = rw h (lt-ltb classes 4 low)
low_fit false classes charged low h = rw h (lt-ltb classes 2 low)

fit_low : (paired : Bool) (classes : ℕ) (charged : Bool) → fit paired classes charged ≡ true → (classes < cond paired 4 2) × (charged ≡ true)
fit_low true classes true h = (ltb-true classes 4 h, refl)
fit_low false classes true h = (ltb-true classes 2 h, refl)
fit_low paired classes false h = absurd (false≢true h)

pub rows_fit_lem : (terms : Terms) (stage : Stage) (rows : List Row)
    → rows_sound terms stage rows ≡ fit (is_paired stage) (joined 0 rows) (each (row_charged terms) rows)
rows_fit_lem terms stage rows = by (is_paired stage) refl
  where
    begin : (paired : Bool) → 0 < cond paired 4 2
    begin true = omega arith
    begin false = omega arith

    by : (paired : Bool) → is_paired stage ≡ paired → rows_sound terms stage rows ≡ fit paired (joined 0 rows) (each (row_charged terms) rows)
    by paired e =
        both_ways _ _
        (λ h.
        let low = rows_low terms stage paired e 0 rows (begin paired) h in
        low_fit paired (joined 0 rows) (each (row_charged terms) rows) low.0 low.1)
        (λ h.
        let low = fit_low paired (joined 0 rows) (each (row_charged terms) rows) h in
        low_rows terms stage paired e 0 rows low.0 low.1)

-- the lowest bit
odd_join : (a b : ℕ) → eqb (bit_or a b % 2) 1 ≡ (eqb (a % 2) 1 || eqb (b % 2) 1)
odd_join a b =
    either_way (eqb (a % 2) 1) (λ h. rw h (eq-eqb (bit_or a b % 2) 1 (omega (arith, or_step a b, eqb-true (a % 2) 1 h))))
    (λ h.
    rw h
    (either_way (eqb (b % 2) 1) (λ i. rw i (eq-eqb (bit_or a b % 2) 1 (omega (arith, or_step a b, eqb-true (b % 2) 1 i))))
    (λ i. rw i (ne_eqb (bit_or a b % 2) 1 (let even = eqb-false (a % 2) 1 h in let too = eqb-false (b % 2) 1 i in omega (arith, or_step a b))))))

faulty_from_lem : (classes : ℕ) (rows : List Row) → (eqb (classes % 2) 1 || any_faulty rows) ≡ eqb (joined classes rows % 2) 1
unfolding any_faulty
faulty_from_lem classes [] = or-false (eqb (classes % 2) 1)
faulty_from_lem classes (row ∷ rows) =
    let state = row.state in
    let join : eqb (bit_or classes (class_of state) % 2) 1 ≡ (eqb (classes % 2) 1 || is_faulty state) =
    odd_join classes (class_of state)
    ∙ ap (λ t. eqb (classes % 2) 1 || t) (class_faulty (is_faulty state) (fault_in_range state) (before_pairing state)) in
    sym (or_assoc (eqb (classes % 2) 1) (is_faulty state) (any_faulty rows))
    ∙ ap (λ t. t || any_faulty rows) (sym join)
    ∙ faulty_from_lem (bit_or classes (class_of state)) rows

pub any_faulty_lem : (rows : List Row) → any_faulty rows ≡ eqb (joined 0 rows % 2) 1
any_faulty_lem rows = faulty_from_lem 0 rows
