-- Rows are added to the totals one after the other, each where no total passes the cap by it: what they come to with those still to add is what they
-- come to with all, and a total past the cap stays past it.
-- Assumes nothing.
use mathlib.Core.Path.{◌≡◌, refl, sym, ap, ◌∙◌}
use mathlib.Core.Bool.{true, false, false≢true}
use mathlib.Core.List.{List, [], ◌∷◌, map}
use Prim.Native.Nat.{ℕ, ◌≤◌}
use native.Mathlib.Omega.{arith}
use borrow.Author.Tests.{leb-true, le-leb}
use Rattle.std.specs.Prelude.{Option, Some, None}
use Rattle.text.proofs.Branches.{and_left, and_right, both_yes, either_way}
use Rattle.money.specs.Money.{total_cap}
use Rattle.money.specs.declared.Money.TheVariants.{K, O}
use Rattle.model.specs.Shipment.{Shipment}
use Rattle.model.specs.Sound.{shipment_sound}
use Rattle.model.proofs.SoundParts.{halves}
use Rattle.model.specs.Book.{Book}
use Rattle.sheet.specs.declared.SheetRow.{SheetRow}
use Rattle.sheet.specs.declared.Totals.{Totals}
use Rattle.sheet.specs.Sheet.{row_for, plus, plus_all, four_within, amounts_within, fees_within, within_cap}
use Rattle.sheet.specs.Inner.Filling.{Within, TotalsWithin, RowWithin, if_within}
use Rattle.sheet.proofs.Dividing.{division_within_lem}

-- four sums within the cap, in plain terms and as a test
four_within_lem : (a b c d : ℕ) → four_within a b c d ≡ true → Within a b c d
four_within_lem a b c d h = record {
  first = leb-true a total_cap (search halves);
  second = leb-true b total_cap (search halves);
  third = leb-true c total_cap (search halves);
  fourth = leb-true d total_cap (search halves);
}

within_four : (a b c d : ℕ) → Within a b c d → four_within a b c d ≡ true
within_four a b c d h =
    both_yes _ _ (le-leb a total_cap h.first)
    (both_yes _ _ (le-leb b total_cap h.second) (both_yes _ _ (le-leb c total_cap h.third) (le-leb d total_cap h.fourth)))

module _ (totals : Totals) where
  pub cap_within : within_cap totals ≡ true → TotalsWithin totals
  unfolding within_cap
  cap_within h =
      let k = amounts_within totals.amounts in
      let o = fees_within totals.fees in
      (four_within_lem _ _ _ _ (and_left k o h), four_within_lem _ _ _ _ (and_right k o h))

  within_cap_holds : TotalsWithin totals → within_cap totals ≡ true
  unfolding within_cap
  within_cap_holds h = both_yes _ _ (within_four _ _ _ _ h.0) (within_four _ _ _ _ h.1)

-- what four sums were before others were added
lower : {a b c d a' b' c' d' : ℕ} → Within a' b' c' d' → a ≤ a' → b ≤ b' → c ≤ c' → d ≤ d' → Within a b c d
lower h first second third fourth = record {
  first = omega (arith, first, h.first);
  second = omega (arith, second, h.second);
  third = omega (arith, third, h.third);
  fourth = omega (arith, fourth, h.fourth);
}

-- the sums of a row
pub row_within : (s : Shipment) → shipment_sound s ≡ true → RowWithin (row_for s)
unfolding row_for
row_within s sound = (division_within_lem K s sound, division_within_lem O s sound)

-- a total that is within the cap at the end was so before
pub was_within : (totals : Totals) (rows : List SheetRow) → within_cap (plus_all totals rows) ≡ true → within_cap totals ≡ true
unfolding plus_all
was_within totals [] h = h
was_within totals (row ∷ rows) h =
    let after = cap_within (plus totals row) (was_within (plus totals row) rows h) in
    within_cap_holds totals
    (lower after.0 (omega arith) (omega arith) (omega arith) (omega arith), lower after.1 (omega arith) (omega arith) (omega arith) (omega arith))

-- totals of which one is above the cap, and totals with which none is
pub above_cap : (totals : Totals) → within_cap totals ≡ false → None ≡ if_within totals
unfolding if_within
above_cap totals above = rw above

pub below_cap : (totals : Totals) → within_cap totals ≡ true → Some totals ≡ if_within totals
unfolding if_within
below_cap totals within = rw within

-- and what it says that there are such, or none
never : {sums : Totals} → ◌≡◌ {A = Option Totals} None (Some sums) → ⊥
never same = let apart : ◌≡◌ {A = ℕ} 0 1 = cc in absurd (omega arith)

module _ (totals : Totals) where
  pub said_none : None ≡ if_within totals → within_cap totals ≡ false
  unfolding if_within
  said_none is = either_way (within_cap totals) (λ within. absurd (never (rw within at is))) (λ above. above)

  pub said_some : {sums : Totals} → Some sums ≡ if_within totals → (within_cap totals ≡ true) × (sums ≡ totals)
  unfolding if_within
  said_some is =
      either_way (within_cap totals)
      (λ within. (within, let same = rw within at is in cc))
      (λ above. absurd (never (sym (rw above at is))))

pub above_already : (totals : Totals) (rows : List SheetRow) → within_cap totals ≡ false → None ≡ if_within (plus_all totals rows)
above_already totals rows above =
    either_way (within_cap (plus_all totals rows))
    (λ within. absurd (false≢true (sym above ∙ was_within totals rows within)))
    (λ over. above_cap (plus_all totals rows) over)

-- The rows of shipments that are left are still to add.
pub record Summing (totals : Totals) (book left : Book) (sums : Totals) : Type 0 where
  pub whole : plus_all sums (map row_for left) ≡ plus_all totals (map row_for book)
  pub within : within_cap sums ≡ true

module _ {totals : Totals} {book : Book} where
  pub summing_begun : within_cap totals ≡ true → Summing totals book book totals
  summing_begun capped = record { whole = refl; within = capped }

  module _ {sums : Totals} {s : Shipment} {left : Book} (summing : Summing totals book (s ∷ left) sums) {row : SheetRow} (is_row : row ≡ row_for s) where
    whole_after : plus_all (plus sums row) (map row_for left) ≡ plus_all totals (map row_for book)
    unfolding plus_all
    whole_after = rw is_row summing.whole

    pub above_here : {added : Option Totals} → added ≡ if_within (plus sums row) → added ≡ None → None ≡ if_within (plus_all totals (map row_for book))
    above_here is none = above_already (plus sums row) (map row_for left) (said_none (plus sums row) (sym none ∙ is)) ∙ ap if_within whole_after

    pub summing_on : {added : Option Totals} {next : Totals} → added ≡ if_within (plus sums row) → added ≡ Some next → Summing totals book left next
    summing_on is some =
        let told = said_some (plus sums row) (sym some ∙ is) in
        rw told.1 (record { whole = whole_after; within = told.0 })

  pub all_summed : {sums : Totals} → Summing totals book [] sums → Some sums ≡ if_within (plus_all totals (map row_for book))
  unfolding plus_all
  all_summed {sums} summing = below_cap sums summing.within ∙ ap if_within summing.whole

-- by which rows are added up
pub ruleset summing = (cap_within, above_already, summing_begun, above_here, summing_on, all_summed)
