-- A shipment is sound exactly where it is judged so, by its head and the tally of its rows.
-- Assumes nothing.
use mathlib.Core.Path.{◌≡◌, refl, sym, ◌∙◌, ap}
use mathlib.Core.Bool.{Bool, true, false, not, cond, ◌&&◌, ◌||◌, false≢true}
use mathlib.Core.List.{List}
use Prim.Native.Nat.{ℕ, ◌+◌, ◌≤◌, ◌<◌}
use native.Mathlib.Omega.{arith}
use borrow.Author.Tests.{le-leb, lt-leb, leb-true}
use lib.Dec.{leb}
use lib.ListN.{length}
use Rattle.std.specs.Prelude.{Option, Some, None}
use Rattle.text.proofs.Branches.{and_left, and_right, and-true, first_no_lem, second_no}
use Rattle.money.specs.Money.{sum_cap, is_sum, WithinSum}
use Rattle.money.specs.declared.Money.{Money}
use Rattle.fee.specs.Fee.{terms_fit}
use Rattle.fee.specs.declared.Terms.{Terms}
use Rattle.epe.specs.Profile.{each}
use Rattle.epe.specs.Name.{name_in_form}
use Rattle.model.specs.Shipment.{most_rows, only_if, need}
use Rattle.model.specs.Sound.{money_sound, row_charged, shipment_sound}
use Rattle.memory.specs.Layout.{head_bytes}
use Rattle.memory.specs.Heads.{name_in, terms_in, stage_in, flags_in_form, order_count_in, transfers_in, surplus_in, shipment_in}
use Rattle.memory.specs.Read.{rows_from}
use Rattle.sound.specs.declared.tally.Tally.{Tally}
use Rattle.sound.specs.Inner.Tally.{tally_of, paired_in, waiting_in, rows_fit, go_ahead_fits, is_covered, money_fits, moneys_fit, judged, judged_if, JudgedIsSound}
use Rattle.sound.specs.Inner.Walk.{sound_at}
use Rattle.memory.proofs.Columns.{rows_many}
use Rattle.sound.proofs.RowClasses.{rows_fit_lem, any_faulty_lem}

-- the two questions of the go-ahead as one
go_ahead_holds : (given faulty paired t : Bool)
    → ((not given || faulty) && ((not (paired && faulty) || given) && t)) ≡ (cond given faulty (cond paired (not faulty) true) && t)
go_ahead_holds true true true t = refl
go_ahead_holds true true false t = refl
go_ahead_holds true false paired t = refl
go_ahead_holds false true true t = refl
go_ahead_holds false false true t = refl
go_ahead_holds false faulty false t = refl

pub judged_is_sound : JudgedIsSound
unfolding shipment_sound money_sound need shipment_in rows_fit go_ahead_fits is_covered money_fits moneys_fit judged
judged_is_sound head rows = by (each (row_charged (terms_in head)) rows) refl
  where
    is_sound : Bool
    is_sound = shipment_sound (shipment_in head rows)

    asked : Option Tally → Bool
    asked tally = name_in_form (name_in head) && (terms_fit (terms_in head) && judged_if head (length rows) tally)

    by : (t : Bool) → each (row_charged (terms_in head)) rows ≡ t → is_sound ≡ asked (tally_of (terms_in head) rows)
    by true charged = rw (rows_fit_lem (terms_in head) (stage_in head) rows, charged, any_faulty_lem rows, go_ahead_holds)
    by false charged = rw (rows_fit_lem (terms_in head) (stage_in head) rows, charged, second_no (leb 1 (length rows)) false refl)

-- the sums of a money, as code asks for them: both in range, then what they cover
sums_wrong : (a b c : Bool) → (a && b) ≡ false → false ≡ (a && (b && c))
sums_wrong true true c h = absurd (false≢true (sym h))
sums_wrong true false c h = refl
sums_wrong false b c h = refl

sums_right : (a b c : Bool) → (a && b) ≡ true → c ≡ (a && (b && c))
sums_right true true c h = refl
sums_right true false c h = absurd (false≢true h)
sums_right false b c h = absurd (false≢true h)

-- a shipment where it lies
module _ (m head : List ℕ) (i k : ℕ) (head_is : head ≡ head_bytes m i) where
  pub flags_wrong : flags_in_form head ≡ false → false ≡ sound_at m i k
  unfolding sound_at
  flags_wrong h = rw (← head_is, h)

  module _ (n : ℕ) (n_is : n ≡ order_count_in head) (flags : flags_in_form head ≡ true) where
    pub no_room : most_rows < k + n → false ≡ sound_at m i k
    unfolding sound_at
    no_room h = rw (← head_is, flags, ← n_is, lt-leb (k + n) most_rows h)

    module _ (room : k + n ≤ most_rows) where
      judged_there : sound_at m i k ≡ (name_in_form (name_in head) && (terms_fit (terms_in head) && judged_if head n (tally_of (terms_in head) (rows_from m k n))))
      unfolding sound_at
      judged_there =
          let many = rows_many m k n in
          rw (← head_is, flags, ← n_is, le-leb (k + n) most_rows room, judged_is_sound head (rows_from m k n), many)

      pub name_wrong : name_in_form (name_in head) ≡ false → false ≡ sound_at m i k
      name_wrong h = rw (judged_there, h)

      module _ (named : name_in_form (name_in head) ≡ true) {terms : Terms} (terms_are : terms ≡ terms_in head) where
        pub terms_wrong : terms_fit terms ≡ false → false ≡ sound_at m i k
        terms_wrong unfit = sym (judged_there ∙ second_no (name_in_form (name_in head)) _ (first_no_lem (terms_fit (terms_in head)) _ (ap terms_fit (sym terms_are) ∙ unfit)))

        judged_so : terms_fit terms ≡ true → judged_if head n (tally_of terms (rows_from m k n)) ≡ sound_at m i k
        judged_so fit =
            and-true _ _ _ named
            (and-true _ _ _ (ap terms_fit (sym terms_are) ∙ fit) (ap (λ (one : Terms). judged_if head n (tally_of one (rows_from m k n))) terms_are))
            ∙ sym judged_there

        pub not_charged : terms_fit terms ≡ true → None ≡ tally_of terms (rows_from m k n) → false ≡ sound_at m i k
        not_charged fit none = ap (judged_if head n) none ∙ judged_so fit

        pub sound_as_judged : (tally : Tally) (r : Bool) → terms_fit terms ≡ true → Some tally ≡ tally_of terms (rows_from m k n) → r ≡ judged head n tally
            → r ≡ sound_at m i k
        sound_as_judged tally r fit is told = told ∙ ap (judged_if head n) is ∙ judged_so fit

module _ (head : List ℕ) (money : Money) (need : ℕ) where
  abbrev accepted : ℕ
  accepted = transfers_in money head

  abbrev returned : ℕ
  returned = surplus_in money head

  abbrev covered : Bool
  covered = is_covered accepted returned (only_if (paired_in head) need) (waiting_in head)

  pub money_wrong : (is_sum accepted && is_sum returned) ≡ false → false ≡ money_fits head money need
  unfolding money_fits
  money_wrong h = sums_wrong (is_sum accepted) (is_sum returned) covered h

  pub money_right : (is_sum accepted && is_sum returned) ≡ true → covered ≡ money_fits head money need
  unfolding money_fits
  money_right h = sums_right (is_sum accepted) (is_sum returned) covered h

-- sums that are judged to be in range
pub sums_are : (head : List ℕ) (money : Money) → (is_sum (transfers_in money head) && is_sum (surplus_in money head)) ≡ true
    → WithinSum (transfers_in money head) × WithinSum (surplus_in money head)
sums_are head money both =
    let accepted = transfers_in money head in
    let returned = surplus_in money head in
    (leb-true accepted sum_cap (and_left (is_sum accepted) (is_sum returned) both), leb-true returned sum_cap (and_right (is_sum accepted) (is_sum returned) both))

pub only_if_within : (t : Bool) (n : ℕ) → WithinSum n → WithinSum (only_if t n)
only_if_within true n h = h
only_if_within false n h = omega arith
