-- How code asks whether a shipment is sound: by its rows taken together.
use Rattle.std.specs.Prelude.{◌≡◌, Bool, true, false, not, ◌&&◌, ◌||◌, cond, List, [], ◌∷◌, ℕ, ◌+◌, ◌%◌, leb, ltb, eqb, length, Option, Some, None}
use Rattle.std.specs.Int.Bits.{bit_or}
use Rattle.std.specs.Option.{option_map}
use Rattle.money.specs.Money.{is_sum}
use Rattle.money.specs.declared.Money.{Money}
use Rattle.money.specs.declared.Money.TheVariants.{K, O}
use Rattle.fee.specs.Fee.{terms_fit}
use Rattle.fee.specs.declared.Terms.{Terms}
use Rattle.epe.specs.Name.{name_in_form}
use Rattle.model.specs.Shipment.{is_waiting, is_paired, only_if}
use Rattle.model.specs.Sound.{shipment_sound}
use Rattle.model.specs.declared.Row.{Row}
use Rattle.memory.specs.Heads.{name_in, terms_in, stage_in, go_ahead_in, transfers_in, surplus_in, shipment_in}
use Rattle.memory.specs.Inner.Classes.{class_of}
use Rattle.sound.specs.declared.tally.Tally.{Tally}
use Rattle.sound.specs.declared.charges.Charges.{Charges}
use Rattle.sound.specs.Inner.Charges.{charges_of, SmallCharges}

-- The classes of rows, joined to those before.
abbrev pub joined : ℕ → List Row → ℕ
joined classes [] = classes
joined classes (row ∷ rows) = joined (bit_or classes (class_of row.state)) rows

-- What some rows come to on some terms, where each is charged its fee.
abbrev pub tally_of : Terms → List Row → Option Tally
tally_of terms rows = option_map (λ (charges : Charges). record { classes = joined 0 rows; charges = charges }) (charges_of terms rows)

abbrev pub SmallTally : Tally → Type 0
SmallTally tally = SmallCharges tally.charges

-- The lowest bit is that of Faulty rows.
abbrev pub faulty_in : Tally → Bool
faulty_in tally = eqb (tally.classes % 2) 1

abbrev pub paired_in : List ℕ → Bool
paired_in head = is_paired (stage_in head)

abbrev pub waiting_in : List ℕ → Bool
waiting_in head = is_waiting (stage_in head)

-- The questions of `shipment_sound`, by a head and a tally.
unfoldable pub rows_fit : List ℕ → Tally → Bool
rows_fit head tally = cond (paired_in head) (ltb tally.classes 4) (ltb tally.classes 2)

unfoldable pub go_ahead_fits : List ℕ → Tally → Bool
go_ahead_fits head tally =
    cond (go_ahead_in head) (faulty_in tally) (cond (paired_in head) (not (faulty_in tally)) true)

unfoldable pub is_covered : ℕ → ℕ → ℕ → Bool → Bool
is_covered accepted returned need waiting = leb (returned + need) accepted && (not waiting || eqb returned 0)

unfoldable pub money_fits : List ℕ → Money → ℕ → Bool
money_fits head money need =
    is_sum (transfers_in money head)
    && (is_sum (surplus_in money head)
    && is_covered (transfers_in money head) (surplus_in money head) (only_if (paired_in head) need) (waiting_in head))

unfoldable pub moneys_fit : List ℕ → Tally → Bool
moneys_fit head tally = money_fits head K tally.charges.amounts.0 && money_fits head O tally.charges.fees.0

unfoldable pub judged : List ℕ → ℕ → Tally → Bool
judged head n tally = leb 1 n && (rows_fit head tally && (go_ahead_fits head tally && moneys_fit head tally))

-- Where not each order is charged its fee, it is not.
abbrev pub judged_if : List ℕ → ℕ → Option Tally → Bool
judged_if head n None = false
judged_if head n (Some tally) = judged head n tally

-- So a shipment is sound.
abbrev pub JudgedIsSound : Type 0
JudgedIsSound = (head : List ℕ) (rows : List Row)
    → shipment_sound (shipment_in head rows)
    ≡ (name_in_form (name_in head) && (terms_fit (terms_in head) && judged_if head (length rows) (tally_of (terms_in head) rows)))
