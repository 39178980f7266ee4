-- What OPE answers: of some rows by what a pass over them found, of a shipment at its place, and of a book.
-- Assumes nothing.
use mathlib.Core.Path.{◌≡◌, refl, sym, ◌∙◌, ap}
use mathlib.Core.Bool.{Bool, true, false, true≢false, ◌&&◌}
use mathlib.Core.List.{List}
use mathlib.Core.Option.{some}
use Prim.Native.Nat.{ℕ, ◌+◌, ◌≤◌}
use native.Mathlib.Omega.{arith}
use lib.ListN.{length}
use Rattle.std.specs.Prelude.{Option, Some, None, Ok, Err}
use Rattle.text.proofs.Branches.{and_left, and_right, both_yes, either_way}
use Rattle.epe.specs.Ident.{identifier, ident_in_form}
use Rattle.epe.specs.Name.{name_in_form}
use Rattle.epe.specs.declared.ident.Ident.{Ident}
use Rattle.epe.proofs.IdentLaws.{identifier_fits}
use Rattle.model.specs.Shipment.{Shipment}
use Rattle.model.specs.Sound.{shipment_sound}
use Rattle.model.specs.declared.Row.{Row}
use Rattle.model.proofs.SoundParts.{in_order, halves}
use Rattle.memory.specs.Read.{shipment_at, read_book}
use Rattle.memory.specs.declared.place.Place.{Place}
use Rattle.acts.specs.Refusal.{number_of}
use Rattle.acts.specs.declared.refusal.Refusal.{Refusal}
use Rattle.acts.specs.Inner.Place.{called_in, place_in}
use Rattle.acts.proofs.PlaceInBook.{no_place}
use Rattle.acts.proofs.FoundInBook.{none_found, found_at}
use Rattle.write.specs.Spelled.{places_of}
use Rattle.write.specs.Written.{Wrote, leaving}
use Rattle.report.specs.Lines.{is_moment}
use Rattle.report.specs.Ope.{FaultyOrder, faulty_from, source_of, ope, are_coded, fits_ope, ope_on, ope_of, ope_written}
use Rattle.report.specs.Inner.Faults.{found_in, records_in, ope_text}
use Rattle.report.specs.declared.ope.Found.{Found}
use Rattle.report.proofs.FaultWalk.{no_faults}
use Rattle.report.proofs.OpeTexts.{found_with, found_all, ope_text_lem, ope_long}

no_coded : (t u : Bool) → (t && (u && false)) ≡ false
no_coded true true = refl
no_coded true false = refl
no_coded false u = refl

no_header : (t u v : Bool) → (t && u) ≡ false → (t && (u && v)) ≡ false
no_header true true v h = absurd (true≢false h)
no_header true false v h = refl
no_header false u v h = refl

-- what the pass over the rows found
module _ (own : List ℕ) (created : ℕ) (codes source : List ℕ) (rows : List Row) {added : Option Found} (is_added : added ≡ found_in codes no_faults 1 rows) where
  abbrev faulty : List FaultyOrder
  faulty = faulty_from 1 rows

  with_all : added ≡ found_with codes no_faults faulty
  with_all = is_added ∙ found_all codes no_faults 1 rows

  pub ope_uncoded : added ≡ None → fits_ope own created codes faulty ≡ false
  unfolding fits_ope
  ope_uncoded none =
      either_way (are_coded codes faulty)
      (λ coded. let told = rw coded at (sym none ∙ with_all) in let apart : ◌≡◌ {A = ℕ} 0 1 = cc in absurd (omega arith))
      (λ uncoded. rw uncoded (no_coded (identifier own) (is_moment created)))

  module _ {found : Found} (is_found : added ≡ Some found) where
    pub found_all_coded : (are_coded codes faulty ≡ true) × ((found.count ≡ length faulty) × (found.length ≡ length (records_in codes rows)))
    found_all_coded =
        either_way (are_coded codes faulty)
        (λ coded. (
          coded,
          let told = rw coded at (sym is_found ∙ with_all) in
              let same : found ≡ record { count = 0 + length faulty; length = 0 + length (records_in codes rows) } = cc in
              (ap (λ (f : Found). f.count) same ∙ omega arith, ap (λ (f : Found). f.length) same ∙ omega arith),
        ))
        (λ uncoded. let told = rw uncoded at (sym is_found ∙ with_all) in let apart : ◌≡◌ {A = ℕ} 0 1 = cc in absurd (omega arith))

    pub ope_fits : (identifier own && is_moment created) ≡ true → fits_ope own created codes faulty ≡ true
    unfolding fits_ope
    ope_fits header =
        both_yes (identifier own) _ (and_left (identifier own) _ header) (both_yes (is_moment created) _ (and_right (identifier own) _ header) found_all_coded.0)

    pub ope_found : ope_text own created source found.count (records_in codes rows) ≡ ope own created codes source faulty
    ope_found =
        ap (λ (n : ℕ). ope_text own created source n (records_in codes rows)) found_all_coded.1.0 ∙ sym (ope_text_lem own created codes source rows)

    pub ope_measured : 37 + length own + length source + places_of found.count + found.length ≡ length (ope own created codes source faulty)
    ope_measured =
        let long = found_all_coded.1.1 in
        let all = ope_long own created source found.count (records_in codes rows) in
        let same = ap (λ (t : List ℕ). length t) ope_found in
        omega arith

pub ope_misnamed : (own : List ℕ) (created : ℕ) (codes : List ℕ) (orders : List FaultyOrder) → (identifier own && is_moment created) ≡ false
    → fits_ope own created codes orders ≡ false
unfolding fits_ope
ope_misnamed own created codes orders other = no_header (identifier own) (is_moment created) (are_coded codes orders) other

-- what can stand in its field is short
pub ope_own : (own : List ℕ) (created : ℕ) (codes : List ℕ) (orders : List FaultyOrder) → fits_ope own created codes orders ≡ true → length own ≤ 17
unfolding fits_ope
ope_own own created codes orders fit = identifier_fits own (and_left (identifier own) _ fit)

-- of a shipment
pub source_formed : (s : Shipment) → shipment_sound s ≡ true → identifier (source_of s) ≡ true
unfolding name_in_form ident_in_form
source_formed s sound = let formed = (in_order s sound).name_in_form in search halves

-- by what is read of it
module _ (own : List ℕ) (created : ℕ) (codes output : List ℕ) (s : Shipment) where
  pub ope_there : (rows : List Row) → rows ≡ s.rows → {source : List ℕ} → source ≡ source_of s
      → ope_on own created codes output source (faulty_from 1 rows) ≡ ope_of own created codes output (some s)
  unfolding ope_of
  ope_there rows same is_source = λ i. ope_on own created codes output (is_source i) (faulty_from 1 (same i))

  pub ope_source : shipment_sound s ≡ true → {source : List ℕ} → source ≡ source_of s → length source ≤ 17
  ope_source sound is_source = rw is_source (identifier_fits (source_of s) (source_formed s sound))

-- and of a book, by where the shipment is found
module _ (m : List ℕ) (ident : Ident) (own : List ℕ) (created : ℕ) (codes output : List ℕ) where
  pub ope_unplaced : {refusal : Refusal} → Err refusal ≡ place_in (called_in ident) m
      → leaving output (number_of refusal) ≡ ope_written (read_book m) ident own created codes output
  unfolding read_book ope_written ope_of
  ope_unplaced e =
      no_place (called_in ident) m e (λ same unsound. rw (same, unsound)) (λ same held none. rw (same, held, none_found ident m none))

  pub ope_at : {place : Place} → Ok place ≡ place_in (called_in ident) m → {t : Shipment} → t ≡ shipment_at m place.head place.row → {wrote : Wrote}
      → wrote ≡ ope_of own created codes output (some t) → wrote ≡ ope_written (read_book m) ident own created codes output
  unfolding read_book ope_written
  ope_at e same is =
      let found = found_at ident m e in
      is ∙ ap (λ s. ope_of own created codes output (some s)) same ∙ rw (found.0, found.1)

-- by which the report on some rows answers
pub ruleset on_rows = (ope_misnamed, ope_uncoded, ope_fits, ope_found, ope_measured, ope_own)

-- and by where the shipment is found
pub ruleset on_places = (ope_unplaced, ope_at)
