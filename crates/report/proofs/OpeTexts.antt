-- OPE's text, and what a pass over the rows finds of it.
-- Assumes nothing.
use mathlib.Core.Path.{◌≡◌, refl, ◌∙◌, ap}
use mathlib.Core.Bool.{true, false, cond}
use mathlib.Core.List.{List, [], ◌∷◌, ◌++◌}
use Prim.Native.Nat.{ℕ, suc, ◌+◌}
use native.Mathlib.Numerals.{add-one}
use native.Mathlib.Omega.{arith}
use lib.ListN.{length, length-append}
use Rattle.std.specs.Prelude.{Option, Some, None}
use Rattle.std.specs.Option.{option_and_then}
use Rattle.text.specs.Bytes.{between}
use Rattle.text.specs.Quoted.{bytes}
use Rattle.text.proofs.Branches.{either_way}
use Rattle.model.specs.declared.Row.{Row}
use Rattle.model.specs.declared.State.{State}
use Rattle.model.specs.declared.State.TheVariants.{Open, Posted, Paid, Faulty, Undelivered, Withdrawn}
use Rattle.write.specs.Files.{line}
use Rattle.write.specs.Spelled.{places_of, spelled}
use Rattle.write.proofs.Spelling.{digits_long}
use Rattle.report.specs.Lines.{record_of}
use Rattle.report.specs.Ope.{FaultyOrder, before_faulty, faulty_from, code_for, ope_records, ope_lines, ope, are_coded}
use Rattle.report.specs.Inner.Pieces.{start_text, opening_text, behind_header}
use Rattle.report.specs.Inner.Faults.{found_order, found_in, records_in, ope_text}
use Rattle.report.specs.declared.ope.Found.{Found}
use Rattle.report.proofs.Texts.{opening_long, report_text, record_text_lem, record_long}

pub ope_text_lem : (own : List ℕ) (created : ℕ) (codes source : List ℕ) (rows : List Row)
    → ope own created codes source (faulty_from 1 rows) ≡ ope_text own created source (length (faulty_from 1 rows)) (records_in codes rows)
unfolding ope ope_lines ope_text
ope_text_lem own created codes source rows =
    report_text (bytes "OPE") own created source (spelled (length (faulty_from 1 rows))) (ope_records codes 1 (faulty_from 1 rows))

-- what a pass finds of some orders beside what it found before, if each has a code
abbrev pub found_with : List ℕ → Found → List FaultyOrder → Option Found
found_with codes found orders =
    cond (are_coded codes orders)
    (Some (record { count = found.count + length orders; length = found.length + length (behind_header (ope_records codes (found.count + 1) orders)) }))
    None

module _ (codes : List ℕ) (found : Found) where
  none_more : Some found ≡ found_with codes found []
  unfolding ope_records behind_header are_coded
  none_more =
      let count : found.count ≡ found.count + 0 = omega arith in
      let long : found.length ≡ found.length + 0 = omega arith in
      λ t. Some (record { count = count t; length = long t })

  -- one order more
  module _ (number fault : ℕ) (more : List FaultyOrder) where
    abbrev order : FaultyOrder
    order = record { number = number; fault = fault }

    abbrev next : Found
    next = record { count = found.count + 1; length = found.length + places_of (found.count + 1) + places_of number + 9 }

    fault_more : between 308 336 (code_for codes fault) ≡ true → found_with codes next more ≡ found_with codes found (order ∷ more)
    unfolding ope_records behind_header are_coded
    fault_more coded =
        let code = code_for codes fault in
        let row = record_long (found.count + 1) number code in
        let text = ap (λ (s : List ℕ). length s) (record_text_lem (found.count + 1) number code) in
        let alone = length-append (line (record_of (found.count + 1) number code)) [] in
        let all = length-append (line (record_of (found.count + 1) number code)) (behind_header (ope_records codes (found.count + 1 + 1) more)) in
        let count : next.count + length more ≡ found.count + length (order ∷ more) = omega arith in
        let long : next.length + length (behind_header (ope_records codes (next.count + 1) more))
        ≡ found.length + length (behind_header (ope_records codes (found.count + 1) (order ∷ more))) = omega arith in
        rw coded (λ t. cond (are_coded codes more) (Some (record { count = count t; length = long t })) None)

    not_coded : between 308 336 (code_for codes fault) ≡ false → None ≡ found_with codes found (order ∷ more)
    unfolding are_coded
    not_coded none = rw none

  module _ (number : ℕ) (rows : List Row) (rest : (next : Found) → found_in codes next (suc number) rows ≡ found_with codes next (faulty_from (number + 1) rows)) where
    abbrev after : State → Option Found
    after state = option_and_then (λ next. found_in codes next (suc number) rows) (found_order codes found number state)

    order_more : (state : State) → after state ≡ found_with codes found (before_faulty number state (faulty_from (number + 1) rows))
    order_more Open = rest found
    order_more Posted = rest found
    order_more Paid = rest found
    order_more (Faulty fault k o) =
        either_way (between 308 336 (code_for codes fault))
        (λ coded. rw coded (rest (next number fault (faulty_from (number + 1) rows))) ∙ fault_more number fault (faulty_from (number + 1) rows) coded)
        (λ none. rw none refl ∙ not_coded number fault (faulty_from (number + 1) rows) none)
    order_more (Undelivered k) = rest found
    order_more (Withdrawn k o) = rest found

-- of all rows from a number on
pub found_all : (codes : List ℕ) (found : Found) (number : ℕ) (rows : List Row) → found_in codes found number rows ≡ found_with codes found (faulty_from number rows)
unfolding found_in faulty_from
found_all codes found number [] = none_more codes found
found_all codes found number (row ∷ rows) =
    order_more codes found number rows (λ next. rw (add-one number) (found_all codes next (suc number) rows)) row.state

-- how long it is
pub ope_long : (own : List ℕ) (created : ℕ) (source : List ℕ) (count : ℕ) (records : List ℕ)
    → length (ope_text own created source count records) ≡ 37 + length own + length source + places_of count + length records
unfolding ope_text start_text
ope_long own created source count records =
    let a = length-append (opening_text (start_text (bytes "OPE")) own created source) (spelled count ++ records) in
    let b = opening_long (start_text (bytes "OPE")) own created source in
    let c = length-append (spelled count) records in
    let d = digits_long (places_of count) count in
    omega arith
