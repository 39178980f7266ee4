-- What a pass over rows finds of faulty orders, as code adds it up.
use Rattle.std.specs.Prelude.{cond, List, [], ◌∷◌, ◌++◌, ℕ, suc, ◌+◌, Option, Some, None}
use Rattle.std.specs.Option.{option_and_then}
use Rattle.text.specs.Bytes.{between}
use Rattle.text.specs.Quoted.{bytes}
use Rattle.model.specs.declared.Row.{Row}
use Rattle.model.specs.declared.State.{State}
use Rattle.model.specs.declared.State.TheVariants.{Open, Posted, Paid, Faulty, Undelivered, Withdrawn}
use Rattle.write.specs.Spelled.{places_of, spelled}
use Rattle.report.specs.Ope.{before_faulty, faulty_from, code_for, ope_records}
use Rattle.report.specs.Inner.Pieces.{start_text, opening_text, behind_header}
use Rattle.report.specs.declared.ope.Found.{Found}

-- One faulty order more, if it has a code: its record has the next running number, and nine bytes besides the two numbers.
abbrev pub found_fault : List ℕ → Found → ℕ → ℕ → Option Found
found_fault codes found number fault =
    cond (between 308 336 (code_for codes fault))
    (Some (record { count = found.count + 1; length = found.length + places_of (found.count + 1) + places_of number + 9 }))
    None

abbrev pub found_order : List ℕ → Found → ℕ → State → Option Found
found_order codes found number Open = Some found
found_order codes found number Posted = Some found
found_order codes found number Paid = Some found
found_order codes found number (Faulty fault k o) = found_fault codes found number fault
found_order codes found number (Undelivered k) = Some found
found_order codes found number (Withdrawn k o) = Some found

-- All of some rows, the first of which has this number.
unfoldable pub found_in : List ℕ → Found → ℕ → List Row → Option Found
found_in codes found number [] = Some found
found_in codes found number (row ∷ rows) = option_and_then (λ next. found_in codes next (suc number) rows) (found_order codes found number row.state)

-- The record of an order, if it is a faulty one.
abbrev pub record_in : List ℕ → ℕ → ℕ → State → List ℕ
record_in codes running number state = behind_header (ope_records codes running (before_faulty number state []))

-- The records of some rows, and the whole report around them.
abbrev pub records_in : List ℕ → List Row → List ℕ
records_in codes rows = behind_header (ope_records codes 1 (faulty_from 1 rows))

unfoldable pub ope_text : List ℕ → ℕ → List ℕ → ℕ → List ℕ → List ℕ
ope_text own created source count records = opening_text (start_text (bytes "OPE")) own created source ++ (spelled count ++ records)
