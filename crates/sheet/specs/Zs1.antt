-- Shipment ZS1, read off the sheet.
use Rattle.std.specs.Prelude.{◌≡◌, List, [], ◌∷◌, map, ℕ}
use Rattle.model.specs.Shipment.{Shipment}
use Rattle.model.specs.Calls.{Call}
use Rattle.model.specs.Demand.{book_at}
use Rattle.model.specs.Zs1.{calls}
use Rattle.sheet.specs.declared.SheetRow.{SheetRow}
use Rattle.sheet.specs.Sheet.{row_for}

-- A row's eight sums, in the paper's order: accepted, held, free and left, for K and for O.
abbrev pub eight : SheetRow → List ℕ
eight row =
    row.amounts.accepted.0 ∷ row.amounts.held.0 ∷ row.amounts.free.0 ∷ row.amounts.left.0
    ∷ row.fees.accepted.0 ∷ row.fees.held.0 ∷ row.fees.free.0 ∷ row.fees.left.0 ∷ []

-- The rows of the sheet at a point of a list of calls, and of ZS1's.
abbrev pub sheet_in : List Call → ℕ → List (List ℕ)
sheet_in calls point = map (λ (s : Shipment). eight (row_for s)) (book_at calls point)

abbrev pub sheet_at : ℕ → List (List ℕ)
sheet_at = sheet_in calls

pub record Zs1Sheet : Type 0 where
  -- "6. Post and pay 1 ..": by then K 15,100 and O 700 have left.
  pub line_6 : sheet_at 14 ≡ (17_650 ∷ 2_550 ∷ 0 ∷ 15_100 ∷ 1_050 ∷ 350 ∷ 0 ∷ 700 ∷ []) ∷ []
  -- "8. Then K left 17,650, O left 1,050, nothing held or free."
  pub line_8 : sheet_at 17 ≡ (17_650 ∷ 0 ∷ 0 ∷ 17_650 ∷ 1_050 ∷ 0 ∷ 0 ∷ 1_050 ∷ []) ∷ []
