-- Rows of the sheet of shipment ZS1 and of shipments with a rate, and the questions of a sheet at their edges, computed from the definitions.
-- Assumes nothing.
use mathlib.Core.Path.{◌≡◌, refl}
use mathlib.Core.List.{[], ◌∷◌, map}
use mathlib.Core.Option.{Option, some, none}
use Prim.Native.Nat.{ℕ}
use Rattle.std.specs.Prelude.{Result, Ok, Err}
use Rattle.epe.specs.Questions.{asked}
use Rattle.money.specs.Money.{amount, fee}
use Rattle.model.specs.Book.{Book}
use Rattle.model.specs.Demand.{book_at}
use Rattle.model.specs.Zs1.{calls, zs1}
use Rattle.model.proofs.AboutZs1.{stepped}
use Rattle.sheet.specs.declared.SheetRow.{SheetRow}
use Rattle.sheet.specs.declared.Totals.{Totals}
use Rattle.sheet.specs.Sheet.{left, row_for, plus_all, within_cap, sheet_of}
use Rattle.sheet.specs.Zs1.{Zs1Sheet}
use Rattle.sheet.specs.Rated.{RatedSheet}

pub zs1_sheet : Zs1Sheet
unfolding stepped zs1 left row_for
zs1_sheet = record { line_6 = refl; line_8 = refl }

pub rated_sheet : RatedSheet
unfolding stepped zs1 left row_for
rated_sheet = record {
  waiting = refl;
  paired = refl;
  posted = refl;
  paid = refl;
  faulty_returned = refl;
  all_left = refl;
  scantily = (refl, refl);
  free_of_charge = refl;
}

-- totals that are zero but for what has left of O
abbrev with_left : ℕ → Totals
with_left n = record {
  amounts = record { accepted = amount 0; held = amount 0; free = amount 0; left = amount 0 };
  fees = record { accepted = fee 0; held = fee 0; free = fee 0; left = fee n };
}

abbrev answer_to : Option Book → ℕ → Result ℕ ℕ
answer_to book n = (sheet_of book [] (with_left n)).answer

-- no book: 10. An empty book needs no row; its totals may be at the cap, and not above it, though nothing is added. One shipment needs a row: 25, and
-- that is asked before the totals are.
questions : answer_to none 0 ∷ answer_to (some []) 999_999_999_999_999 ∷ answer_to (some []) 1_000_000_000_000_000
    ∷ answer_to (some (book_at calls 17)) 0 ∷ answer_to (some (book_at calls 17)) 1_000_000_000_000_000 ∷ []
    ≡ Err 10 ∷ Ok 0 ∷ Err 26 ∷ Err 25 ∷ Err 25 ∷ []
unfolding stepped zs1 left row_for plus_all within_cap asked sheet_of
questions = refl

abbrev blank : SheetRow
blank = record { ident = zs1; amounts = (with_left 0).amounts; fees = (with_left 0).fees }

-- O left of 1,050 more: 999,999,999,998,949 comes to the cap, and one grosz more passes it
questions_with_row : map (λ n. (sheet_of (some (book_at calls 17)) (blank ∷ []) (with_left n)).answer) (999_999_999_998_949 ∷ 999_999_999_998_950 ∷ [])
    ≡ Ok 1 ∷ Err 26 ∷ []
unfolding stepped zs1 left row_for plus_all within_cap asked sheet_of
questions_with_row = refl
