-- A table filled row after row has the sheet's rows, and then its own; so what is asked, filled and stored is the sheet.
-- Assumes nothing.
use mathlib.Core.Path.{◌≡◌, refl, sym, ap, ◌∙◌}
use mathlib.Core.Bool.{true, false}
use mathlib.Core.List.{List, [], ◌∷◌, ◌++◌, map, append_assoc}
use Prim.Native.Nat.{ℕ, zero, suc, ◌+◌, ◌≤◌, ◌<◌}
use native.Mathlib.Numerals.{add-one}
use native.Mathlib.Omega.{arith}
use borrow.Author.Tests.{le-leb, lt-leb}
use lib.Dec.{leb}
use lib.ListN.{length, drop, set, length-drop, length-append, length-set}
use lib.Seq.{drop-drop}
use Rattle.std.specs.Prelude.{Option, None, Result, Ok}
use Rattle.std.specs.Result.{result_ok}
use Rattle.epe.specs.Questions.{asked}
use Rattle.model.specs.Shipment.{Shipment}
use Rattle.model.specs.Book.{Book}
use Rattle.memory.specs.Read.{book_in, sound_in, read_book}
use Rattle.sheet.specs.declared.refusal.Refusal.{Refusal}
use Rattle.sheet.specs.declared.SheetRow.{SheetRow}
use Rattle.sheet.specs.declared.Totals.{Totals}
use Rattle.sheet.specs.Sheet.{row_for, plus_all, within_cap, no_sheet, sheet_of}
use Rattle.sheet.specs.Inner.Filling.{if_within}
use Rattle.sheet.proofs.Totalling.{said_none, said_some}

-- one element set behind others
set_behind : (xs ys : List SheetRow) (a : SheetRow) (n : ℕ) → length xs ≡ n → 0 < length ys
    → set (xs ++ ys) n a ≡ (xs ++ (a ∷ [])) ++ drop 1 ys
set_behind [] [] a n is more = absurd (omega arith)
set_behind [] (y ∷ ys) a zero is more = refl
set_behind [] (y ∷ ys) a (suc n) is more = absurd (omega arith)
set_behind (x ∷ xs) ys a zero is more = absurd (omega arith)
set_behind (x ∷ xs) ys a (suc n) is more = ap (λ l. x ∷ l) (set_behind xs ys a n (omega arith) more)

one_more : (n : ℕ) → 1 + n ≡ suc n
one_more n = omega arith

-- Rows put one behind the other, from the i-th on.
pub put_from : ℕ → List SheetRow → List SheetRow → List SheetRow
put_from i [] table = table
put_from i (row ∷ rows) table = put_from (suc i) rows (set table i row)

-- the first row put, and then the others
pub put_on : (row : SheetRow) (rows table : List SheetRow) (i : ℕ) → put_from (i + 1) rows (set table i row) ≡ put_from i (row ∷ rows) table
unfolding put_from
put_on row rows table i = rw add-one refl

put_behind : (done rows table : List SheetRow) (i : ℕ) → length done ≡ i → length rows ≤ length table
    → put_from i rows (done ++ table) ≡ done ++ (rows ++ drop (length rows) table)
unfolding put_from
put_behind done [] table i is room = refl
put_behind done (row ∷ rows) table i is room =
    ap (put_from (suc i) rows) (set_behind done table row i is (omega (arith, room)))
    ∙ put_behind (done ++ (row ∷ [])) rows (drop 1 table) (suc i) (omega (arith, is, length-append done (row ∷ []))) (omega (arith, length-drop 1 table, room))
    ∙ append_assoc done (row ∷ []) (rows ++ drop (length rows) (drop 1 table))
    ∙ ap (λ rest. done ++ (row ∷ (rows ++ rest))) (drop-drop (length rows) 1 table ∙ ap (λ k. drop k table) (one_more (length rows)))

-- The rows of shipments that are left are still to put.
pub record Filling (book : Book) (start : List SheetRow) (left : Book) (i : ℕ) (table : List SheetRow) : Type 0 where
  pub whole : put_from i (map row_for left) table ≡ put_from 0 (map row_for book) start
  pub room : i + length left ≤ length table

long_rows : (book : Book) → length (map row_for book) ≡ length book
long_rows [] = refl
long_rows (s ∷ book) = ap suc (long_rows book)

module _ {book : Book} {start : List SheetRow} where
  pub filling_begun : length book ≤ length start → Filling book start book 0 start
  filling_begun enough = record { whole = refl; room = omega (arith, enough) }

  pub filling_on : {left : Book} {i : ℕ} {table : List SheetRow} (s : Shipment) → Filling book start (s ∷ left) i table → {row : SheetRow} → row ≡ row_for s
      → Filling book start left (i + 1) (set table i row)
  filling_on {left} {i} {table} s going {row} is = record {
    whole = rw is (put_on (row_for s) (map row_for left) table i ∙ going.whole);
    room = omega (arith, going.room, length-set table i row);
  }

  pub filling_done : {i : ℕ} {table : List SheetRow} → Filling book start [] i table → length book ≤ length start
      → table ≡ map row_for book ++ drop (length book) start
  unfolding put_from
  filling_done going enough =
      going.whole
      ∙ put_behind [] (map row_for book) start 0 refl (omega (arith, long_rows book, enough))
      ∙ ap (λ n. map row_for book ++ drop n start) (long_rows book)

-- by which a table is filled
pub ruleset filling = (filling_begun, put_on, length-set, filling_done)

-- what is asked of a sheet, in order, and what is then filled
module _ (m : List ℕ) (table : List SheetRow) (totals : Totals) where
  pub no_book : sound_in m ≡ false → no_sheet table totals 10 ≡ sheet_of (read_book m) table totals
  unfolding sheet_of read_book
  no_book unsound = rw unsound

  module _ {book : Book} (found : (sound_in m ≡ true) × (book ≡ book_in m)) {n : ℕ} (is_all : n ≡ length book) where
    abbrev sums : Totals
    sums = plus_all totals (map row_for book)

    many : n ≡ length (book_in m)
    many = is_all ∙ ap length found.1

    pub no_room : length table < n → no_sheet table totals 25 ≡ sheet_of (read_book m) table totals
    unfolding sheet_of read_book asked
    no_room short = rw (found.0, lt-leb (length (book_in m)) (length table) (omega (arith, many, short)))

    module _ (enough : n ≤ length table) {added : Option Totals} (is_added : added ≡ if_within sums) where
      fits : leb (length (book_in m)) (length table) ≡ true
      fits = le-leb (length (book_in m)) (length table) (omega (arith, many, enough))

      sums_are : sums ≡ plus_all totals (map row_for (book_in m))
      sums_are = ap (λ (book : Book). plus_all totals (map row_for book)) found.1

      pub above_cap : added ≡ None → no_sheet table totals 26 ≡ sheet_of (read_book m) table totals
      unfolding sheet_of read_book asked
      above_cap none = rw (found.0, fits, sym (ap within_cap sums_are) ∙ said_none sums (sym none ∙ is_added))

      pub is_filled : {found_sums : Result Totals Refusal} {next : Totals} {filled : List SheetRow} → added ≡ result_ok found_sums → found_sums ≡ Ok next
          → filled ≡ map row_for book ++ drop (length book) table
          → record { answer = Ok n; table = filled; totals = next } ≡ sheet_of (read_book m) table totals
      unfolding sheet_of read_book asked
      is_filled is_found some all =
          let told = said_some sums (sym (is_found ∙ ap result_ok some) ∙ is_added) in
          let rows = all ∙ ap (λ (book : Book). map row_for book ++ drop (length book) table) found.1 in
          rw (found.0, fits, sym (ap within_cap sums_are) ∙ told.0) (λ t. record { answer = Ok (many t); table = rows t; totals = (told.1 ∙ sums_are) t })

-- by which a sheet answers
pub ruleset sheets = (no_book, no_room, above_cap, is_filled)
