-- Each row of a sheet of the bytes says what the answers so far said. A row's identifier names its shipment in the book, since all differ, and of that
-- shipment the book says so.
-- Assumes nothing.
use mathlib.Core.Path.{◌≡◌, refl, sym, ap, ◌∙◌}
use mathlib.Core.Bool.{true}
use mathlib.Core.List.{List, [], ◌∷◌, ◌++◌, map}
use mathlib.Core.Option.{Option, some}
use Prim.Native.Nat.{ℕ, zero, suc, ◌+◌, ◌<◌}
use native.Mathlib.Omega.{arith}
use lib.ListN.{length, get_or, drop}
use Rattle.std.specs.Prelude.{Ok}
use Rattle.text.proofs.Branches.{either_way}
use Rattle.money.specs.declared.Money.{Money}
use Rattle.money.specs.declared.Money.TheVariants.{K, O}
use Rattle.epe.specs.declared.ident.Ident.{Ident}
use Rattle.epe.proofs.IdentLaws.{same_is_equal}
use Rattle.epe.proofs.QuestionLaws.{asked_either}
use Rattle.model.specs.Shipment.{Shipment}
use Rattle.model.specs.Calls.{Call}
use Rattle.model.specs.Book.{Book, is_called, find, is_unknown}
use Rattle.model.specs.Sound.{shipments_sound, sound}
use Rattle.model.specs.Demand.{book_at, events_between}
use Rattle.model.proofs.SoundParts.{halves}
use Rattle.model.proofs.Known.{found, passed, unknown_none}
use Rattle.model.proofs.StaysSound.{always_sound}
use Rattle.model.proofs.Conserved.{conserves, accepted_as_answered}
use Rattle.sheet.specs.declared.division.Division.{Division}
use Rattle.sheet.specs.Sheet.{Sheet, row_for, no_sheet, sheet_of}
use Rattle.sheet.specs.Inner.Parts.{division_of}
use Rattle.sheet.specs.declared.SheetRow.{SheetRow}
use Rattle.sheet.specs.declared.Totals.{Totals}
use Rattle.sheet.proofs.Answered.{left_as_answered}
use Rattle.audit.specs.Listed.{calls_of}
use Rattle.audit.specs.SheetAsAnswered.{sums, RowAsAnswered, SheetAsAnswered}
use Rattle.audit.proofs.Listing.{listed}

-- a shipment of the book behind the first is found as before, since the first has another identifier
still_found : (s t : Shipment) (book : Book) → is_unknown s.agreed.name.ident book ≡ true → find t.agreed.name.ident book ≡ some t
    → find t.agreed.name.ident (s ∷ book) ≡ some t
still_found s t book unknown here =
    let ident = t.agreed.name.ident in
    let nowhere = unknown_none s.agreed.name.ident book unknown in
    let equal = (same_is_equal ident s.agreed.name.ident).0 in
    either_way (is_called ident s)
    (λ same. let alike = ap (λ (i : Ident). find i book) (equal same) in cc)
    (λ other. passed ident s book other ∙ here)

-- what holds of each shipment that its own identifier finds holds of each row of the sheet
each_row : (P : SheetRow → Type 0) (rest : List SheetRow) (outside : SheetRow) (book : Book) → shipments_sound book ≡ true
    → ((s : Shipment) → find s.agreed.name.ident book ≡ some s → P (row_for s))
    → (i : ℕ) → i < length book → P (get_or (map row_for book ++ rest) i outside)
unfolding shipments_sound
each_row P rest outside [] h holds i inside = absurd (omega arith)
each_row P rest outside (s ∷ book) h holds zero inside = holds s (found s.agreed.name.ident s book ((same_is_equal s.agreed.name.ident s.agreed.name.ident).1 refl))
each_row P rest outside (s ∷ book) h holds (suc i) inside =
    each_row P rest outside book (search halves) (λ t here. holds t (still_found s t book (search halves) here)) i (omega arith)

-- a sheet that is answered has a row for each shipment in front
record Fills (book : Book) (table after : List SheetRow) (n : ℕ) : Type 0 where
  rows : after ≡ map row_for book ++ drop (length book) table
  as_many : length book ≡ n

fills : (book : Book) (table : List SheetRow) (totals : Totals) (n : ℕ) → (sheet_of (some book) table totals).answer ≡ Ok n
    → Fills book table (sheet_of (some book) table totals).table n
unfolding sheet_of
fills book table totals n =
    asked_either (λ (x : Sheet). x.answer ≡ Ok n → Fills book table x.table n) _ (no_sheet table totals) _
    (λ number refused. let never : ◌≡◌ {A = ℕ} 0 1 = cc in absurd (omega arith))
    (λ yes filled. record { rows = refl; as_many = cc })

-- the row of a shipment that its identifier finds, in document 01's book
sums_of : (money : Money) (s : Shipment) → sums money (row_for s) ≡ division_of money s
unfolding row_for
sums_of K s = refl
sums_of O s = refl

row_as_answered : (calls : List Call) (p : ℕ) (money : Money) (s : Shipment) → find s.agreed.name.ident (book_at calls p) ≡ some s
    → RowAsAnswered money (row_for s) (book_at calls p) (events_between calls 0 p)
unfolding row_for
row_as_answered calls p money s here =
    let ident = s.agreed.name.ident in
    let four = sums_of money s in
    let taken = rw here at (accepted_as_answered calls p ident money) in
    let out = rw here at (left_as_answered calls p ident money) in
    let place : 0 + p ≡ p = omega arith in
    let all = rw (place, here) at (conserves calls 0 p ident money) in
    record {
      accepted = ap (λ (d : Division). d.accepted) four ∙ taken;
      held = ap (λ (d : Division). d.held) four ∙ rw here;
      free = ap (λ (d : Division). d.free) four ∙ rw here;
      left = ap (λ (d : Division). d.left) four ∙ out;
      balances = rw four (omega (arith, all, taken, out));
    }

pub sheet_as_answered : SheetAsAnswered
unfolding sound
sheet_as_answered start made held chain p table totals sheet given n i filled inside money outside =
    let list = listed start made held chain in
    let calls = calls_of made in
    let book = book_at calls p in
    let is_sound = always_sound calls p in
    let as_given = given ∙ ap (λ (b : Option Book). sheet_of b table totals) (list.books p) in
    let full = fills book table totals n (sym (ap (λ (x : Sheet). x.answer) as_given) ∙ filled) in
    let row = each_row (λ (row : SheetRow). RowAsAnswered money row book (events_between calls 0 p)) (drop (length book) table) outside book
    (search halves depth 4) (row_as_answered calls p money) i (omega (arith, full.as_many)) in
    rw (list.books p, list.answers, as_given, full.rows) row
