-- Of every sound shipment, and so of every one in every list, 10,000 times the rated parts with the remainders is the rate times the amounts.
-- Assumes nothing.
use mathlib.Core.Path.{◌≡◌}
use mathlib.Core.Bool.{true}
use mathlib.Core.List.{List, [], ◌∷◌}
use Prim.Native.Nat.{◌+◌, ◌*◌, ◌-◌}
use native.Mathlib.Omega.{arith}
use Rattle.money.specs.declared.Money.TheVariants.{K}
use Rattle.fee.specs.Fee.{rate_cap, divides}
use Rattle.fee.specs.declared.Terms.{Terms}
use Rattle.fee.proofs.Division.{facts_of}
use Rattle.model.specs.Shipment.{sum_over, worth, need}
use Rattle.model.specs.Book.{Book}
use Rattle.model.specs.Demand.{book_at}
use Rattle.model.specs.Sound.{row_sound, rows_sound, shipments_sound, SoundIsDivided, AllDivided, AlwaysDivided}
use Rattle.model.specs.declared.Row.{Row}
use Rattle.model.specs.declared.Stage.{Stage}
use Rattle.model.proofs.SoundParts.{halves, in_order}
use Rattle.model.proofs.StaysSound.{book_in_order, first_in_order, always_sound}

module _ (terms : Terms) (stage : Stage) where
  row_divides : (row : Row) → row_sound terms stage row ≡ true → divides terms row.amount.0 row.fee.0 row.remainder ≡ true
  unfolding row_sound
  row_divides row h = search halves

  rows_divided : (rows : List Row) → rows_sound terms stage rows ≡ true
      → rate_cap * sum_over (λ (row : Row). row.fee.0 - terms.flat.0) rows + sum_over (λ (row : Row). row.remainder) rows
      ≡ terms.rate.0 * sum_over (worth K) rows
  unfolding rows_sound
  rows_divided [] h = omega arith
  rows_divided (row ∷ rows) h =
      let facts = facts_of terms row.amount.0 row.fee.0 row.remainder (row_divides row (search halves)) in
      omega (arith, facts.equal, rows_divided rows (search halves))

pub sound_is_divided : SoundIsDivided
unfolding need
sound_is_divided s h = rows_divided s.agreed.terms s.stage s.rows (in_order s h).rows_sound

all_divided : (book : Book) → shipments_sound book ≡ true → AllDivided book
all_divided [] h = tt
all_divided (s ∷ book) h = let parts = first_in_order s book h in (sound_is_divided s parts.first, all_divided book parts.rest)

pub always_divided : AlwaysDivided
always_divided calls point = all_divided (book_at calls point) (book_in_order (book_at calls point) (always_sound calls point)).shipments
