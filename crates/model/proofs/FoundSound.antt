-- A shipment that is found in a sound book is sound, and has no more orders than the book has room for.
-- Assumes nothing.
use mathlib.Core.Path.{◌≡◌}
use mathlib.Core.Bool.{true}
use mathlib.Core.List.{[], ◌∷◌}
use mathlib.Core.Option.{Option, some, none}
use Prim.Native.Nat.{ℕ, ◌≤◌}
use native.Mathlib.Omega.{arith}
use lib.ListN.{length}
use Rattle.text.proofs.Branches.{either_way}
use Rattle.epe.specs.declared.ident.Ident.{Ident}
use Rattle.model.specs.Shipment.{most_rows, Shipment}
use Rattle.model.specs.Book.{Book, is_called, find, rows_in}
use Rattle.model.specs.Sound.{shipment_sound, shipments_sound, sound}
use Rattle.model.proofs.StaysSound.{book_in_order, first_in_order}

abbrev SoundWithin : ℕ → Option Shipment → Type 0
SoundWithin most none = Unit {0}
SoundWithin most (some s) = (shipment_sound s ≡ true) × (length s.rows ≤ most)

with_more : (fewer more : ℕ) (found : Option Shipment) → fewer ≤ more → SoundWithin fewer found → SoundWithin more found
with_more fewer more none h within = tt
with_more fewer more (some s) h within = let rows = within.1 in (within.0, omega arith)

found_within : (ident : Ident) (book : Book) → shipments_sound book ≡ true → SoundWithin (rows_in book) (find ident book)
found_within ident [] h = tt
found_within ident (s ∷ book) h =
    let parts = first_in_order s book h in
    let later = with_more (rows_in book) (rows_in (s ∷ book)) (find ident book) (omega arith) (found_within ident book parts.rest) in
    either_way (is_called ident s) (λ here. rw here (parts.first, omega arith)) (λ further. rw further later)

pub found_sound : (book : Book) (ident : Ident) (s : Shipment) → sound book ≡ true → find ident book ≡ some s
    → (shipment_sound s ≡ true) × (length s.rows ≤ most_rows)
found_sound book ident s h is =
    let parts = book_in_order book h in
    rw is at (with_more (rows_in book) most_rows (find ident book) parts.rows_fit (found_within ident book parts.shipments))
