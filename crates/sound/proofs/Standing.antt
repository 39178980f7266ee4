-- Going from shipment to shipment of a sound book: the first of those that are left is at its place, and those after it are left.
-- Assumes nothing.
use mathlib.Core.Path.{◌≡◌, refl, sym, ap, ◌∙◌}
use mathlib.Core.Bool.{true, false}
use mathlib.Core.List.{List, [], ◌∷◌}
use Prim.Native.Nat.{ℕ, zero, suc, ◌+◌, ◌-◌, ◌≤◌, ◌<◌}
use native.Mathlib.Numerals.{add-one}
use native.Mathlib.Omega.{arith}
use lib.ListN.{length}
use Rattle.std.specs.Prelude.{Some, None}
use Rattle.text.proofs.Branches.{either_way}
use Rattle.model.specs.Shipment.{most_shipments, Shipment}
use Rattle.model.specs.Book.{Book}
use Rattle.model.specs.Sound.{shipments_sound}
use Rattle.model.specs.declared.Row.{Row}
use Rattle.model.proofs.SoundParts.{halves}
use Rattle.memory.specs.Layout.{size}
use Rattle.memory.specs.Heads.{shipment_in}
use Rattle.memory.specs.Read.{orders_at, shipment_at, shipments_from, shipments_in, book_in, sound_in, Sits}
use Rattle.memory.proofs.Columns.{rows_many}
use Rattle.sound.specs.Inner.Standing.{Stands, book_of}
use Rattle.sound.proofs.ReadLaws.{rows_next, shipments_many, sound_parts}

module _ (m : List ℕ) (sound : sound_in m ≡ true) where
  pub book_enough : size ≤ length m
  book_enough = (sound_parts m sound).enough

  pub book_few : length (book_in m) ≤ most_shipments
  unfolding book_in
  book_few = let parts = sound_parts m sound in omega (arith, parts.few, shipments_many m 0 0 (shipments_in m))

  module _ (book : List Shipment) (is : book_in m ≡ book) where
    pub book_many : (lent : List ℕ) → lent ≡ m → {n : ℕ} → n ≡ shipments_in lent → (n ≡ length book) × (n ≤ most_shipments)
    unfolding book_in
    book_many lent same all =
        let many = shipments_many m 0 0 (shipments_in m) in
        let here = all ∙ ap shipments_in same in
        (here ∙ sym many ∙ ap length is, omega (arith, here, (sound_parts m sound).few))

    module _ {n : ℕ} (many : n ≡ length book) where
      all_are : n ≡ shipments_in m
      unfolding book_in
      all_are = many ∙ ap length (sym is) ∙ shipments_many m 0 0 (shipments_in m)

      pub stands_first : Stands m 0 0 n
      unfolding book_in
      stands_first =
          let parts = sound_parts m sound in
          rw all_are (record { enough = parts.enough; few = omega (arith, parts.few); rows = omega (arith, parts.rows); sound = parts.shipments })

      pub left_first : shipments_from m 0 0 n ≡ book
      unfolding book_in
      left_first = rw (all_are, ← is)

module _ (m : List ℕ) (i k : ℕ) where
  pub first_sits : (n : ℕ) → Stands m i k n → 0 < n → Sits m i k
  unfolding shipments_sound shipments_from
  first_sits zero stands more = absurd (omega arith)
  first_sits (suc n) stands more = record {
    enough = stands.enough;
    few = omega (arith, stands.few);
    room = omega (arith, stands.rows, rows_next m i k n);
    sound = let all = stands.sound in search halves;
  }

  module _ (s : Shipment) (is : s ≡ shipment_at m i k) (rows : List Row) (rows_are : rows ≡ s.rows) {count : ℕ} (many : count ≡ length rows) where
    count_is : count ≡ orders_at m i
    unfolding shipment_in
    count_is = many ∙ ap length (rows_are ∙ ap (λ (s : Shipment). s.rows) is) ∙ rows_many m k (orders_at m i)

    pub rest_stands : (n : ℕ) → Stands m i k n → 0 < n → Stands m (i + 1) (k + count) (n - 1)
    unfolding shipments_sound shipments_from
    rest_stands zero stands more = absurd (omega arith)
    rest_stands (suc n) stands more =
        let less : suc n - 1 ≡ n = omega arith in
        rw (less, add-one, count_is) (record {
          enough = stands.enough;
          few = omega (arith, stands.few);
          rows = omega (arith, stands.rows, rows_next m i k n);
          sound = let all = stands.sound in search halves depth 4;
        })

    pub shipments_on : (n : ℕ) → 0 < n → shipments_from m i k n ≡ s ∷ shipments_from m (i + 1) (k + count) (n - 1)
    unfolding shipments_from
    shipments_on zero more = absurd (omega arith)
    shipments_on (suc n) more = let less : suc n - 1 ≡ n = omega arith in rw (less, add-one, count_is, is)

  pub shipments_done : (n : ℕ) → n ≤ 0 → shipments_from m i k n ≡ []
  unfolding shipments_from
  shipments_done zero done = refl
  shipments_done (suc n) done = absurd (omega arith)

-- what a book that was asked for tells of the memory
module _ (m : List ℕ) where
  pub no_book : None ≡ book_of m → sound_in m ≡ false
  unfolding book_of
  no_book none = either_way (sound_in m) (λ sound. let other = rw sound at none in cc) (λ unsound. unsound)

  pub is_book : {book : Book} → Some book ≡ book_of m → (sound_in m ≡ true) × (book ≡ book_in m)
  unfolding book_of
  is_book some = either_way (sound_in m) (λ sound. (sound, let same = rw sound at some in cc)) (λ unsound. let other = rw unsound at some in cc)
