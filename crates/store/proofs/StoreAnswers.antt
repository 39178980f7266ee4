-- What storing answers, by whether the memory is a sound book and how long the output is.
-- Assumes nothing.
use mathlib.Core.Path.{◌≡◌, sym, ◌∙◌, ap}
use mathlib.Core.Bool.{true, false}
use mathlib.Core.List.{List, []}
use Prim.Native.Nat.{ℕ, ◌+◌, ◌*◌, ◌≤◌, ◌<◌}
use native.Mathlib.Omega.{arith}
use lib.ListN.{length, get_or}
use Rattle.model.specs.Book.{rows_in}
use Rattle.memory.specs.Layout.{head_size, row_size}
use Rattle.memory.specs.Read.{shipments_from, shipments_in, book_in, sound_in, read_book}
use Rattle.sound.proofs.ReadLaws.{shipments_many}
use Rattle.write.specs.Written.{written, leaving, written_after}
use Rattle.std.specs.Prelude.{Ok}
use Rattle.write.proofs.Pieces.{room_whole, whole_written}
use Rattle.write.proofs.Answers.{alone_short, alone_written}
use Rattle.store.specs.Stored.{stored_into}
use Rattle.store.specs.Inner.Raw.{raw_stored}
use Rattle.store.proofs.Backs.{stored_long}
use Rattle.store.proofs.SoundMemory.{long_enough, sound_storable}
use Rattle.store.proofs.Storing.{book_few}
use Rattle.store.proofs.RawBytes.{stored_raw}

pub store_unsound : (m output : List ℕ) → sound_in m ≡ false → leaving output 10 ≡ stored_into (read_book m) output
unfolding read_book stored_into
store_unsound m output h = rw h

module _ (m : List ℕ) (small : (j : ℕ) → get_or m j 0 < 256) (h : sound_in m ≡ true) where
  pub store_measured : {n : ℕ} → n ≡ shipments_in m → 2 + (8 + head_size) * n + row_size * rows_in (shipments_from m 0 0 n) ≡ length (raw_stored m)
  unfolding book_in
  store_measured is =
      let long = stored_long (book_in m) (sound_storable m h) in
      let raw = ap (λ (l : List ℕ). length l) (stored_raw m small h) in
      let many = shipments_many m 0 0 (shipments_in m) in
      rw is (omega arith)

  by_raw : (output : List ℕ) → written_after [] (raw_stored m) output ≡ stored_into (read_book m) output
  unfolding read_book stored_into
  by_raw output = rw h (ap (λ (l : List ℕ). written_after [] l output) (sym (stored_raw m small h)))

  pub store_short : (output : List ℕ) → length output < length (raw_stored m) → leaving output 30 ≡ stored_into (read_book m) output
  store_short output short = alone_short (raw_stored m) output short ∙ by_raw output

  pub store_wrote : (output : List ℕ) {n : ℕ} {after : List ℕ} → length (raw_stored m) ≤ length output → n ≡ length (raw_stored m) → after ≡ written (raw_stored m) output
      → record { answer = Ok n; output = after } ≡ stored_into (read_book m) output
  store_wrote output long is_long is_after = alone_written (raw_stored m) output long is_long is_after ∙ by_raw output

-- by which storing answers
pub ruleset storing = (long_enough, book_few, store_unsound, store_measured, store_short, store_wrote, room_whole, whole_written)
