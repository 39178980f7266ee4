-- Texts written one behind the other, and the digits of a number.
-- Assumes nothing.
use mathlib.Core.Path.{◌≡◌, refl, sym, ◌∙◌, ap}
use mathlib.Core.List.{List, [], ◌∷◌, ◌++◌, append_assoc}
use Prim.Native.Nat.{ℕ, zero, suc, ◌+◌, ◌-◌, ◌/◌, ◌%◌, ◌≤◌, ◌<◌}
use native.Mathlib.Omega.{arith}
use lib.ListN.{length, drop, set, length-append}
use Rattle.write.specs.Spelled.{digits}
use Rattle.write.specs.Written.{put_at, written}
use Rattle.write.specs.Writer.{HasRoom, Writes}
use Rattle.write.specs.declared.Writer.{Writer}
use Rattle.write.proofs.Putting.{put_length, put_none, put_then, put_first}

-- a text that fits, piece by piece
pub room_first : (first second : List ℕ) {w : Writer} → HasRoom (first ++ second) w → HasRoom first w
room_first first second room = let long = length-append first second in record { fits = omega (arith, room.fits) }

pub room_behind : (first second : List ℕ) {w w' : Writer} → HasRoom (first ++ second) w → Writes first w w' → HasRoom second w'
room_behind first second {w} room written =
    let long = length-append first second in
    let same = ap (λ (s : List ℕ). length s) written.output_after ∙ put_length w.at first w.output.now written.fits in
    record { fits = omega (arith, room.fits, written.place) }

pub writes_then : {first second : List ℕ} {w w' w'' : Writer} → Writes first w w' → Writes second w' w'' → Writes (first ++ second) w w''
writes_then {first} {second} {w} {w'} before behind =
    let long = length-append first second in
    let same = ap (λ (s : List ℕ). length s) before.output_after ∙ put_length w.at first w.output.now before.fits in
    let fits : w.at + length first + length second ≤ length w.output.now = omega (arith, behind.fits, before.place) in
    record {
      fits = omega arith;
      same_output = behind.same_output ∙ before.same_output;
      output_after = behind.output_after ∙ (λ i. put_at (before.place i) second (before.output_after i)) ∙ put_then w.at first second w.output.now fits;
      place = omega (arith, behind.place, before.place);
    }

-- a text that is written from an output's start on
module _ {text output : List ℕ} {w : Writer} (is_start : w.at ≡ 0) (is_output : w.output.now ≡ output) where
  pub room_whole : length text ≤ length output → HasRoom text w
  room_whole enough = record { fits = omega (arith, ap (λ (s : List ℕ). length s) is_output) }

  pub whole_written : {w' : Writer} → Writes text w w' → w'.output.now ≡ written text output
  whole_written done = done.output_after ∙ (λ i. put_at (is_start i) text (is_output i)) ∙ put_first text output

pub ruleset pieces = (room_first, room_behind, writes_then)

pub writes_none : {w : Writer} → HasRoom [] w → Writes [] w w
writes_none {w} room = record { fits = room.fits; same_output = refl; output_after = sym (put_none w.at w.output.now); place = omega arith }

-- What is left of a text to put, from which the whole comes.
pub record Left (whole : List ℕ) (start : Writer) (rest : List ℕ) (now : Writer) : Type 0 where
  pub room : HasRoom rest now
  pub makes : (end : Writer) → Writes rest now end → Writes whole start end

pub all_left : {whole : List ℕ} {start : Writer} → HasRoom whole start → Left whole start whole start
all_left room = record { room = room; makes = λ end done. done }

pub left_behind : (piece rest : List ℕ) {whole : List ℕ} {start now next : Writer} → Left whole start (piece ++ rest) now → Writes piece now next
    → Left whole start rest next
left_behind piece rest left put =
    record { room = room_behind piece rest left.room put; makes = λ end done. left.makes end (writes_then put done) }

pub none_left : {whole : List ℕ} {start now : Writer} → Left whole start [] now → Writes whole start now
none_left {now = now} left = left.makes now (writes_none left.room)

-- the last digit of a number before those behind it
one_set : (i d : ℕ) (s : List ℕ) → i < length s → drop i (set s i d) ≡ d ∷ drop (suc i) s
one_set zero d [] h = absurd (omega arith)
one_set zero d (b ∷ s) h = refl
one_set (suc i) d [] h = absurd (omega arith)
one_set (suc i) d (b ∷ s) h = one_set i d s (omega arith)

pub digit_before : (left n : ℕ) (s : List ℕ) → 0 < left → left ≤ length s
    → digits (left - 1) (n / 10) ++ drop (left - 1) (set s (left - 1) (0x30 + n % 10)) ≡ digits left n ++ drop left s
unfolding digits
digit_before zero n s some fits = absurd (omega arith)
digit_before (suc left) n s some fits =
    let fewer : suc left - 1 ≡ left = omega arith in
    rw fewer
    (ap (λ (t : List ℕ). digits left (n / 10) ++ t) (one_set left (0x30 + n % 10) s (omega arith))
    ∙ sym (append_assoc (digits left (n / 10)) ((0x30 + n % 10) ∷ []) (drop (suc left) s)))
