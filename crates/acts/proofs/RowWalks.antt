-- The rows of a shipment one after the other: the faults that are found, with what is still to look at, are the whole's.
-- Assumes nothing.
use mathlib.Core.Path.{◌≡◌, refl, sym, ap, ◌∙◌}
use mathlib.Core.Bool.{true, ◌&&◌, ◌||◌, or-false, or_assoc}
use mathlib.Core.List.{List, [], ◌∷◌}
use Prim.Native.Nat.{ℕ, ◌<◌}
use native.Mathlib.Omega.{arith}
use borrow.Author.Tests.{ltb-true, ltb-false, lt-ltb, le-ltb}
use lib.Bits.{bit_or, or_add_and, and_le_l, and_le_r}
use lib.Dec.{ltb}
use Rattle.text.proofs.Branches.{and_left, and_right, either_way}
use Rattle.fee.specs.declared.Terms.{Terms}
use Rattle.model.specs.Shipment.{is_faulty, any_faulty}
use Rattle.model.specs.Sound.{fault_in_range, before_pairing, row_charged, row_sound, rows_sound}
use Rattle.model.specs.declared.Row.{Row}
use Rattle.model.specs.declared.Stage.TheVariants.{Waiting}
use Rattle.memory.specs.States.{state_of}
use Rattle.memory.proofs.StateLaws.{faulty_by_code}
use Rattle.acts.specs.Inner.Waiting.{SoundInWaiting}

-- Some rows are left: it is still to look whether any is Faulty.
pub record Looking (rows left : List Row) (bits : ℕ) : Type 0 where
  pub terms : Terms
  pub sound : rows_sound terms Waiting left ≡ true
  pub faults : (ltb 0 bits || any_faulty left) ≡ any_faulty rows

-- a bit is in what is joined where it is in either part
some_join : (a b : ℕ) → ltb 0 (bit_or a b) ≡ (ltb 0 a || ltb 0 b)
some_join a b =
    either_way (ltb 0 a) (λ h. rw h (lt-ltb 0 (bit_or a b) (omega (arith, or_add_and a b, and_le_r a b, ltb-true 0 a h))))
    (λ h.
    rw h
    (either_way (ltb 0 b) (λ i. rw i (lt-ltb 0 (bit_or a b) (omega (arith, or_add_and a b, and_le_l a b, ltb-true 0 b i))))
    (λ i. rw i (le-ltb 0 (bit_or a b) (omega (arith, or_add_and a b, ltb-false 0 a h, ltb-false 0 b i))))))

-- a row of a shipment that is Waiting
faulty_by_byte : (terms : Terms) (row : Row) (code : ℕ) → code < 256 → row_sound terms Waiting row ≡ true → state_of code ≡ row.state
    → is_faulty row.state ≡ ltb 0 code
unfolding row_sound
faulty_by_byte terms row code byte sound state_is =
    let before = and_right (row_charged terms row) (fault_in_range row.state && before_pairing row.state) sound in
    ap is_faulty (sym state_is) ∙ faulty_by_code code byte (ap (λ state. fault_in_range state && before_pairing state) state_is ∙ before)

module _ {rows : List Row} where
  pub looking_begun : SoundInWaiting rows → Looking rows rows 0
  looking_begun sound = record { terms = sound.terms; sound = sound.is; faults = refl }

  pub looking_on : {row : Row} {left : List Row} {bits : ℕ} (code : ℕ) → Looking rows (row ∷ left) bits → state_of code ≡ row.state → code < 256
      → Looking rows left (bit_or bits code)
  unfolding rows_sound any_faulty
  looking_on {row} {left} {bits} code going state_is byte =
      let terms = going.terms in
      let faulty = faulty_by_byte terms row code byte (and_left (row_sound terms Waiting row) (rows_sound terms Waiting left) going.sound) state_is in
      record {
        terms = terms;
        sound = and_right (row_sound terms Waiting row) (rows_sound terms Waiting left) going.sound;
        faults = ap (λ t. t || any_faulty left) (some_join bits code ∙ ap (λ t. ltb 0 bits || t) (sym faulty))
            ∙ or_assoc (ltb 0 bits) (is_faulty row.state) (any_faulty left)
            ∙ going.faults;
      }

  pub looking_done : {bits : ℕ} → Looking rows [] bits → ltb 0 bits ≡ any_faulty rows
  unfolding any_faulty
  looking_done {bits} all = sym (or-false (ltb 0 bits)) ∙ all.faults
