-- A state is read back from its byte, and states and tests are compared by computation at each byte.
-- Assumes nothing.
use mathlib.Core.Path.{◌≡◌, refl, sym, ap, ◌∙◌}
use mathlib.Core.Bool.{Bool, true, false, not, cond, ◌&&◌, ◌||◌}
use mathlib.Core.List.{List, [], ◌∷◌}
use Prim.Native.Nat.{ℕ, ◌+◌, ◌<◌}
use native.Mathlib.Omega.{arith}
use borrow.Author.Tests.{leb-true, ne_eqb}
use lib.Dec.{eqb, leb, ltb}
use lib.ListN.{get_or}
use Rattle.text.specs.Bytes.{same}
use Rattle.text.proofs.Branches.{and_left, and_right}
use Rattle.text.proofs.Same.{same_equal}
use Rattle.calendar.proofs.Computed.{below, each}
use Rattle.model.specs.Shipment.{only_if, is_faulty}
use Rattle.model.specs.Sound.{fault_in_range, before_pairing}
use Rattle.model.specs.declared.State.{State}
use Rattle.model.specs.declared.State.TheVariants.{Open, Posted, Paid, Faulty, Undelivered, Withdrawn}
use Rattle.model.proofs.SoundParts.{where_first}
use Rattle.memory.specs.States.{last_fault, state_of}
use Rattle.memory.specs.Inner.Stored.{code_of, StateIsReadBack}

-- a state in numbers and back, so that two states can be compared by computation
abbrev parts : State → List ℕ
parts Open = 0 ∷ []
parts Posted = 1 ∷ []
parts Paid = 2 ∷ []
parts (Faulty fault k o) = 3 ∷ fault ∷ only_if k 1 ∷ only_if o 1 ∷ []
parts (Undelivered k) = 4 ∷ only_if k 1 ∷ []
parts (Withdrawn k o) = 5 ∷ only_if k 1 ∷ only_if o 1 ∷ []

abbrev whole : List ℕ → State
whole [] = Open
whole (tag ∷ l) =
    cond (eqb tag 0) Open
    (cond (eqb tag 1) Posted
    (cond (eqb tag 2) Paid
    (cond (eqb tag 3) (Faulty (get_or l 0 0) (eqb (get_or l 1 0) 1) (eqb (get_or l 2 0) 1))
    (cond (eqb tag 4) (Undelivered (eqb (get_or l 0 0) 1)) (Withdrawn (eqb (get_or l 0 0) 1) (eqb (get_or l 1 0) 1))))))

whole_parts : (state : State) → whole (parts state) ≡ state
whole_parts Open = refl
whole_parts Posted = refl
whole_parts Paid = refl
whole_parts (Faulty fault true true) = refl
whole_parts (Faulty fault true false) = refl
whole_parts (Faulty fault false true) = refl
whole_parts (Faulty fault false false) = refl
whole_parts (Undelivered true) = refl
whole_parts (Undelivered false) = refl
whole_parts (Withdrawn true true) = refl
whole_parts (Withdrawn true false) = refl
whole_parts (Withdrawn false true) = refl
whole_parts (Withdrawn false false) = refl

abbrev pub alike : State → State → Bool
alike a b = same (parts a) (parts b)

pub alike_equal : (a b : State) → alike a b ≡ true → a ≡ b
alike_equal a b h = sym (whole_parts a) ∙ ap whole (same_equal (parts a) (parts b) h) ∙ whole_parts b

-- a Faulty state, at each fault
read_back : Bool → Bool → ℕ → Bool
read_back k o fault = eqb fault 0 || alike (state_of (code_of (Faulty fault k o))) (Faulty fault k o)

faulty_back : (k o : Bool) (fault : ℕ) → (leb 1 fault && leb fault last_fault) ≡ true → below (read_back k o) (last_fault + 1) ≡ true
    → state_of (code_of (Faulty fault k o)) ≡ Faulty fault k o
unfolding read_back
faulty_back k o fault h computed =
    let low = leb-true 1 fault (and_left (leb 1 fault) (leb fault last_fault) h) in
    let high = leb-true fault 10 (and_right (leb 1 fault) (leb fault last_fault) h) in
    let here : read_back k o fault ≡ true = each (read_back k o) (last_fault + 1) computed fault (omega arith) in
    alike_equal _ _ (rw (ne_eqb fault 0 (omega arith)) at here)

pub state_is_read_back : StateIsReadBack
unfolding state_of read_back
state_is_read_back Open h = refl
state_is_read_back Posted h = refl
state_is_read_back Paid h = refl
state_is_read_back (Faulty fault true true) h = faulty_back true true fault h refl
state_is_read_back (Faulty fault true false) h = faulty_back true false fault h refl
state_is_read_back (Faulty fault false true) h = faulty_back false true fault h refl
state_is_read_back (Faulty fault false false) h = faulty_back false false fault h refl
state_is_read_back (Undelivered true) h = refl
state_is_read_back (Undelivered false) h = refl
state_is_read_back (Withdrawn true true) h = refl
state_is_read_back (Withdrawn true false) h = refl
state_is_read_back (Withdrawn false true) h = refl
state_is_read_back (Withdrawn false false) h = refl

-- two tests, so that they can be compared by computation
unfoldable pub agree : Bool → Bool → Bool
agree true t = t
agree false true = false
agree false false = true

pub agree_equal : (t u : Bool) → agree t u ≡ true → t ≡ u
unfolding agree
agree_equal true u h = sym h
agree_equal false true h = h
agree_equal false false h = refl

-- before pairing, every state but Open is Faulty, and the byte of Open is 0
faulty_right : ℕ → Bool
faulty_right code = not (fault_in_range (state_of code) && before_pairing (state_of code)) || agree (is_faulty (state_of code)) (ltb 0 code)

pub faulty_by_code : (code : ℕ) → code < 256 → (fault_in_range (state_of code) && before_pairing (state_of code)) ≡ true
    → is_faulty (state_of code) ≡ ltb 0 code
unfolding faulty_right agree state_of
faulty_by_code code byte before = agree_equal _ _ (where_first _ _ (each faulty_right 256 refl code byte) before)
