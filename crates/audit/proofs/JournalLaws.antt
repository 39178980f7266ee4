-- A journal read in place: what a whole entry has, and one entry behind the other.
-- Assumes nothing.
use mathlib.Core.Path.{◌≡◌, refl, sym, ap, ◌∙◌}
use mathlib.Core.Bool.{true, false}
use mathlib.Core.List.{List}
use Prim.Native.Nat.{ℕ, zero, suc, ◌+◌, ◌-◌, ◌<◌, ◌≤◌}
use native.Mathlib.Omega.{arith}
use borrow.Author.Tests.{leb-true, leb-false, le-leb, lt-leb, le-ltb, eqb-true, eq-eqb}
use lib.Dec.{leb, ltb, eqb}
use lib.ListN.{length, take, drop, length-drop}
use lib.Seq.{drop-drop}
use Rattle.std.specs.Prelude.{Option, Some, None}
use Rattle.std.specs.Option.{IsSome}
use Rattle.text.proofs.Branches.{and_left, both_ways, either_way}
use Rattle.audit.specs.Inner.Places.{place_within}
use Rattle.audit.specs.Journal.{texts_of, texts_start, text_length, text_start, entry_text, entry_length, call_known, entry_fits, entries_fit}

-- a text starts no later than those behind it
starts_later : (entry : List ℕ) (k n : ℕ) → text_start entry k ≤ text_start entry (k + n)
unfolding text_start
starts_later entry k zero = let same : k + 0 ≡ k = omega arith in rw same (omega arith)
starts_later entry k (suc n) = let next : k + suc n ≡ suc (k + n) = omega arith in let before = starts_later entry k n in rw next (omega arith)

-- a place within so many bytes, and one that is not
pub far_place : (most place : ℕ) → most < place → None ≡ place_within most place
far_place most place far = rw (lt-leb place most far)

pub near_place : (most place : ℕ) → place ≤ most → Some place ≡ place_within most place
near_place most place near = rw (le-leb place most near)

never : {A : Type 0} {n : ℕ} → ◌≡◌ {A = Option ℕ} None (Some n) → A
never same = let apart : ◌≡◌ {A = ℕ} 0 1 = cc in absurd (omega arith)

said_far : (most place : ℕ) → None ≡ place_within most place → most < place
said_far most place is = either_way (leb place most) (λ near. never (rw near at is)) (λ far. leb-false place most far)

pub said_near : (most place : ℕ) {n : ℕ} → Some n ≡ place_within most place → (place ≤ most) × (n ≡ place)
said_near most place is =
    either_way (leb place most)
    (λ near. (leb-true place most near, let same = rw near at is in cc))
    (λ far. never (sym (rw far at is)))

-- text after text: the next starts behind this one, and where this one is not all there, none behind it is
module _ (entry : List ℕ) (k : ℕ) {at : ℕ} {ends : Option ℕ} (at_is : at ≡ text_start entry k) (ends_is : ends ≡ place_within (length entry) (at + text_length entry k)) where
  next_text : at + text_length entry k ≡ text_start entry (k + 1)
  unfolding text_start
  next_text = let next : k + 1 ≡ suc k = omega arith in rw (next, at_is)

  pub next_there : {next : ℕ} → ends ≡ Some next → (next ≡ text_start entry (k + 1)) × (next ≤ length entry)
  next_there is =
      let told = said_near (length entry) (at + text_length entry k) (sym is ∙ ends_is) in
      (told.1 ∙ next_text, omega (arith, told.0, told.1))

  pub cut_off : {j : ℕ} → k < j → ends ≡ None → None ≡ place_within (length entry) (text_start entry j)
  cut_off {j} below none =
      let later : k + 1 + (j - (k + 1)) ≡ j = omega arith in
      let short = said_far (length entry) (at + text_length entry k) (sym none ∙ ends_is) in
      far_place (length entry) (text_start entry j) (omega (arith, short, next_text, rw later at (starts_later entry (k + 1) (j - (k + 1)))))

pub starts_here : (entry : List ℕ) {at : ℕ} (k j : ℕ) → at ≡ text_start entry k → at ≤ length entry → k ≤ j → j ≤ k
    → Some at ≡ place_within (length entry) (text_start entry j)
starts_here entry {at} k j at_is within below above =
    let last : k ≡ j = omega arith in
    let start = rw last at at_is in
    ap (λ (n : ℕ). Some n) start ∙ near_place (length entry) (text_start entry j) (omega (arith, start))

-- behind the last text nothing is added
all_behind : (entry : List ℕ) (n : ℕ) → text_start entry (texts_of entry + n) ≡ entry_length entry
unfolding entry_length text_start text_length
all_behind entry zero = let same : texts_of entry + 0 ≡ texts_of entry = omega arith in rw same
all_behind entry (suc n) =
    let next : texts_of entry + suc n ≡ suc (texts_of entry + n) = omega arith in
    let none : ltb (texts_of entry + n) (texts_of entry) ≡ false = le-ltb (texts_of entry + n) (texts_of entry) (omega arith) in
    let before = all_behind entry n in
    rw (next, none) (omega (arith, before))

-- every text starts within an entry
starts_within : (entry : List ℕ) (j : ℕ) → text_start entry j ≤ entry_length entry
unfolding entry_length
starts_within entry j = either_way (leb j (texts_of entry))
    (λ yes. let few = leb-true j (texts_of entry) yes in let there : j + (texts_of entry - j) ≡ texts_of entry = omega arith in rw there at (starts_later entry j (texts_of entry - j)))
    (λ no. let many = leb-false j (texts_of entry) no in let there : texts_of entry + (j - texts_of entry) ≡ j = omega arith in omega (arith, rw there at (all_behind entry (j - texts_of entry))))

-- an entry has its first three bytes
pub some_bytes : (entry : List ℕ) → 3 ≤ entry_length entry
unfolding text_start
some_bytes entry = omega (arith, starts_within entry 0)

-- a whole entry has its numbers, its lengths and its texts
module _ (entry : List ℕ) (fits : entry_fits entry ≡ true) where
  pub all_there : entry_length entry ≤ length entry
  unfolding entry_fits
  all_there = leb-true (entry_length entry) (length entry) (and_left (leb (entry_length entry) (length entry)) (call_known entry) fits)

  pub fields_there : texts_start entry ≤ length entry
  unfolding text_start
  fields_there = omega (arith, all_there, starts_within entry 0)

  -- how long the entry is, and where a text starts, as code has it
  pub length_there : {ends : Option ℕ} → ends ≡ place_within (length entry) (entry_length entry) → IsSome ends
  length_there is = rw is (rw (le-leb (entry_length entry) (length entry) all_there) refl)

  pub text_there : {starts : Option ℕ} (j : ℕ) → starts ≡ place_within (length entry) (text_start entry j) → IsSome starts
  text_there j is = rw is (rw (le-leb (text_start entry j) (length entry) (omega (arith, all_there, starts_within entry j))) refl)

  pub text_is : {starts : Option ℕ} {at long : ℕ} {rest text : List ℕ} (j : ℕ) → starts ≡ place_within (length entry) (text_start entry j) → starts ≡ Some at
      → rest ≡ drop at entry → long ≡ text_length entry j → text ≡ take long rest → text ≡ entry_text entry j
  text_is j starts_is at_is rest_is long_is is =
      let start = (said_near (length entry) (text_start entry j) (sym at_is ∙ starts_is)).1 in
      is ∙ (λ i. take (long_is i) ((rest_is ∙ ap (λ at. drop at entry) start) i))

-- whether an entry is whole, as code asks
too_short : (entry : List ℕ) → length entry < entry_length entry → false ≡ entry_fits entry
unfolding entry_fits
too_short entry short = rw (lt-leb (entry_length entry) (length entry) short)

module _ (entry : List ℕ) where
  pub no_fields : {at : ℕ} → at ≡ texts_start entry → length entry < at → false ≡ entry_fits entry
  unfolding text_start
  no_fields is short = too_short entry (omega (arith, is, starts_within entry 0))

  module _ {ends : Option ℕ} (is : ends ≡ place_within (length entry) (entry_length entry)) where
    pub no_texts : ends ≡ None → false ≡ entry_fits entry
    no_texts none = too_short entry (said_far (length entry) (entry_length entry) (sym none ∙ is))

    pub then_the_call : {long : ℕ} → ends ≡ Some long → (long ≡ entry_length entry) × (call_known entry ≡ entry_fits entry)
    unfolding entry_fits
    then_the_call there =
        let told = said_near (length entry) (entry_length entry) (sym there ∙ is) in
        (told.1, rw (le-leb (entry_length entry) (length entry) told.0))

-- an entry that is there ends within the bytes
pub entry_within : (bytes : List ℕ) {entry : List ℕ} (at n : ℕ) → entry ≡ drop at bytes → at ≤ length bytes → n ≤ length entry
    → at + n ≤ length bytes
entry_within bytes at n is_entry within long = omega (arith, length-drop at bytes, rw is_entry at long)

-- entry after entry: one that is not whole answers no, and behind one that is, fewer are left
module _ (bytes : List ℕ) {entry : List ℕ} (at i n : ℕ) (is_entry : entry ≡ drop at bytes) (more : i < n) where
  left : n - i ≡ suc (n - (i + 1))
  left = omega arith

  pub entry_short : entry_fits entry ≡ false → entries_fit (n - i) (drop at bytes) ≡ false
  unfolding entries_fit
  entry_short short = rw (left, ← is_entry, short)

  pub entry_passed : {long : ℕ} → entry_fits entry ≡ true → long ≡ entry_length entry
      → entries_fit (n - (i + 1)) (drop (at + long) bytes) ≡ entries_fit (n - i) (drop at bytes)
  unfolding entries_fit
  entry_passed {long} fits is = rw (left, ← drop-drop long at bytes, ← is_entry, fits, is)

-- and nothing behind the last
pub all_passed : (bytes : List ℕ) (at i n : ℕ) → at ≤ length bytes → n ≤ i → eqb at (length bytes) ≡ entries_fit (n - i) (drop at bytes)
unfolding entries_fit
all_passed bytes at i n within none =
    let nothing : n - i ≡ 0 = omega arith in
    let size = length (drop at bytes) in
    let behind = length-drop at bytes in
    rw nothing
    (both_ways (eqb at (length bytes)) (eqb size 0)
    (λ h. eq-eqb size 0 (omega (arith, behind, eqb-true at (length bytes) h)))
    (λ h. eq-eqb at (length bytes) (omega (arith, behind, eqb-true size 0 h))))

-- by which texts are passed
pub ruleset text_after_text = (next_there, cut_off, starts_here)

-- by which a place is within the bytes
pub ruleset places = (far_place, near_place)

-- by which entries are passed
pub ruleset entry_after_entry = (entry_within, entry_short, entry_passed, all_passed)

-- by which an entry is found whole
pub ruleset if_whole = (no_fields, no_texts, then_the_call)
