-- What stands between the ASCII octets of a well-formed text is well formed: no character has such an octet behind its first.
-- Assumes nothing.
use mathlib.Core.Path.{◌≡◌, refl, sym, ◌∙◌, ap}
use mathlib.Core.Bool.{true}
use mathlib.Core.List.{List, [], ◌∷◌, ◌++◌}
use Prim.Native.Nat.{ℕ, zero, suc, pred, ◌+◌, ◌-◌, ◌/◌, ◌<◌, ◌≤◌}
use native.Mathlib.Decide.{dec_lt}
use native.Mathlib.Omega.{arith}
use borrow.Author.Tests.{lt-ltb, ltb-true, eqb-true, eqb-false}
use lib.Dec.{eqb}
use lib.ListN.{length, get_or, take, drop, take-append-drop, get_or-append}
use Rattle.text.specs.Fields.{onto, fields}
use Rattle.text.specs.Lines.{crlf, parted, without_last_end, lines}
use Rattle.text.specs.Utf8.{ascii, width_at, well_formed_after, well_formed}
use Rattle.text.specs.Utf8Parts.{parts_joined, FieldsJoin, LinesJoin, all_ascii, PartsAreWellFormed, FieldsAreWellFormed, LinesAreWellFormed}
use Rattle.text.proofs.Branches.{and_left, and_right, cond_either, either_way}
use Rattle.text.proofs.FieldsByCuts.{count_of_fields}
use Rattle.text.proofs.Places.{from_here}
use Rattle.text.proofs.Utf8Laws.{by_ascii, by_row2, by_row3, by_row4, by_rows, row2_says, row3_says, row4_says, stands_within}
use Rattle.text.proofs.Utf8Read.{well_formed_here}

-- an octet b of ASCII behind some octets p
module _ (b : ℕ) (is_ascii : ascii b ≡ true) (p q : List ℕ) where
  abbrev from : List ℕ
  from = p ++ (b ∷ q)

  stands_behind : (p : List ℕ) → get_or (p ++ (b ∷ q)) (length p) 0 ≡ b
  stands_behind [] = refl
  stands_behind (a ∷ p) = stands_behind p

  low : b < 128
  unfolding ascii
  low = ltb-true b 128 is_ascii

  -- a tail octet is not b, so it stands before it
  before_it : (i : ℕ) → i ≤ length p → get_or from i 0 / 64 ≡ 2 → (i < length p) × (get_or from i 0 ≡ get_or p i 0)
  before_it i h t = go (dec_lt i (length p))
    where
      go : Dec (i < length p) → (i < length p) × (get_or from i 0 ≡ get_or p i 0)
      go (yes l) = (l, get_or-append p (b ∷ q) 0 i l)
      go (no n) =
          let last : i ≡ length p = omega arith in
          let here : get_or from i 0 ≡ b = ap (λ k. get_or from k 0) last ∙ stands_behind p in
          absurd (omega (arith, low))

  -- so a character that starts before it ends before it, and is there without what follows
  ends_before : (a : ℕ) → (width_at (a ∷ from) 0 ≡ 0 → ⊥) → (pred (width_at (a ∷ from) 0) ≤ length p) × (width_at (a ∷ p) 0 ≡ width_at (a ∷ from) 0)
  ends_before a =
      by_rows (a ∷ from) 0 (λ n point. (n ≡ 0 → ⊥) → (pred n ≤ length p) × (width_at (a ∷ p) 0 ≡ n))
      (λ e n. (omega arith, (by_ascii (a ∷ p) 0 e).0))
      (λ e n.
      let r = row2_says a (get_or from 0 0) e in
      let x = before_it 0 (omega arith) r.1 in
      (omega (arith, x.0), (by_row2 (a ∷ p) 0 (rw x.1 at e)).0))
      (λ e n.
      let r = row3_says a (get_or from 0 0) (get_or from 1 0) e in
      let x = before_it 0 (omega arith) r.1 in
      let y = before_it 1 (omega (arith, x.0)) r.2 in
      (omega (arith, y.0), (by_row3 (a ∷ p) 0 (rw (x.1, y.1) at e)).0))
      (λ e n.
      let r = row4_says a (get_or from 0 0) (get_or from 1 0) (get_or from 2 0) e in
      let x = before_it 0 (omega arith) r.1 in
      let y = before_it 1 (omega (arith, x.0)) r.2 in
      let z = before_it 2 (omega (arith, y.0)) r.3 in
      (omega (arith, z.0), (by_row4 (a ∷ p) 0 (rw (x.1, y.1, z.1) at e)).0))
      (λ point n. absurd (n refl))

-- a text parted at an ASCII octet; `skip` more octets belong to the last character
module _ (b : ℕ) (is_ascii : ascii b ≡ true) (q : List ℕ) where
  behind_it : well_formed (b ∷ q) ≡ true → well_formed q ≡ true
  unfolding well_formed_after
  behind_it h = rw (by_ascii (b ∷ q) 0 is_ascii).0 at h

  parted_after : (skip : ℕ) (p : List ℕ) → skip ≤ length p → well_formed_after skip (p ++ (b ∷ q)) ≡ true
      → (well_formed_after skip p ≡ true) × (well_formed q ≡ true)
  unfolding well_formed_after
  parted_after zero [] l h = (refl, behind_it h)
  parted_after (suc skip) [] l h = absurd (omega arith)
  parted_after (suc skip) (a ∷ p) l h = parted_after skip p (omega arith) h
  parted_after zero (a ∷ p) l h =
      let w = width_at (a ∷ (p ++ (b ∷ q))) 0 in
      let here = well_formed_here (eqb w 0) (well_formed_after (pred w) (p ++ (b ∷ q))) h in
      let ends = ends_before b is_ascii p q a (eqb-false w 0 here.0) in
      let rest = parted_after (pred w) p ends.0 here.1 in
      (rw (ends.1, here.0) rest.0, rest.1)

  pub parted_at : (p : List ℕ) → well_formed (p ++ (b ∷ q)) ≡ true → (well_formed p ≡ true) × (well_formed q ≡ true)
  parted_at p h = parted_after 0 p (omega arith) h

-- ASCII octets before a text
behind_all : (more t : List ℕ) → all_ascii more ≡ true → well_formed (more ++ t) ≡ true → well_formed t ≡ true
unfolding all_ascii
behind_all [] t a h = h
behind_all (b ∷ more) t a h =
    behind_all more t (and_right (ascii b) (all_ascii more) a) (behind_it b (and_left (ascii b) (all_ascii more) a) (more ++ t) h)

none_well_formed : well_formed [] ≡ true
unfolding well_formed_after
none_well_formed = refl

-- a text before some ASCII octets, and the text behind them
around : (b : ℕ) (more part t : List ℕ) → all_ascii (b ∷ more) ≡ true → well_formed (part ++ ((b ∷ more) ++ t)) ≡ true
    → (well_formed part ≡ true) × (well_formed t ≡ true)
unfolding all_ascii
around b more part t a h =
    let two = parted_at b (and_left (ascii b) (all_ascii more) a) (more ++ t) part h in
    (two.0, behind_all more t (and_right (ascii b) (all_ascii more) a) two.1)

pub parts_are_well_formed : PartsAreWellFormed
unfolding parts_joined
parts_are_well_formed b more [] a h k = none_well_formed
parts_are_well_formed b more (part ∷ []) a h zero = h
parts_are_well_formed b more (part ∷ []) a h (suc k) = none_well_formed
parts_are_well_formed b more (part ∷ next ∷ parts) a h zero = (around b more part (parts_joined (b ∷ more) (next ∷ parts)) a h).0
parts_are_well_formed b more (part ∷ next ∷ parts) a h (suc k) =
    parts_are_well_formed b more (next ∷ parts) a (around b more part (parts_joined (b ∷ more) (next ∷ parts)) a h).1 k

-- what is parted joins again
joined_onto : (parting : List ℕ) (b : ℕ) (parts : List (List ℕ)) → parts_joined parting (onto b parts) ≡ b ∷ parts_joined parting parts
unfolding parts_joined onto
joined_onto parting b [] = refl
joined_onto parting b (part ∷ []) = refl
joined_onto parting b (part ∷ next ∷ parts) = refl

joined_next : (parting : List ℕ) (parts : List (List ℕ)) → 0 < length parts → parts_joined parting ([] ∷ parts) ≡ parting ++ parts_joined parting parts
unfolding parts_joined
joined_next parting [] h = absurd (omega arith)
joined_next parting (part ∷ parts) h = refl

pub fields_join : FieldsJoin
unfolding fields parts_joined
fields_join separator [] = refl
fields_join separator (b ∷ s) =
    either_way (eqb b separator)
    (λ e.
    rw e
    (joined_next (separator ∷ []) (fields separator s) (omega (arith, count_of_fields separator s))
    ∙ (λ t. sym (eqb-true b separator e) t ∷ fields_join separator s t)))
    (λ e. rw e (joined_onto (separator ∷ []) b (fields separator s) ∙ ap (λ t. b ∷ t) (fields_join separator s)))

onto_some : (b : ℕ) (parts : List (List ℕ)) → 0 < length (onto b parts)
unfolding onto
onto_some b [] = omega arith
onto_some b (part ∷ parts) = omega arith

some_lines : (s : List ℕ) → 0 < length (parted s)
unfolding parted
some_lines [] = omega arith
some_lines (b ∷ []) = omega arith
some_lines (b ∷ c ∷ s) =
    cond_either (λ parts. 0 < length parts) (crlf b c) ([] ∷ parted s) (onto b (parted (c ∷ s))) (λ e. omega arith) (λ e. onto_some b (parted (c ∷ s)))

pub lines_join : LinesJoin
unfolding parted parts_joined
lines_join [] = refl
lines_join (b ∷ []) = refl
lines_join (b ∷ c ∷ s) =
    either_way (crlf b c)
    (λ e.
    let cr = eqb-true b 13 (and_left (eqb b 13) (eqb c 10) e) in
    let lf = eqb-true c 10 (and_right (eqb b 13) (eqb c 10) e) in
    rw e
    (joined_next (0x0D ∷ 0x0A ∷ []) (parted s) (some_lines s)
    ∙ (λ t. sym cr t ∷ sym lf t ∷ lines_join s t)))
    (λ e. rw e (joined_onto (0x0D ∷ 0x0A ∷ []) b (parted (c ∷ s)) ∙ ap (λ t. b ∷ t) (lines_join (c ∷ s))))

pub fields_are_well_formed : FieldsAreWellFormed
unfolding all_ascii
fields_are_well_formed separator s a h k =
    parts_are_well_formed separator [] (fields separator s) (rw a) (rw (fields_join separator s) h) k

-- the end that is dropped is of ASCII
is_low : (b : ℕ) → b < 128 → ascii b ≡ true
unfolding ascii
is_low b h = lt-ltb b 128 h

without_last_end_lem : (s : List ℕ) → well_formed s ≡ true → well_formed (without_last_end s) ≡ true
unfolding without_last_end
without_last_end_lem s h =
    let n = length s - 2 in
    cond_either (λ t. well_formed t ≡ true) (crlf (get_or s n 0) (get_or s (n + 1) 0)) (take n s) s
    (λ e.
    let cr = eqb-true (get_or s n 0) 13 (and_left (eqb (get_or s n 0) 13) (eqb (get_or s (n + 1) 0) 10) e) in
    let within = stands_within s n (omega (arith, cr)) in
    (parted_at (get_or s n 0) (is_low (get_or s n 0) (omega (arith, cr))) (drop (n + 1) s) (take n s) (rw (← from_here s n within, take-append-drop n s) h)).0)
    (λ e. h)

pub lines_are_well_formed : LinesAreWellFormed
unfolding lines all_ascii ascii
lines_are_well_formed s h k =
    parts_are_well_formed 0x0D (0x0A ∷ []) (parted (without_last_end s)) refl (rw (lines_join (without_last_end s)) (without_last_end_lem s h)) k
