-- The fields of a text, found again by the places of its separators.
--     field_by_table     field k by the table of the text's own cuts is field k
--     count_of_fields    there is one field more than there are cuts
-- Assumes nothing.
use mathlib.Core.Path.{◌≡◌, refl, sym, ◌∙◌, ap}
use mathlib.Core.Bool.{Bool, true, false, cond}
use mathlib.Core.List.{List, [], ◌∷◌, ◌++◌}
use Prim.Native.Nat.{ℕ, zero, suc, min, ◌+◌, ◌-◌, ◌<◌, ◌≤◌}
use native.Mathlib.Decide.{dec_le, dec_lt}
use native.Mathlib.Omega.{arith}
use borrow.Author.Tests.{lt-ltb, le-ltb, ne_eqb}
use lib.Dec.{eqb, ltb}
use lib.ListN.{length, get_or, drop, replicate, length-drop, get_or-append, get_or-eq_default}
use lib.Seq.{take_all, drop-drop, get_or-take}
use Rattle.text.specs.Bytes.{part}
use Rattle.text.specs.Fields.{onto, fields, cuts_from, cuts, cut_table, cut_count, field_by}

-- the parts of a text between some places, from a on
abbrev pieces : ℕ → List ℕ → List ℕ → List (List ℕ)
pieces a [] s = drop a s ∷ []
pieces a (c ∷ cs) s = part a c s ∷ pieces (c + 1) cs s

-- the cuts of what stands from a place on are no earlier than the place
Late : ℕ → List ℕ → Type 0
Late a [] = Unit {0}
Late a (c ∷ cs) = a ≤ c

late : (separator a : ℕ) (s : List ℕ) → Late a (cuts_from separator a s)
unfolding Late cuts_from
late separator a [] = tt
late separator a (b ∷ s) = go (eqb b separator) (cuts_from separator (a + 1) s) (late separator (a + 1) s)
  where
    go : (t : Bool) (cs : List ℕ) → Late (a + 1) cs → Late a (cond t (a ∷ cs) cs)
    go true cs h = omega arith
    go false [] h = tt
    go false (c ∷ cs) h = omega arith

-- one byte before the first piece
onto_pieces : (b a : ℕ) (s rest cs : List ℕ) → drop a s ≡ b ∷ rest → drop (a + 1) s ≡ rest → Late (a + 1) cs
    → onto b (pieces (a + 1) cs s) ≡ pieces a cs s
unfolding onto Late
onto_pieces b a s rest [] e f l = rw (e, f)
onto_pieces b a s rest (c ∷ cs) e f l =
    let n : c - a ≡ suc (c - (a + 1)) = omega arith in
    rw (e, f, n)

fields_are_pieces : (separator : ℕ) (s rest : List ℕ) (a : ℕ) → drop a s ≡ rest
    → fields separator rest ≡ pieces a (cuts_from separator a rest) s
unfolding fields cuts_from
fields_are_pieces separator s [] a e = rw e
fields_are_pieces separator s (b ∷ rest) a e =
    let f : drop (a + 1) s ≡ rest = sym (drop-drop 1 a s) ∙ ap (drop 1) e in
    go (eqb b separator) (cuts_from separator (a + 1) rest) (fields_are_pieces separator s rest (a + 1) f) f (late separator (a + 1) rest)
  where
    go : (t : Bool) (cs : List ℕ) → fields separator rest ≡ pieces (a + 1) cs s → drop (a + 1) s ≡ rest → Late (a + 1) cs
        → cond t ([] ∷ fields separator rest) (onto b (fields separator rest)) ≡ pieces a (cond t (a ∷ cs) cs) s
    go true cs h f l = let z : a - a ≡ 0 = omega arith in rw (h, z)
    go false cs h f l = rw h (onto_pieces b a s rest cs e f l)

-- where piece k starts; it ends with the next cut, or with the text
abbrev start_of : ℕ → List ℕ → ℕ → ℕ
start_of a cs zero = a
start_of a cs (suc k) = get_or cs k 0 + 1

piece : (s cs : List ℕ) (a k : ℕ) → k ≤ length cs → get_or (pieces a cs s) k [] ≡ part (start_of a cs k) (get_or cs k (length s)) s
piece s [] a zero h = sym (take_all (length s - a) (drop a s) (omega (arith, length-drop a s)))
piece s [] a (suc k) h = absurd (omega arith)
piece s (c ∷ cs) a zero h = refl
piece s (c ∷ cs) a (suc zero) h = piece s cs (c + 1) zero (omega arith)
piece s (c ∷ cs) a (suc (suc k)) h = piece s cs (c + 1) (suc k) (omega arith)

no_piece : (s cs : List ℕ) (a k : ℕ) → length cs < k → get_or (pieces a cs s) k [] ≡ []
no_piece s cs a zero h = absurd (omega arith)
no_piece s [] a (suc k) h = refl
no_piece s (c ∷ cs) a (suc k) h = no_piece s cs (c + 1) k (omega arith)

pub count_of_fields : (separator : ℕ) (s : List ℕ) → length (fields separator s) ≡ suc (length (cuts separator s))
count_of_fields separator s = rw (fields_are_pieces separator s s 0 refl) (go (cuts separator s) 0)
  where
    go : (cs : List ℕ) (a : ℕ) → length (pieces a cs s) ≡ suc (length cs)
    go [] a = refl
    go (c ∷ cs) a = ap suc (go cs (c + 1))

-- the table read where the cuts have a place
get_d_other : (l : List ℕ) (k d e : ℕ) → k < length l → get_or l k d ≡ get_or l k e
get_d_other [] k d e h = absurd (omega arith)
get_d_other (x ∷ l) zero d e h = refl
get_d_other (x ∷ l) (suc k) d e h = get_d_other l k d e (omega arith)

module _ (size separator : ℕ) (s : List ℕ) where
  tabled : (k : ℕ) → k < size → k < length (cuts separator s) → get_or (cut_table size separator s) k 0 ≡ get_or (cuts separator s) k 0
  unfolding cut_table
  tabled k h l =
      get_or-take size (cuts separator s ++ replicate size 0) k 0 h ∙ get_or-append (cuts separator s) (replicate size 0) 0 k l

  start_by_table : (k : ℕ) → k < size → k ≤ length (cuts separator s)
      → cond (eqb k 0) 0 (get_or (cut_table size separator s) (k - 1) 0 + 1) ≡ start_of 0 (cuts separator s) k
  start_by_table zero h l = refl
  start_by_table (suc k) h l =
      let d : suc k - 1 ≡ k = omega arith in
      rw (ne_eqb (suc k) 0 (omega arith), d, tabled k (omega arith) (omega arith))

  end_by_table : (k : ℕ) → k < size → k ≤ length (cuts separator s)
      → cond (ltb k (cut_count size separator s)) (get_or (cut_table size separator s) k 0) (length s) ≡ get_or (cuts separator s) k (length s)
  unfolding cut_count
  end_by_table k h l = go (dec_lt k (length (cuts separator s)))
    where
      go : Dec (k < length (cuts separator s))
          → cond (ltb k (cut_count size separator s)) (get_or (cut_table size separator s) k 0) (length s) ≡ get_or (cuts separator s) k (length s)
      go (yes m) =
          rw (lt-ltb k (min size (length (cuts separator s))) (omega arith), tabled k h m)
          (get_d_other (cuts separator s) k 0 (length s) m)
      go (no m) =
          rw (le-ltb k (min size (length (cuts separator s))) (omega arith))
          (sym (get_or-eq_default (cuts separator s) (length s) (omega arith)))

  pub field_by_table : (k : ℕ) → k < size
      → field_by (cut_table size separator s) (cut_count size separator s) k s ≡ get_or (fields separator s) k []
  unfolding field_by cut_count
  field_by_table k h = rw (fields_are_pieces separator s s 0 refl) (go (dec_le k (length (cuts separator s))))
    where
      go : Dec (k ≤ length (cuts separator s))
          → field_by (cut_table size separator s) (cut_count size separator s) k s ≡ get_or (pieces 0 (cuts separator s) s) k []
      go (yes m) =
          rw (
            le-ltb (min size (length (cuts separator s))) k (omega arith),
            start_by_table k h m,
            end_by_table k h m,
          )
          (sym (piece s (cuts separator s) 0 k m))
      go (no m) =
          rw (lt-ltb (min size (length (cuts separator s))) k (omega arith))
          (sym (no_piece s (cuts separator s) 0 k (omega arith)))
