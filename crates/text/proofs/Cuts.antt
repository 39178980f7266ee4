-- The table of a text's cuts as it is filled, byte by byte, and padded.
-- Assumes nothing.
use mathlib.Core.Path.{◌≡◌, sym, ◌∙◌, ap}
use mathlib.Core.Bool.{Bool, true, false, cond}
use mathlib.Core.List.{List, [], ◌∷◌, ◌++◌, append-nil}
use Prim.Native.Nat.{ℕ, zero, suc, min, ◌+◌, ◌-◌, ◌<◌, ◌≤◌}
use native.Mathlib.Decide.{dec_le}
use native.Mathlib.Nat.{add-zero, le_refl}
use native.Mathlib.Numerals.{add-one}
use native.Mathlib.Omega.{arith}
use lib.Dec.{eqb}
use mir.Val.{bool_byte}
use lib.ListN.{length, get_or, take, drop, set, replicate, get_or-append, length-set, length-take, drop_of_length-le}
use lib.Seq.{take_all, take_at, take-append-le, take-append-add, take-suc-set, take-set-le, length-take-le, append_snoc}
use Rattle.std.proofs.lemmas.List.{get_or-take, take-replicate}
use Rattle.text.specs.Fields.{cuts_from, cut_table, cut_count}
use Rattle.text.proofs.Places.{from_here}

-- one byte more is looked at: its place is stored behind the n cuts, and counted where it is a cut
pub note_byte : (separator : ℕ) (s table : List ℕ) (i n : ℕ) → i < length s → n < length table
    → take (n + bool_byte (eqb (get_or s i 0) separator)) (set table n i) ++ cuts_from separator (i + 1) (drop (i + 1) s)
    ≡ take n table ++ cuts_from separator i (drop i s)
unfolding cuts_from
note_byte separator s table i n h k = rw (from_here s i h) (go (eqb (get_or s i 0) separator) (cuts_from separator (i + 1) (drop (i + 1) s)))
  where
    go : (hit : Bool) (rest : List ℕ)
        → take (n + bool_byte hit) (set table n i) ++ rest ≡ take n table ++ cond hit (i ∷ rest) rest
    go true rest = rw (add-one, take-suc-set table n i k, append_snoc (take n table) i rest)
    go false rest = rw (add-zero, take-set-le n table n i (le_refl n))

one_at_most : (t : Bool) → bool_byte t ≤ 1
one_at_most true = omega arith
one_at_most false = omega arith

-- the n places noted of the first i bytes, and the cuts of the bytes that are left, are all the cuts, as far as the table has room
pub record Noted (separator : ℕ) (s table : List ℕ) (i n : ℕ) : Type 0 where
  pub fits : n ≤ length table
  pub whole : take (length table) (take n table ++ cuts_from separator i (drop i s)) ≡ take (length table) (cuts_from separator 0 s)

module _ (separator : ℕ) (s table : List ℕ) (i n : ℕ) (noted : Noted separator s table i n) where
  pub noted_more : i < length s → n < length table → Noted separator s (set table n i) (i + 1) (n + bool_byte (eqb (get_or s i 0) separator))
  noted_more h k = record {
    fits = simp length-set (omega (arith, one_at_most (eqb (get_or s i 0) separator)));
    whole = rw (length-set, note_byte separator s table i n h k) noted.whole;
  }

  full : (rest : List ℕ) → length table ≤ n → take (length table) (take n table ++ rest) ≡ take n table
  full rest k =
      let e : n ≡ length table = omega (arith, noted.fits) in
      rw (← e) (take_at (take n table) rest n (length-take-le n table noted.fits))

  -- a full table keeps what it holds, whatever comes
  pub noted_full : length table ≤ n → Noted separator s table (i + 1) n
  noted_full k = record {
    fits = noted.fits;
    whole = full (cuts_from separator (i + 1) (drop (i + 1) s)) k ∙ sym (full (cuts_from separator i (drop i s)) k) ∙ noted.whole;
  }

  -- where nothing is left to note, the number is told by what is noted
  told : take n table ≡ take (length table) (cuts_from separator 0 s)
      → (n ≡ cut_count (length table) separator s) × (take n table ≡ take (length table) (cuts_from separator 0 s))
  unfolding cut_count
  told same = (sym (length-take-le n table noted.fits) ∙ ap length same ∙ length-take (length table) (cuts_from separator 0 s), same)

  -- the table is full
  pub noted_to_the_brim : length table ≤ n → (n ≡ cut_count (length table) separator s) × (take n table ≡ take (length table) (cuts_from separator 0 s))
  noted_to_the_brim k = told (sym (full (cuts_from separator i (drop i s)) k) ∙ noted.whole)

  -- the text is at its end
  pub noted_all : length s ≤ i → (n ≡ cut_count (length table) separator s) × (take n table ≡ take (length table) (cuts_from separator 0 s))
  unfolding cuts_from
  noted_all h =
      let held : length (take n table) ≤ length table = omega (arith, length-take-le n table noted.fits, noted.fits) in
      told (sym (take_all (length table) (take n table) held) ∙ rw (drop_of_length-le s h, append-nil (take n table)) at noted.whole)

-- a list cut or filled up with zeros to n
pub padded : (n : ℕ) (l : List ℕ) → take n l ++ replicate (n - min n (length l)) 0 ≡ take n (l ++ replicate n 0)
padded n l = go (dec_le n (length l))
  where
    go : Dec (n ≤ length l) → take n l ++ replicate (n - min n (length l)) 0 ≡ take n (l ++ replicate n 0)
    go (yes h) =
        let z : n - min n (length l) ≡ 0 = omega arith in
        rw (z, append-nil, take-append-le n l (replicate n 0) h)
    go (no h) =
        let m : min n (length l) ≡ length l = omega arith in
        let s : n ≡ length l + (n - length l) = omega arith in
        rw (m, take_all n l (omega arith), ← take-replicate {X = ℕ} (n - length l) n 0 (omega arith))
        (sym (ap (λ (k : ℕ). take k (l ++ replicate n 0)) s ∙ take-append-add l (replicate n 0) (n - length l)))

-- a cut is a place of the text
cuts_within : (separator a k : ℕ) (s : List ℕ) → k < length (cuts_from separator a s) → get_or (cuts_from separator a s) k 0 < a + length s
unfolding cuts_from
cuts_within separator a k [] h = absurd (omega arith)
cuts_within separator a k (b ∷ s) h = go (eqb b separator) k h (λ j. cuts_within separator (a + 1) j s)
  where
    go : (t : Bool) (k : ℕ) → let cs = cuts_from separator (a + 1) s in k < length (cond t (a ∷ cs) cs)
        → ((j : ℕ) → j < length cs → get_or cs j 0 < a + 1 + length s) → get_or (cond t (a ∷ cs) cs) k 0 < a + suc (length s)
    go true zero h r = omega arith
    go true (suc k) h r = omega (arith, r k (omega arith))
    go false k h r = omega (arith, r k h)

-- so is one that a table holds
pub cut_within : (room separator k : ℕ) (s : List ℕ) → k < cut_count room separator s → (k < room) × (get_or (cut_table room separator s) k 0 < length s)
unfolding cut_table cut_count
cut_within room separator k s h =
    let here = cuts_within separator 0 k s (omega arith) in
    let cs = cuts_from separator 0 s in
    (omega arith, rw (get_or-take room (cs ++ replicate room 0) k 0 (omega arith), get_or-append cs (replicate room 0) 0 k (omega arith)) (omega (arith, here)))
