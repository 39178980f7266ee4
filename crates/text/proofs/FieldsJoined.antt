-- Fields of a text that was joined, or parted at a separator.
--     fields_parted     the fields on both sides of a separator
--     fields_last       a text without the separator is one field, and no field has it (fields_without)
--     fields_of_joined  texts without it, joined by it, are the fields again
--     joined_append     texts joined are those before a place, the parting, and those behind it
--     ended_text        a text whose last field is empty ends with the separator
-- Assumes nothing.
use mathlib.Core.Path.{◌≡◌, refl, sym, ◌∙◌, ap}
use mathlib.Core.Bool.{Bool, true, false, ◌||◌, false≢true}
use mathlib.Core.List.{List, [], ◌∷◌, ◌++◌, append_assoc}
use Prim.Native.Nat.{ℕ, zero, suc, ◌+◌, ◌<◌}
use native.Mathlib.Omega.{arith}
use borrow.Author.Tests.{eq-eqb}
use lib.Dec.{eqb}
use lib.ListN.{length, get_or, take, drop, length-append}
use lib.Seq.{length-take-le, take_all, split_at}
use Rattle.text.specs.Bytes.{has_byte}
use Rattle.text.specs.Fields.{fields, onto}
use Rattle.text.specs.Utf8Parts.{parts_joined}
use Rattle.text.proofs.Branches.{either_way}
use Rattle.text.proofs.FieldsByCuts.{count_of_fields}
use Rattle.text.proofs.Utf8Parts.{fields_join}

pub neither : (t u : Bool) → (t || u) ≡ false → (t ≡ false) × (u ≡ false)
neither true u h = absurd (false≢true (sym h))
neither false u h = (refl, h)

-- a byte that stands nowhere in a text
pub not_first : (b x : ℕ) (s : List ℕ) → has_byte b (x ∷ s) ≡ false → (eqb x b ≡ false) × (has_byte b s ≡ false)
not_first b x s h = neither (eqb x b) (has_byte b s) h

pub in_neither : (b : ℕ) (s t : List ℕ) → has_byte b (s ++ t) ≡ false → (has_byte b s ≡ false) × (has_byte b t ≡ false)
in_neither b [] t h = (refl, h)
in_neither b (x ∷ s) t h =
    let none = neither (eqb x b) (has_byte b (s ++ t)) h in
    let rest = in_neither b s t none.1 in
    (rw none.0 rest.0, rest.1)

-- a byte before the first of some texts
onto_append : (b : ℕ) (fs gs : List (List ℕ)) → 0 < length fs → onto b (fs ++ gs) ≡ onto b fs ++ gs
unfolding onto
onto_append b [] gs some = absurd (omega (arith, some))
onto_append b (f ∷ fs) gs some = refl

module _ (separator : ℕ) where
  pub some_fields : (s : List ℕ) → 0 < length (fields separator s)
  some_fields s = omega (arith, count_of_fields separator s)

  pub fields_parted : (s t : List ℕ) → fields separator (s ++ (separator ∷ t)) ≡ fields separator s ++ fields separator t
  unfolding fields
  fields_parted [] t = rw (eq-eqb separator separator refl)
  fields_parted (b ∷ s) t =
      either_way (eqb b separator)
      (λ e. rw e (ap (λ (rest : List (List ℕ)). [] ∷ rest) (fields_parted s t)))
      (λ e. rw (e, fields_parted s t) (onto_append b (fields separator s) (fields separator t) (some_fields s)))

  pub fields_last : (s : List ℕ) → has_byte separator s ≡ false → fields separator s ≡ s ∷ []
  unfolding fields onto
  fields_last [] h = refl
  fields_last (x ∷ s) h = let none = not_first separator x s h in rw (none.0, fields_last s none.1)

  pub fields_before : (s t : List ℕ) → has_byte separator s ≡ false → fields separator (s ++ (separator ∷ t)) ≡ s ∷ fields separator t
  fields_before s t h = fields_parted s t ∙ rw (fields_last s h)

  -- of each of some texts
  abbrev pub Without : List (List ℕ) → Type 0
  Without fs = (k : ℕ) → has_byte separator (get_or fs k []) ≡ false

  without_next : (fs : List (List ℕ)) → Without fs → Without ([] ∷ fs)
  without_next fs none zero = refl
  without_next fs none (suc k) = none k

  without_onto : (b : ℕ) → eqb b separator ≡ false → (fs : List (List ℕ)) → Without fs → Without (onto b fs)
  unfolding onto
  without_onto b e [] none zero = rw e
  without_onto b e [] none (suc k) = refl
  without_onto b e (f ∷ fs) none zero = rw e (none 0)
  without_onto b e (f ∷ fs) none (suc k) = none (suc k)

  pub fields_without : (s : List ℕ) → Without (fields separator s)
  unfolding fields
  fields_without [] k = without_next [] (λ k. refl) k
  fields_without (b ∷ s) k =
      either_way (eqb b separator)
      (λ e. rw e (without_next (fields separator s) (fields_without s) k))
      (λ e. rw e (without_onto b e (fields separator s) (fields_without s) k))

  pub without_taken : (n : ℕ) (fs : List (List ℕ)) → Without fs → Without (take n fs)
  without_taken zero fs none k = refl
  without_taken (suc n) [] none k = refl
  without_taken (suc n) (f ∷ fs) none zero = none 0
  without_taken (suc n) (f ∷ fs) none (suc k) = without_taken n fs (λ k. none (suc k)) k

  pub fields_of_joined : (fs : List (List ℕ)) → 0 < length fs → Without fs → fields separator (parts_joined (separator ∷ []) fs) ≡ fs
  unfolding parts_joined
  fields_of_joined [] some none = absurd (omega (arith, some))
  fields_of_joined (f ∷ []) some none = fields_last f (none 0)
  fields_of_joined (f ∷ g ∷ fs) some none =
      fields_before f (parts_joined (separator ∷ []) (g ∷ fs)) (none 0)
      ∙ ap (λ (rest : List (List ℕ)). f ∷ rest) (fields_of_joined (g ∷ fs) (omega arith) (λ k. none (suc k)))

pub joined_append : (parting : List ℕ) (fs gs : List (List ℕ)) → 0 < length fs → 0 < length gs
    → parts_joined parting (fs ++ gs) ≡ parts_joined parting fs ++ (parting ++ parts_joined parting gs)
unfolding parts_joined
joined_append parting [] gs some more = absurd (omega (arith, some))
joined_append parting (f ∷ []) [] some more = absurd (omega (arith, more))
joined_append parting (f ∷ []) (g ∷ gs) some more = refl
joined_append parting (f ∷ g ∷ fs) gs some more = rw (joined_append parting (g ∷ fs) gs (omega arith) more, append_assoc, append_assoc)

-- a text whose last field, behind some, is empty
pub record Ended (separator : ℕ) (s : List ℕ) (n : ℕ) : Type 0 where
  pub front : List ℕ
  pub is : s ≡ front ++ (separator ∷ [])
  pub held : length (fields separator front) ≡ n

pub ended_text : (separator : ℕ) (s : List ℕ) (n : ℕ) → 0 < n → length (fields separator s) ≡ n + 1 → get_or (fields separator s) n [] ≡ []
    → Ended separator s n
unfolding parts_joined fields
ended_text separator s n some held last =
    let fs = fields separator s in
    let kept = length-take-le n fs (omega arith) in
    let front = parts_joined (separator ∷ []) (take n fs) in
    let behind : drop (suc n) fs ≡ [] = ap (drop (suc n)) (sym (take_all (suc n) fs (omega arith))) ∙ dropped (suc n) fs in
    let split : fs ≡ take n fs ++ ([] ∷ []) = split_at fs n [] (omega arith) ∙ rw (last, behind) in
    let is : s ≡ front ++ (separator ∷ []) =
    sym (fields_join separator s) ∙ ap (parts_joined (separator ∷ [])) split ∙ joined_append (separator ∷ []) (take n fs) ([] ∷ []) (omega (arith, kept)) (omega arith) in
    let counted = length-append (fields separator front) ([] ∷ []) in
    let both : length fs ≡ length (fields separator front ++ ([] ∷ [])) = ap length (ap (fields separator) is ∙ fields_parted separator front []) in
    record { front = front; is = is; held = omega arith }
  where
    dropped : (k : ℕ) (l : List (List ℕ)) → drop k (take k l) ≡ []
    dropped zero l = refl
    dropped (suc k) [] = refl
    dropped (suc k) (x ∷ l) = dropped k l
