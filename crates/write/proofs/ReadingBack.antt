-- A file that was written is read back line by line and field by field.
-- Assumes nothing.
use mathlib.Core.Path.{◌≡◌, refl, sym, ◌∙◌, ap}
use mathlib.Core.Bool.{true, false, not, ◌||◌, false≢true}
use mathlib.Core.List.{List, [], ◌∷◌, ◌++◌, map}
use Prim.Native.Nat.{ℕ, suc, ◌+◌, ◌-◌, ◌<◌}
use native.Mathlib.Omega.{arith}
use borrow.Author.Tests.{not-true, eqb-false, ltb-true, ltb-false}
use lib.Dec.{eqb, ltb}
use lib.ListN.{length, get_or, length-append}
use Rattle.text.specs.Bytes.{has_byte}
use Rattle.text.specs.Fields.{fields, onto}
use Rattle.text.specs.Lines.{parted, without_last_end, lines}
use Rattle.text.specs.Utf8Parts.{parts_joined}
use Rattle.text.proofs.Branches.{and_left, and_right, either_way}
use Rattle.text.proofs.FieldsJoined.{neither, not_first, fields_last, fields_before}
use Rattle.text.proofs.LineEnds.{too_short_to_end, no_lf_at_end}
use Rattle.write.specs.Files.{line, is_field, are_fields, is_line, are_lines, ReadsBack}

-- a byte that stands nowhere in two texts
nor_behind : (b : ℕ) (s t : List ℕ) → has_byte b s ≡ false → has_byte b t ≡ false → has_byte b (s ++ t) ≡ false
nor_behind b [] t h k = k
nor_behind b (x ∷ s) t h k = let none = neither (eqb x b) (has_byte b s) h in rw none.0 (nor_behind b s t none.1 k)

-- lines: the last one, and one before a CR LF
lines_last : (s : List ℕ) → has_byte 0x0D s ≡ false → parted s ≡ s ∷ []
unfolding parted onto
lines_last [] h = refl
lines_last (x ∷ []) h = refl
lines_last (x ∷ y ∷ s) h = let none = not_first 0x0D x (y ∷ s) h in rw (none.0, lines_last (y ∷ s) none.1)

lines_before : (s t : List ℕ) → has_byte 0x0D s ≡ false → parted (s ++ (0x0D ∷ 0x0A ∷ t)) ≡ s ∷ parted t
unfolding parted onto
lines_before [] t h = refl
lines_before (x ∷ []) t h = let none = not_first 0x0D x [] h in rw none.0
lines_before (x ∷ y ∷ s) t h = let none = not_first 0x0D x (y ∷ s) h in rw (none.0, lines_before (y ∷ s) t none.1)

-- what a field is without
field_says : (field : List ℕ) → is_field field ≡ true → (has_byte 0x7C field ≡ false) × (has_byte 0x0D field ≡ false) × (has_byte 0x0A field ≡ false)
unfolding is_field
field_says field h =
    let none = neither (has_byte 0x7C field) (has_byte 0x0D field || has_byte 0x0A field) (not-true _ h) in
    let ends = neither (has_byte 0x0D field) (has_byte 0x0A field) none.1 in
    (none.0, ends.0, ends.1)

-- a line of fields: its fields are read back, and it has no CR or LF
pub line_read : (row : List (List ℕ)) → 0 < length row → are_fields row ≡ true → fields 0x7C (line row) ≡ row
unfolding are_fields parts_joined
line_read [] some h = absurd (omega (arith, some))
line_read (field ∷ []) some h = fields_last 0x7C field (field_says field (and_left (is_field field) true h)).0
line_read (field ∷ next ∷ row) some h =
    let here = field_says field (and_left (is_field field) (are_fields (next ∷ row)) h) in
    fields_before 0x7C field (line (next ∷ row)) here.0
    ∙ ap (λ (behind : List (List ℕ)). field ∷ behind) (line_read (next ∷ row) (omega arith) (and_right (is_field field) (are_fields (next ∷ row)) h))

line_plain : (b : ℕ) → eqb 0x7C b ≡ false → ((field : List ℕ) → is_field field ≡ true → has_byte b field ≡ false)
    → (row : List (List ℕ)) → are_fields row ≡ true → has_byte b (line row) ≡ false
unfolding are_fields parts_joined
line_plain b bar each [] h = refl
line_plain b bar each (field ∷ []) h = each field (and_left (is_field field) true h)
line_plain b bar each (field ∷ next ∷ row) h =
    nor_behind b field (0x7C ∷ line (next ∷ row)) (each field (and_left (is_field field) (are_fields (next ∷ row)) h))
    (rw bar (line_plain b bar each (next ∷ row) (and_right (is_field field) (are_fields (next ∷ row)) h)))

-- the last byte of a text, and one that is no LF
last_of : List ℕ → ℕ
last_of [] = 0
last_of (b ∷ []) = b
last_of (b ∷ c ∷ s) = last_of (c ∷ s)

last_behind : (s t : List ℕ) → 0 < length t → last_of (s ++ t) ≡ last_of t
unfolding last_of
last_behind [] t some = refl
last_behind (b ∷ []) [] some = absurd (omega (arith, some))
last_behind (b ∷ []) (c ∷ t) some = refl
last_behind (b ∷ c ∷ s) t some = last_behind (c ∷ s) t some

last_is : (s : List ℕ) (k : ℕ) → length s ≡ suc k → last_of s ≡ get_or s k 0
unfolding last_of
last_is [] k e = absurd (omega (arith, e))
last_is (b ∷ []) k e = let none : k ≡ 0 = omega arith in rw none
last_is (b ∷ c ∷ s) k e = let next : k ≡ suc (length s) = omega arith in rw next (last_is (c ∷ s) (length s) refl)

record Ends (s : List ℕ) : Type 0 where
  some : 0 < length s
  no_lf : last_of s ≡ 0x0A → ⊥

last_plain : (s : List ℕ) → 0 < length s → has_byte 0x0A s ≡ false → last_of s ≡ 0x0A → ⊥
unfolding last_of
last_plain [] some h e = omega (arith, some)
last_plain (b ∷ []) some h e = eqb-false b 0x0A (neither (eqb b 0x0A) false h).0 e
last_plain (b ∷ c ∷ s) some h e = last_plain (c ∷ s) (omega arith) (neither (eqb b 0x0A) (has_byte 0x0A (c ∷ s)) h).1 e

ends_behind : (s t : List ℕ) → Ends t → Ends (s ++ t)
ends_behind s t ends = record {
  some = let l = length-append s t in let m = ends.some in omega arith;
  no_lf = λ e. ends.no_lf (sym (last_behind s t ends.some) ∙ e);
}

not_dropped : (s : List ℕ) → Ends s → without_last_end s ≡ s
not_dropped s ends =
    either_way (ltb (length s) 2)
    (λ short. sym (too_short_to_end s (ltb-true (length s) 2 short)))
    (λ long.
    let two = ltb-false (length s) 2 long in
    sym (no_lf_at_end s (λ e. ends.no_lf (last_is s (length s - 2 + 1) (omega arith) ∙ e))))

-- lines of fields: their lines are read back, and no CR LF is dropped
module _ (row : List (List ℕ)) (is : is_line row ≡ true) where
  row_some : 0 < length row
  row_some = let none = eqb-false (length row) 0 (not-true _ (and_left (not (eqb (length row) 0)) (are_fields row) is)) in omega arith

  row_fields : are_fields row ≡ true
  row_fields = and_right (not (eqb (length row) 0)) (are_fields row) is

  no_cr : has_byte 0x0D (line row) ≡ false
  no_cr = line_plain 0x0D refl (λ field h. (field_says field h).1) row row_fields

  no_lf_in : has_byte 0x0A (line row) ≡ false
  no_lf_in = line_plain 0x0A refl (λ field h. (field_says field h).2) row row_fields

abbrev texts : List (List (List ℕ)) → List ℕ
texts rows = parts_joined (0x0D ∷ 0x0A ∷ []) (map line rows)

lines_read_lem : (rows : List (List (List ℕ))) → are_lines rows ≡ true → parted (texts rows) ≡ map line rows
unfolding are_lines parts_joined
lines_read_lem [] h = absurd (false≢true h)
lines_read_lem (row ∷ []) h = lines_last (line row) (no_cr row (and_left (is_line row) (not (eqb (length (line row)) 0)) h))
lines_read_lem (row ∷ next ∷ rows) h =
    lines_before (line row) (texts (next ∷ rows)) (no_cr row (and_left (is_line row) (are_lines (next ∷ rows)) h))
    ∙ ap (λ (behind : List (List ℕ)). line row ∷ behind) (lines_read_lem (next ∷ rows) (and_right (is_line row) (are_lines (next ∷ rows)) h))

lines_end : (rows : List (List (List ℕ))) → are_lines rows ≡ true → Ends (texts rows)
unfolding are_lines parts_joined
lines_end [] h = absurd (false≢true h)
lines_end (row ∷ []) h =
    let none = eqb-false (length (line row)) 0 (not-true _ (and_right (is_line row) (not (eqb (length (line row)) 0)) h)) in
    let some : 0 < length (line row) = omega arith in
    record { some = some; no_lf = last_plain (line row) some (no_lf_in row (and_left (is_line row) (not (eqb (length (line row)) 0)) h)) }
lines_end (row ∷ next ∷ rows) h =
    ends_behind (line row) (0x0D ∷ 0x0A ∷ texts (next ∷ rows))
    (ends_behind (0x0D ∷ 0x0A ∷ []) (texts (next ∷ rows)) (lines_end (next ∷ rows) (and_right (is_line row) (are_lines (next ∷ rows)) h)))

fields_read : (rows : List (List (List ℕ))) → are_lines rows ≡ true → map (fields 0x7C) (map line rows) ≡ rows
unfolding are_lines
fields_read [] h = refl
fields_read (row ∷ []) h =
    let is = and_left (is_line row) (not (eqb (length (line row)) 0)) h in
    ap (λ (read : List (List ℕ)). read ∷ []) (line_read row (row_some row is) (row_fields row is))
fields_read (row ∷ next ∷ rows) h =
    let is = and_left (is_line row) (are_lines (next ∷ rows)) h in
    λ i. line_read row (row_some row is) (row_fields row is) i ∷ fields_read (next ∷ rows) (and_right (is_line row) (are_lines (next ∷ rows)) h) i

pub reads_back : ReadsBack
unfolding lines
reads_back rows h =
    let read : parted (without_last_end (texts rows)) ≡ map line rows = rw (not_dropped (texts rows) (lines_end rows h)) (lines_read_lem rows h) in
    (read, rw read (fields_read rows h))
