-- The fault of a record whose extra field was judged early is its lowest-numbered one, and every record can be cut around that field.
-- Assumes nothing.
use mathlib.Core.Path.{◌≡◌, refl, sym, ◌∙◌, ap}
use mathlib.Core.Bool.{true, false, not, ◌&&◌}
use mathlib.Core.List.{List, [], ◌∷◌, ◌++◌, append_assoc}
use Prim.Native.Nat.{ℕ, suc, ◌+◌, ◌-◌, ◌<◌}
use native.Mathlib.Omega.{arith}
use borrow.Author.Tests.{leb-true, leb-false, le-leb, eqb-true, eqb-false, not-true}
use lib.Dec.{eqb, leb}
use lib.ListN.{length, get_or, take, drop, length-drop, length-append, get_or-append}
use lib.Seq.{length-take-le, split_at, get_or_at, get_or-append-add}
use Rattle.text.specs.Bytes.{has_byte}
use Rattle.text.specs.Fields.{fields}
use Rattle.text.specs.Lines.{stray}
use Rattle.text.specs.Utf8.{ascii, well_formed, width, well_formed_after}
use Rattle.text.specs.Utf8Parts.{parts_joined}
use Rattle.text.proofs.Branches.{and_left, and_right, both_yes, either_way}
use Rattle.text.proofs.FieldsJoined.{neither, in_neither, fields_parted, fields_before, fields_without, without_taken, fields_of_joined, joined_append, ended_text}
use Rattle.text.proofs.Utf8Joined.{joined_well_formed}
use Rattle.text.proofs.Utf8Parts.{parted_at, fields_join}
use Rattle.epe.specs.File.{field}
use Rattle.epe.proofs.QuestionLaws.{asked_yes, asked_none}
use Rattle.contents.specs.Faults.{empty, unspaced, said_of, fault_questions, first_fault, fault_of}
use Rattle.contents.specs.Around.{field_around, are_ended, are_begun, clean, around, fault_around, CutAround, RecordLine, JudgedEarly}
use Rattle.contents.specs.Around.{Found, Refused, EveryLineIsCut}
use Rattle.contents.specs.declared.extra.ExtraSaid.{ExtraSaid}

-- the questions ask nothing of a twelfth field
questions_alike : (its others : ℕ → List ℕ) (said : ExtraSaid) → ((n : ℕ) → (leb 1 n && not (eqb n 12)) ≡ true → its n ≡ others n)
    → fault_questions its said ≡ fault_questions others said
unfolding fault_questions unspaced
questions_alike its others said same =
    rw (
      same 4 refl,
      same 5 refl,
      same 6 refl,
      same 7 refl,
      same 8 refl,
      same 9 refl,
      same 10 refl,
      same 11 refl,
      same 13 refl,
      same 14 refl,
      same 15 refl,
      same 16 refl,
      same 17 refl,
      same 18 refl,
      same 19 refl,
    )

-- a bar is well formed by itself
bar_well_formed : well_formed (0x7C ∷ []) ≡ true
unfolding well_formed_after width ascii
bar_well_formed = refl

bar_ascii : ascii 0x7C ≡ true
unfolding ascii
bar_ascii = refl

-- a line cut at two bars around a field without one
module _ (front more rest : List ℕ) (eleven : length (fields 0x7C front) ≡ 11) (one_field : has_byte 0x7C more ≡ false) where
  abbrev line : List ℕ
  line = (front ++ (0x7C ∷ [])) ++ (more ++ (0x7C ∷ rest))

  its_fields : fields 0x7C line ≡ fields 0x7C front ++ (more ∷ fields 0x7C rest)
  its_fields = rw append_assoc (fields_parted 0x7C front (more ++ (0x7C ∷ rest)) ∙ rw (fields_before 0x7C more rest one_field))

  fields_in_front : fields 0x7C (front ++ (0x7C ∷ [])) ≡ fields 0x7C front ++ ([] ∷ [])
  unfolding fields
  fields_in_front = fields_parted 0x7C front []

  fields_in_back : fields 0x7C (0x7C ∷ rest) ≡ [] ∷ fields 0x7C rest
  unfolding fields
  fields_in_back = refl

  same_field : (n : ℕ) → (leb 1 n && not (eqb n 12)) ≡ true → field_around (front ++ (0x7C ∷ [])) (0x7C ∷ rest) n ≡ field n line
  same_field n h =
      let first = leb-true 1 n (and_left (leb 1 n) (not (eqb n 12)) h) in
      let other = eqb-false n 12 (not-true (eqb n 12) (and_right (leb 1 n) (not (eqb n 12)) h)) in
      either_way (leb n 11)
      (λ e.
      let within = leb-true n 11 e in
      rw (
        e,
        its_fields,
        fields_in_front,
        get_or-append (fields 0x7C front) ([] ∷ []) [] (n - 1) (omega arith),
        get_or-append (fields 0x7C front) (more ∷ fields 0x7C rest) [] (n - 1) (omega arith),
      ))
      (λ e.
      let beyond = leb-false n 11 e in
      let later : n - 11 - 1 ≡ suc (n - 13) = omega arith in
      let place : n - 1 ≡ length (fields 0x7C front) + suc (n - 13) = omega arith in
      rw (e, fields_in_back, its_fields, later, place, get_or-append-add (fields 0x7C front) (more ∷ fields 0x7C rest) (suc (n - 13)) []))

  its_twelfth : field 12 line ≡ more
  its_twelfth = rw its_fields (get_or_at (fields 0x7C front) more (fields 0x7C rest) [] 11 eleven)

  module _ (is_record : RecordLine line) where
    begun : are_begun 7 20 (0x7C ∷ rest) ≡ true
    unfolding are_begun
    begun =
        let n = length (fields 0x7C line) in
        let k = length (fields 0x7C rest) in
        let counted : n ≡ length (fields 0x7C front) + suc k = ap length its_fields ∙ length-append (fields 0x7C front) (more ∷ fields 0x7C rest) in
        let least = leb-true 19 n (and_left (leb 19 n) (leb n 32) is_record.fields_held) in
        let most = leb-true n 32 (and_right (leb 19 n) (leb n 32) is_record.fields_held) in
        rw (fields_in_back, le-leb 8 (suc k) (omega arith), le-leb (suc k) 21 (omega arith))

    all_clean : (clean (front ++ (0x7C ∷ [])) ≡ true) × (clean (0x7C ∷ rest) ≡ true)
    unfolding clean stray
    all_clean =
        let whole = is_record.is_clean in
        let formed = and_left (well_formed line) (not (stray line)) whole in
        let plain = neither (has_byte 0x0D line) (has_byte 0x0A line) (not-true (stray line) (and_right (well_formed line) (not (stray line)) whole)) in
        let two = parted_at 0x7C bar_ascii (more ++ (0x7C ∷ rest)) front (rw append_assoc at formed) in
        let behind = parted_at 0x7C bar_ascii rest more two.1 in
        let cr = in_neither 0x0D (front ++ (0x7C ∷ [])) (more ++ (0x7C ∷ rest)) plain.0 in
        let lf = in_neither 0x0A (front ++ (0x7C ∷ [])) (more ++ (0x7C ∷ rest)) plain.1 in (
          rw (joined_well_formed front (0x7C ∷ []) two.0 bar_well_formed, cr.0, lf.0),
          rw (
            joined_well_formed (0x7C ∷ []) rest bar_well_formed behind.1,
            (in_neither 0x0D more (0x7C ∷ rest) cr.1).1,
            (in_neither 0x0A more (0x7C ∷ rest) lf.1).1,
          ),
        )

    judged : are_ended 11 (front ++ (0x7C ∷ [])) ≡ true → fault_around (said_of more) (front ++ (0x7C ∷ [])) (0x7C ∷ rest) ≡ Found (fault_of line)
    unfolding fault_around around fault_of
    judged ended =
        asked_yes 901 [] Refused _
        (both_yes _ _ ended (both_yes _ _ begun (both_yes _ _ all_clean.0 all_clean.1)))
        ∙ asked_none Refused _
        ∙ ap (λ qs. Found (first_fault qs))
        (questions_alike (field_around (front ++ (0x7C ∷ [])) (0x7C ∷ rest)) (λ n. field n line) (said_of more) same_field
        ∙ rw its_twelfth)

-- the same by what a cut says
from_cut : (line before more after front rest : List ℕ) → RecordLine line → CutAround line before more after → before ≡ front ++ (0x7C ∷ [])
    → after ≡ 0x7C ∷ rest → length (fields 0x7C front) ≡ 11 → fault_around (said_of more) before after ≡ Found (fault_of line)
from_cut line before more after front rest is_record cut is begins eleven =
    let whole = rw (is, begins) at cut.whole in
    rw (whole, is, begins) (judged front more rest eleven cut.one_field (rw whole at is_record) (rw is at cut.ended))

nothing : (s : List ℕ) → length s ≡ 0 → s ≡ []
nothing [] h = refl
nothing (b ∷ s) h = absurd (omega arith)

first_byte : (b : ℕ) (s : List ℕ) → 0 < b → get_or s 0 0 ≡ b → s ≡ b ∷ drop 1 s
first_byte b [] some h = absurd (omega arith)
first_byte b (x ∷ s) some h = rw h

pub judged_early : JudgedEarly
unfolding are_ended
judged_early line before more after is_record cut =
    let twelve = eqb-true (length (fields 0x7C before)) 12 (and_left (eqb (length (fields 0x7C before)) 12) (empty (field 12 before)) cut.ended) in
    let last = eqb-true (length (field 12 before)) 0 (and_right (eqb (length (fields 0x7C before)) 12) (empty (field 12 before)) cut.ended) in
    let text = ended_text 0x7C before 11 (omega arith) twelve (nothing (field 12 before) last) in
    from_cut line before more after text.front (drop 1 after) is_record cut text.is (first_byte 0x7C after (omega arith) cut.begun) text.held

-- a line of so many fields, cut around its twelfth
pub every_line_is_cut : EveryLineIsCut
unfolding are_ended parts_joined fields
every_line_is_cut line held =
    let fs = fields 0x7C line in
    let many = leb-true 19 (length fs) (and_left (leb 19 (length fs)) (leb (length fs) 32) held) in
    let eleven = length-take-le 11 fs (omega arith) in
    let more = length-drop 12 fs in
    let front = parts_joined (0x7C ∷ []) (take 11 fs) in
    let back = parts_joined (0x7C ∷ []) (drop 12 fs) in
    let in_front : fields 0x7C (front ++ (0x7C ∷ [])) ≡ take 11 fs ++ ([] ∷ []) =
    fields_parted 0x7C front []
    ∙ rw (fields_of_joined 0x7C (take 11 fs) (omega (arith, eleven)) (without_taken 0x7C 11 fs (fields_without 0x7C line))) in
    let whole : line ≡ front ++ (0x7C ∷ (get_or fs 11 [] ++ (0x7C ∷ back))) =
    sym (fields_join 0x7C line)
    ∙ ap (parts_joined (0x7C ∷ [])) (split_at fs 11 [] (omega arith))
    ∙ joined_append (0x7C ∷ []) (take 11 fs) (get_or fs 11 [] ∷ drop 12 fs) (omega (arith, eleven)) (omega arith)
    ∙ ap (λ (rest : List ℕ). front ++ (0x7C ∷ rest)) (joined_append (0x7C ∷ []) (get_or fs 11 [] ∷ []) (drop 12 fs) (omega arith) (omega (arith, more))) in
    record {
      whole = rw append_assoc whole;
      ended = rw (in_front, get_or_at (take 11 fs) [] [] [] 11 eleven, length-append (take 11 fs) ([] ∷ []), eleven);
      one_field = fields_without 0x7C line 11;
      begun = refl;
    }
