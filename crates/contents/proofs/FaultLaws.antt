-- Laws of an order's faults: a field's size, spaces from a field on, and the greatest number of a fault.
-- Assumes nothing.
use mathlib.Core.Path.{◌≡◌, refl, sym, ◌∙◌}
use mathlib.Core.Bool.{Bool, true, false, cond, not, ◌&&◌}
use mathlib.Core.List.{List}
use Prim.Native.Nat.{ℕ, zero, suc, ◌+◌, ◌-◌, ◌≤◌}
use native.Mathlib.Omega.{arith}
use borrow.Author.Tests.{leb-true, le-leb, lt-leb}
use lib.Dec.{leb, lit≤}
use lib.ListN.{length, take}
use Rattle.std.proofs.lemmas.List.Sums.{sum_by-take-le, count_by-le-length}
use Rattle.text.specs.Bytes.{between}
use Rattle.text.specs.Fields.{fields, cut_count}
use Rattle.text.proofs.FieldsByTable.{range_by_cut}
use Rattle.text.specs.Utf8.{tail_octet, code_points}
use Rattle.text.proofs.Branches.{and_left, and_right}
use Rattle.epe.specs.File.{field}
use Rattle.epe.specs.Questions.{asked}
use Rattle.contents.specs.Faults.{sized, said_of, unspaced, fault_questions, first_fault, fault_of}
use Rattle.contents.specs.Inner.Parts.{field_of_two}
use Rattle.contents.specs.declared.extra.ExtraSaid.{ExtraSaid}

-- what holds of the first byte's count and of the number of bytes holds of the count between them
pub sized_by_bytes : (low high : ℕ) (s : List ℕ) → (leb low (code_points (take 1 s)) && leb (length s) high) ≡ true → sized low high s ≡ true
unfolding sized
sized_by_bytes low high s h =
    let lowest = leb-true low (code_points (take 1 s)) (and_left (leb low (code_points (take 1 s))) (leb (length s) high) h) in
    let highest = leb-true (length s) high (and_right (leb low (code_points (take 1 s))) (leb (length s) high) h) in
    rw (
      le-leb low (code_points s) (omega (arith, sum_by-take-le (λ b. cond (not (tail_octet b)) 1 0) s 1)),
      le-leb (code_points s) high (omega (arith, count_by-le-length (λ b. not (tail_octet b)) s)),
    )

-- the same fields in a text that begins some fields later
unspaced_later : (n from shift : ℕ) (its others : ℕ → List ℕ) → shift ≤ from → ((k : ℕ) → from ≤ k → its k ≡ others (k - shift))
    → unspaced n from its ≡ unspaced n (from - shift) others
unfolding unspaced
unspaced_later zero from shift its others h same = refl
unspaced_later (suc n) from shift its others h same =
    let next : from + 1 - shift ≡ from - shift + 1 = omega arith in
    let rest = rw next at (unspaced_later n (from + 1) shift its others (omega arith) (λ k l. same k (omega arith))) in
    rw (same from (omega arith), rest)

-- the fields of an order in two texts, and in one that is both
pub back_unspaced : (front back : List ℕ) (shift : ℕ) → shift ≤ 11
    → unspaced 7 (13 - shift) (λ k. field k back) ≡ unspaced 7 13 (field_of_two front back shift)
back_unspaced front back shift h =
    sym (unspaced_later 7 13 shift (field_of_two front back shift) (λ k. field k back) (omega arith) (λ k l. rw (lt-leb k 11 (omega arith))))

-- how many bars a text has, and how many fields
pub bars_of : (line : List ℕ) (bars : ℕ) (r t : Bool) → bars ≡ cut_count 32 0x7C line → r ≡ between 7 20 bars → r ≡ t → between 8 21 (length (fields 0x7C line)) ≡ t
bars_of line bars r t is said told = rw (← range_by_cut 32 0x7C line 7 20 (omega arith), ← is) (sym said ∙ told)

-- a line that is both the front and the back is asked as one, whatever is said of the extra field
pub whole_line : (line : List ℕ) (said : ExtraSaid) → fault_questions (field_of_two line line 0) said ≡ fault_questions (λ n. field n line) said
unfolding fault_questions unspaced
whole_line line said = refl

-- a line's own extra field
pub whole_fault : (line : List ℕ) (said : ExtraSaid) → said ≡ said_of (field 12 line)
    → first_fault (fault_questions (field_of_two line line 0) said) ≡ fault_of line
unfolding fault_of fault_questions unspaced
whole_fault line said e = rw e

-- A fault's number is at most that of the last question.
pub fault_known : (line : List ℕ) → fault_of line ≤ 10
unfolding fault_of asked fault_questions
fault_known line = search (known, lit≤) depth 30
  where
    known : (t : Bool) (later n : ℕ) → later ≤ 10 → n ≤ 10 → cond t later n ≤ 10
    known true later n h l = h
    known false later n h l = l
