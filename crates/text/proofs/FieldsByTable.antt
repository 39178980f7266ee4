-- A text's fields and their number, by the table of its cuts, as `text::fields::Fields` has them.
-- Assumes nothing.
use mathlib.Core.Path.{◌≡◌, sym, ◌∙◌}
use mathlib.Core.List.{List, []}
use Prim.Native.Nat.{ℕ, ◌+◌, ◌-◌, ◌<◌, ◌≤◌}
use native.Mathlib.Omega.{arith}
use borrow.Author.Tests.{eq-eqb, ne_eqb, eqb-true, eqb-false, le-leb, leb-true}
use lib.Dec.{eqb, leb}
use lib.ListN.{length, get_or}
use Rattle.text.specs.Bytes.{between}
use Rattle.text.specs.Fields.{fields, cut_table, cut_count, field_by}
use Rattle.text.proofs.Branches.{either_way, both_ways, both_yes, and_left, and_right}
use Rattle.text.proofs.FieldsByCuts.{field_by_table, count_of_fields}

module _ (room separator : ℕ) (s : List ℕ) where
  pub field_by_cut : (n : ℕ) → 1 ≤ n → n ≤ room
      → field_by (cut_table room separator s) (cut_count room separator s) (n - 1) s ≡ get_or (fields separator s) (n - 1) []
  field_by_cut n h l = field_by_table room separator s (n - 1) (omega arith)

  pub fields_by_cut : (n : ℕ) → n ≤ room → eqb (cut_count room separator s + 1) n ≡ eqb (length (fields separator s)) n
  unfolding cut_count
  fields_by_cut n l =
      let f = count_of_fields separator s in
      either_way (eqb ((cut_count room separator s) + 1) n)
      (λ e. let same = eqb-true ((cut_count room separator s) + 1) n e in e ∙ sym (eq-eqb (length (fields separator s)) n (omega arith)))
      (λ e. let other = eqb-false ((cut_count room separator s) + 1) n e in e ∙ sym (ne_eqb (length (fields separator s)) n (λ q. other (omega arith))))

  -- a number of separators from low to high, where high is less than the table has room for
  pub range_by_cut : (low high : ℕ) → high < room → between low high (cut_count room separator s) ≡ between (low + 1) (high + 1) (length (fields separator s))
  unfolding cut_count
  range_by_cut low high h =
      let more = count_of_fields separator s in
      let n = length (fields separator s) in
      both_ways (between low high (cut_count room separator s)) (between (low + 1) (high + 1) n)
      (λ e.
      let least = leb-true low (cut_count room separator s) (and_left (leb low (cut_count room separator s)) (leb (cut_count room separator s) high) e) in
      let most = leb-true (cut_count room separator s) high (and_right (leb low (cut_count room separator s)) (leb (cut_count room separator s) high) e) in
      both_yes (leb (low + 1) n) (leb n (high + 1)) (le-leb (low + 1) n (omega arith)) (le-leb n (high + 1) (omega arith)))
      (λ e.
      let least = leb-true (low + 1) n (and_left (leb (low + 1) n) (leb n (high + 1)) e) in
      let most = leb-true n (high + 1) (and_right (leb (low + 1) n) (leb n (high + 1)) e) in
      both_yes (leb low (cut_count room separator s)) (leb (cut_count room separator s) high) (le-leb low (cut_count room separator s) (omega arith)) (le-leb (cut_count room separator s) high (omega arith)))
