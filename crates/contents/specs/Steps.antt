-- The contents of an order file judged in two steps, as an intake takes them: what the header states, then the records, whose orders are kept.
use Rattle.std.specs.Prelude.{◌≡◌, cond, List, ℕ, leb, replicate}
use Rattle.fee.specs.declared.Terms.{Terms}
use Rattle.epe.specs.Questions.{Verdict, Passed, Refused, first_no}
use Rattle.epe.specs.File.{header, records}
use Rattle.epe.specs.declared.profile.Profile.{Profile}
use Rattle.contents.specs.Contents.{stated_count, stated_sum, stated_terms, header_questions, record_questions, contents, orders, orders_read, Judged, Accepted, NotAccepted, judged_of}
use Rattle.contents.specs.Kept.{kept_from}
use Rattle.contents.specs.declared.stated.Stated.{Stated}

-- The number of orders, the sum and the terms that a header states.
unfoldable pub stated_in : Profile → List ℕ → Stated
stated_in profile line = record { count = stated_count line; sum = stated_sum line; terms = stated_terms profile line }

unfoldable pub stated_of : Profile → List ℕ → Stated
stated_of profile file = stated_in profile (header file)

-- The first step: 905 and 907, then 102 to 131.
abbrev pub stated_verdict : Profile → List ℕ → Verdict
stated_verdict profile file = first_no (header_questions profile (header file))

-- A table in which no order is kept yet, with an entry for each of a book's 2,048 rows.
abbrev pub none_kept : List ℕ
none_kept = replicate 2_048 0

-- What the second step comes to, and the table after it.
pub record Records : Type 0 where
  pub judged : Judged
  pub kept : List ℕ

-- "A refusal leaves .. every lent table as they stood before it": it keeps no order.
unfoldable pub kept_where : Judged → List ℕ → List ℕ
kept_where (Accepted orders faulty) kept = kept
kept_where (NotAccepted n) kept = none_kept

-- The second step: 901, 902, 129, 132, 906 of the records of R fields, and of a file that passes the orders, kept in a table that kept none.
-- No profile asks for more than 32 fields; for more the answer is that no record is in shape.
unfoldable pub judged_records : ℕ → ℕ → ℕ → Terms → List ℕ → Judged
judged_records r count sum terms file =
    cond (leb r 32) (judged_of (first_no (record_questions r count sum terms (records file))) (orders file)) (NotAccepted 901)

unfoldable pub records_of : ℕ → ℕ → ℕ → Terms → List ℕ → Records
records_of r count sum terms file = record {
  judged = judged_records r count sum terms file;
  kept = kept_where (judged_records r count sum terms file) (kept_from none_kept 0 (orders_read r file));
}

-- The second step as it follows the first: of the profile's number of fields, and of what the header states.
abbrev pub records_behind : Profile → List ℕ → Records
records_behind profile file = records_of profile.fields (stated_of profile file).count (stated_of profile file).sum (stated_of profile file).terms file

-- The two steps are the contents, whatever the profile: where the first refuses, so are they refused; where it passes, they come to what the second
-- comes to; and of a file that is accepted the orders are kept.
pub record TwoStepsAreContents : Type 0 where
  pub first_refuses : (profile : Profile) (file : List ℕ) (n : ℕ) → stated_verdict profile file ≡ Refused n → contents profile file ≡ Refused n
  pub second_decides : (profile : Profile) (file : List ℕ) → stated_verdict profile file ≡ Passed
      → (records_behind profile file).judged ≡ judged_of (contents profile file) (orders file)
  pub accepted_kept : (profile : Profile) (file : List ℕ) → contents profile file ≡ Passed
      → (records_behind profile file).kept ≡ kept_from none_kept 0 (orders file)
