-- RKF, the report on an order file. "RKF has result 1 and no record, or result 0 and one record with running number 1, record number 0 and the code;
-- codes outside 100 to 307 don't go into it." (document 02, A2)
use Rattle.std.specs.Prelude.{Bool, cond, ◌&&◌, ◌||◌, List, [], ◌∷◌, ℕ, eqb}
use Rattle.text.specs.Bytes.{between}
use Rattle.text.specs.Quoted.{bytes}
use Rattle.epe.specs.Ident.{identifier}
use Rattle.epe.specs.Questions.{◌else_no◌}
use Rattle.write.specs.Files.{file}
use Rattle.write.specs.Written.{Wrote, written_after}
use Rattle.report.specs.Lines.{is_moment, header_of, record_of}

-- Its lines. A refusal of 0 is none: the file was accepted.
unfoldable pub rkf_lines : List ℕ → ℕ → List ℕ → ℕ → List (List (List ℕ))
rkf_lines own created source refusal =
    header_of (bytes "RKF") own created source (cond (eqb refusal 0) (bytes "1") (bytes "0"))
    ∷ cond (eqb refusal 0) [] (record_of 1 0 refusal ∷ [])

unfoldable pub rkf : List ℕ → ℕ → List ℕ → ℕ → List ℕ
rkf own created source refusal = file (rkf_lines own created source refusal)

-- ".. 31 when a code or value is missing or can't stand in its field, asked just before" 30.
unfoldable pub fits_rkf : List ℕ → ℕ → List ℕ → ℕ → Bool
fits_rkf own created source refusal = identifier own && (identifier source && (is_moment created && (eqb refusal 0 || between 100 307 refusal)))

unfoldable pub rkf_written : List ℕ → ℕ → List ℕ → ℕ → List ℕ → Wrote
rkf_written own created source refusal output =
    written_after ((fits_rkf own created source refusal else_no 31) ∷ []) (rkf own created source refusal) output
