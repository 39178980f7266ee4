-- The reports' texts, as they are put together, and how long they are.
-- Assumes nothing.
use mathlib.Core.Path.{◌≡◌, sym, ◌∙◌, ap}
use mathlib.Core.Bool.{true, false}
use mathlib.Core.List.{List, [], ◌∷◌, ◌++◌, map, append_assoc, append-nil}
use Prim.Native.Nat.{ℕ, ◌+◌, ◌≤◌}
use native.Mathlib.Omega.{arith}
use lib.Dec.{eqb}
use lib.ListN.{length, length-append}
use Rattle.text.specs.Quoted.{bytes}
use Rattle.text.specs.Utf8Parts.{parts_joined}
use Rattle.text.proofs.Branches.{and_left, and_right, either_way}
use Rattle.epe.specs.Ident.{identifier}
use Rattle.epe.proofs.IdentLaws.{identifier_fits}
use Rattle.write.specs.Files.{line, file}
use Rattle.write.specs.Spelled.{digits, places_of, spelled}
use Rattle.write.specs.Writer.{HasRoom}
use Rattle.write.specs.declared.Writer.{Writer}
use Rattle.write.proofs.Spelling.{digits_long, one_place}
use Rattle.write.proofs.Pieces.{room_first}
use Rattle.report.specs.Lines.{header_of, record_of}
use Rattle.report.specs.Rkf.{rkf_lines, rkf, fits_rkf}
use Rattle.report.specs.Inner.Pieces.{start_text, moment_text, opening_text, behind_header, record_text}

-- lines joined: the first, and each other one behind a CR LF
behind_first : (row : List (List ℕ)) (rows : List (List (List ℕ))) → parts_joined (0x0D ∷ 0x0A ∷ []) (map line (row ∷ rows)) ≡ line row ++ behind_header rows
unfolding parts_joined behind_header
behind_first row [] = sym (append-nil (line row))
behind_first row (next ∷ rows) = ap (λ (s : List ℕ). line row ++ (0x0D ∷ 0x0A ∷ s)) (behind_first next rows)

module _ (start own : List ℕ) (created : ℕ) (source : List ℕ) where
  -- how long an opening is
  pub opening_long : length (opening_text start own created source) ≡ length start + length own + length source + 21
  unfolding opening_text moment_text
  opening_long =
      let a = length-append start ((own ++ (0x7C ∷ [])) ++ (moment_text created ++ (source ++ (0x7C ∷ [])))) in
      let b = length-append (own ++ (0x7C ∷ [])) (moment_text created ++ (source ++ (0x7C ∷ []))) in
      let c = length-append own (0x7C ∷ []) in
      let d = length-append (moment_text created) (source ++ (0x7C ∷ [])) in
      let e = length-append (digits 14 created) (bytes "|EPE|") in
      let f = length-append source (0x7C ∷ []) in
      let g = digits_long 14 created in
      omega arith

  -- a text behind it
  opening_behind : (rest : List ℕ) → opening_text start own created source ++ rest
      ≡ start ++ (own ++ (0x7C ∷ (digits 14 created ++ (bytes "|EPE|" ++ (source ++ (0x7C ∷ rest))))))
  unfolding opening_text moment_text
  opening_behind rest =
      append_assoc start ((own ++ (0x7C ∷ [])) ++ (moment_text created ++ (source ++ (0x7C ∷ [])))) rest
      ∙ ap (λ (s : List ℕ). start ++ s)
      (append_assoc (own ++ (0x7C ∷ [])) (moment_text created ++ (source ++ (0x7C ∷ []))) rest
      ∙ append_assoc own (0x7C ∷ []) ((moment_text created ++ (source ++ (0x7C ∷ []))) ++ rest)
      ∙ ap (λ (s : List ℕ). own ++ (0x7C ∷ s))
      (append_assoc (moment_text created) (source ++ (0x7C ∷ [])) rest
      ∙ append_assoc (digits 14 created) (bytes "|EPE|") ((source ++ (0x7C ∷ [])) ++ rest)
      ∙ ap (λ (s : List ℕ). digits 14 created ++ (bytes "|EPE|" ++ s)) (append_assoc source (0x7C ∷ []) rest)))

-- a report: its opening, what it comes to, and its records
module _ (code own : List ℕ) (created : ℕ) (source outcome : List ℕ) where
  abbrev from_source : List ℕ → List ℕ
  from_source rest = bytes "|EPE|" ++ (source ++ (0x7C ∷ rest))

  header_behind : (rest : List ℕ) → line (header_of code own created source outcome) ++ rest
      ≡ bytes "1|PP|" ++ (code ++ (bytes "|1.0|" ++ (own ++ (0x7C ∷ (digits 14 created ++ from_source (outcome ++ rest))))))
  unfolding parts_joined
  header_behind rest =
      ap (λ (s : List ℕ). bytes "1|PP|" ++ s)
      (append_assoc code (bytes "|1.0|" ++ (own ++ (0x7C ∷ (digits 14 created ++ from_source outcome)))) rest
      ∙ ap (λ (s : List ℕ). code ++ (bytes "|1.0|" ++ s))
      (append_assoc own (0x7C ∷ (digits 14 created ++ from_source outcome)) rest
      ∙ ap (λ (s : List ℕ). own ++ (0x7C ∷ s))
      (append_assoc (digits 14 created) (from_source outcome) rest
      ∙ ap (λ (s : List ℕ). digits 14 created ++ (bytes "|EPE|" ++ s)) (append_assoc source (0x7C ∷ outcome) rest))))

  pub report_text : (rows : List (List (List ℕ)))
      → file (header_of code own created source outcome ∷ rows) ≡ opening_text (start_text code) own created source ++ (outcome ++ behind_header rows)
  unfolding start_text
  report_text rows =
      let behind = outcome ++ behind_header rows in
      ap (λ (s : List ℕ). 0xEF ∷ 0xBB ∷ 0xBF ∷ s) (behind_first (header_of code own created source outcome) rows ∙ header_behind (behind_header rows))
      ∙ sym
      (opening_behind (start_text code) own created source behind
      ∙ ap (λ (s : List ℕ). 0xEF ∷ 0xBB ∷ 0xBF ∷ (bytes "1|PP|" ++ s))
      (append_assoc code (bytes "|1.0|") (own ++ (0x7C ∷ (digits 14 created ++ from_source behind)))))

-- a record with the CR LF before it
pub record_text_lem : (running order code : ℕ) → behind_header (record_of running order code ∷ []) ≡ record_text running order code
unfolding behind_header record_text parts_joined
record_text_lem running order code =
    ap (λ (s : List ℕ). bytes "\r\n2|" ++ s)
    (append-nil (spelled running ++ (0x7C ∷ (spelled order ++ (0x7C ∷ digits 3 code))))
    ∙ sym
    (append_assoc (spelled running) (0x7C ∷ []) ((spelled order ++ (0x7C ∷ [])) ++ digits 3 code)
    ∙ ap (λ (s : List ℕ). spelled running ++ (0x7C ∷ s)) (append_assoc (spelled order) (0x7C ∷ []) (digits 3 code))))

-- how long a record is
pub record_long : (running order code : ℕ) → length (record_text running order code) ≡ places_of running + places_of order + 9
unfolding record_text
record_long running order code =
    let a = length-append (spelled running ++ (0x7C ∷ [])) ((spelled order ++ (0x7C ∷ [])) ++ digits 3 code) in
    let b = length-append (spelled running) (0x7C ∷ []) in
    let c = length-append (spelled order ++ (0x7C ∷ [])) (digits 3 code) in
    let d = length-append (spelled order) (0x7C ∷ []) in
    let e = digits_long (places_of running) running in
    let f = digits_long (places_of order) order in
    let g = digits_long 3 code in
    omega arith

-- RKF, of a file that was accepted and of one that was refused
module _ (own : List ℕ) (created : ℕ) (source : List ℕ) (refusal : ℕ) where
  abbrev rkf_opening : List ℕ
  rkf_opening = opening_text (start_text (bytes "RKF")) own created source

  pub rkf_accepted : eqb refusal 0 ≡ true → rkf own created source refusal ≡ rkf_opening ++ bytes "1"
  unfolding rkf rkf_lines behind_header
  rkf_accepted is = rw is (report_text (bytes "RKF") own created source (bytes "1") [])

  pub rkf_refused : eqb refusal 0 ≡ false → rkf own created source refusal ≡ rkf_opening ++ (bytes "0" ++ record_text 1 0 refusal)
  unfolding rkf rkf_lines
  rkf_refused is =
      rw is
      (report_text (bytes "RKF") own created source (bytes "0") (record_of 1 0 refusal ∷ [])
      ∙ ap (λ (s : List ℕ). rkf_opening ++ (bytes "0" ++ s)) (record_text_lem 1 0 refusal))

  -- and how long it is
  pub accepted_long : eqb refusal 0 ≡ true → length (rkf own created source refusal) ≡ 38 + length own + length source
  unfolding start_text
  accepted_long is =
      let a = length-append rkf_opening (bytes "1") in
      let b = opening_long (start_text (bytes "RKF")) own created source in
      ap (λ (s : List ℕ). length s) (rkf_accepted is) ∙ omega arith

  pub refused_long : eqb refusal 0 ≡ false → length (rkf own created source refusal) ≡ 49 + length own + length source
  unfolding start_text
  refused_long is =
      let a = length-append rkf_opening (bytes "0" ++ record_text 1 0 refusal) in
      let b = opening_long (start_text (bytes "RKF")) own created source in
      let c = record_long 1 0 refusal in
      let running = one_place 1 (omega arith) in
      let number = one_place 0 (omega arith) in
      ap (λ (s : List ℕ). length s) (rkf_refused is) ∙ omega arith

  -- its opening fits where it does
  pub opening_room : {w : Writer} → HasRoom (rkf own created source refusal) w → HasRoom rkf_opening w
  opening_room room =
      either_way (eqb refusal 0)
      (λ is. room_first rkf_opening (bytes "1") (rw (rkf_accepted is) at room))
      (λ not. room_first rkf_opening (bytes "0" ++ record_text 1 0 refusal) (rw (rkf_refused not) at room))

-- identifiers that can stand in their fields are at most 17 bytes
pub rkf_identifiers : (own : List ℕ) (created : ℕ) (source : List ℕ) (refusal : ℕ) → fits_rkf own created source refusal ≡ true
    → (length own ≤ 17) × (length source ≤ 17)
unfolding fits_rkf
rkf_identifiers own created source refusal fit =
    let rest = and_right (identifier own) _ fit in
    (identifier_fits own (and_left (identifier own) _ fit), identifier_fits source (and_left (identifier source) _ rest))
