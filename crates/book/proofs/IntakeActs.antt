-- An intake's questions of the book, and what it does where all are answered yes.
-- Assumes nothing.
use mathlib.Core.Path.{◌≡◌, refl, sym, ap, subst, ◌∙◌}
use mathlib.Core.Bool.{Bool, true, false, not, false≢true}
use mathlib.Core.List.{List, [], map}
use Prim.Native.Nat.{ℕ, ◌+◌, ◌-◌, ◌≤◌, ◌<◌}
use native.Mathlib.Omega.{arith}
use borrow.Author.Tests.{leb-true, leb-false, le-leb, lt-leb, le-ltb, lt-ltb}
use lib.Dec.{leb, ltb}
use lib.ListN.{length, length-replicate}
use Rattle.std.specs.Prelude.{Option, is_some}
use Rattle.text.proofs.Branches.{either_way}
use Rattle.fee.specs.Fee.{TermsFit}
use Rattle.fee.specs.declared.Terms.{Terms}
use Rattle.epe.specs.Name.{name_of, name_in_form}
use Rattle.epe.specs.Questions.{Verdict, Passed, Refused as No, first_no}
use Rattle.epe.specs.File.{header}
use Rattle.epe.specs.Profile.{profile_questions, Fitting, terms_for}
use Rattle.epe.specs.Opening.{opening_questions, opening}
use Rattle.contents.specs.Contents.{stated_terms, contents_questions, contents, orders, faulty_count, Accepted as AreAccepted, NotAccepted, judged_of}
use Rattle.contents.specs.Steps.{none_kept, Records, stated_in, stated_of, stated_verdict, records_behind}
use Rattle.contents.specs.Accepted.{EachInRange, EachCharged}
use Rattle.contents.specs.Kept.{orders_in, kept_from}
use Rattle.epe.specs.declared.name.Name.{Name}
use Rattle.epe.specs.declared.profile.Profile.{Profile}
use Rattle.contents.specs.declared.record.Order.{Order}
use Rattle.contents.specs.declared.stated.Stated.{Stated}
use Rattle.epe.proofs.ProfileLaws.{terms_fit_holds}
use Rattle.contents.proofs.AcceptedAsStated.{accepted_as_stated}
use Rattle.contents.proofs.TwoStepsAreContents.{two_steps_are_contents}
use Rattle.contents.proofs.KeptInOrder.{kept_in_order}
use Rattle.epe.proofs.QuestionLaws.{all_yes, asked_refused, asked_passed, asked_no, asked_yes, asked_none, asked_behind, asked_before}
use Rattle.model.specs.Shipment.{most_shipments, most_rows, Shipment}
use Rattle.model.specs.Calls.{Call, Intake, Answer, Refused, Accepted}
use Rattle.model.specs.Book.{Book, is_unknown, rows_in, entered_row, new_shipment, entered, intake_questions, taken_in, step}
use Rattle.model.specs.Sound.{sound}
use Rattle.model.proofs.StaysSound.{stays_sound, opened_in_form}
use Rattle.model.proofs.StatedKind.{stated_terms_lem}
use Rattle.memory.specs.Layout.{size}
use Rattle.memory.specs.declared.place.Place.{Place}
use Rattle.memory.specs.Read.{shipments_from, shipments_in, book_in, sound_in}
use Rattle.sound.proofs.ReadLaws.{shipments_many, sound_parts}
use Rattle.acts.specs.Inner.Place.{called_in, place_from}
use Rattle.acts.proofs.UnknownIdent.{none_unknown}
use Rattle.book.specs.Does.{Does}
use Rattle.book.specs.Inner.Entering.{entered_in, Fits, Opened, Counted, ShipmentEntered, DoesEnter}
use Rattle.book.proofs.CallDoesStep.{does_no_book, does_step, stays}

-- a profile that passed
passed_fitting : (profile : Profile) → first_no (profile_questions profile) ≡ Passed → Fitting profile
unfolding profile_questions
passed_fitting profile passed = let yeses = all_yes (profile_questions profile) passed in (yeses.0, yeses.1.0)

-- the terms that a header states, where they are those of a kind
pub stated_as_set : (profile : Profile) (file : List ℕ) {stated : Stated} {terms : Terms} → stated ≡ stated_of profile file → stated_terms profile (header file) ≡ terms
    → stated.terms ≡ terms
unfolding stated_of stated_in
stated_as_set profile file is set_for = ap (λ (one : Stated). one.terms) is ∙ set_for

pub stated_fit : (profile : Profile) (name : Name) {terms : Terms} → first_no (profile_questions profile) ≡ Passed → terms ≡ terms_for profile name.kind
    → TermsFit terms
stated_fit profile name fits is = subst TermsFit (sym is) (terms_fit_holds profile name.kind (passed_fitting profile fits))

-- where there are too many orders no shipment is entered, whatever it would be
too_many : (s s' : Shipment) (n faulty : ℕ) (book : Book) → most_rows < n → entered_in [] s n faulty book ≡ entered_in [] s' n faulty book
too_many s s' n faulty book many =
    let full = lt-leb (rows_in book + n) most_rows (omega arith) in
    either_way (ltb (length book) most_shipments)
    (λ few. asked_yes 903 _ _ _ few ∙ asked_no 904 _ _ _ full ∙ sym (asked_yes 903 _ _ _ few ∙ asked_no 904 _ _ _ full))
    (λ none. asked_no 903 _ _ _ none ∙ sym (asked_no 903 _ _ _ none))

-- n orders that a table keeps, for a book of i shipments
module _ (m : List ℕ) (i : ℕ) (name : Name) (terms : Terms) (n faulty : ℕ) (kept : List ℕ) (opened : Opened m i name terms) where
  abbrev new : Shipment
  new = new_shipment name terms (map (entered_row terms) (orders_in kept 0 n))

  book_length : length (book_in m) ≡ i
  unfolding book_in
  book_length = shipments_many m 0 0 (shipments_in m) ∙ sym opened.last

  pub no_shipment_left : most_shipments ≤ i → DoesEnter [] new n faulty m (Refused 903) m
  no_shipment_left full = record {
    by_call = λ call stepped.
        stays opened.sound (stepped ∙ asked_no 903 _ _ _ (le-ltb (length (book_in m)) most_shipments (omega (arith, book_length))));
  }

  module _ (few : i < most_shipments) {k : ℕ} (is_from : k ≡ rows_in (shipments_from m 0 0 i)) where
    from_is : k ≡ rows_in (book_in m)
    unfolding book_in
    from_is = is_from ∙ ap (λ n. rows_in (shipments_from m 0 0 n)) opened.last

    pub from_within : k ≤ most_rows
    from_within = omega (arith, from_is, (sound_parts m opened.sound).rows)

    few_enough : ltb (length (book_in m)) most_shipments ≡ true
    few_enough = lt-ltb (length (book_in m)) most_shipments (omega (arith, book_length))

    module _ (counted : Counted terms n kept) where
      pub no_row_left : most_rows - k < n → DoesEnter [] new n faulty m (Refused 904) m
      no_row_left full = record {
        by_call = λ call stepped.
            stays opened.sound
            (stepped
            ∙ asked_yes 903 _ _ _ few_enough
            ∙ asked_no 904 _ _ _ (lt-leb (rows_in (book_in m) + n) most_rows (omega (arith, from_is, from_within))));
      }

      pub fits_behind : n ≤ most_rows - k → Fits m i k name terms n kept
      fits_behind room = record {
        enough = (sound_parts m opened.sound).enough;
        last = opened.last;
        few = few;
        from = from_is;
        room = omega (arith, from_within);
        in_range = counted.in_range (omega arith);
        charged = counted.charged (omega arith);
        in_form = opened.in_form;
        terms_fit_holds = opened.terms_fit_holds;
      }

      pub entered_behind : {m' : List ℕ} → n ≤ most_rows - k → ShipmentEntered new m m' → DoesEnter [] new n faulty m (Accepted n faulty) m'
      unfolding sound_in
      entered_behind {m'} room done = record {
        by_call = λ call stepped.
            let parts = sound_parts m opened.sound in
            let taken : step (book_in m) call ≡ record { book = book_in m'; answer = Accepted n faulty }
            = stepped
            ∙ asked_yes 903 _ _ _ few_enough
            ∙ asked_yes 904 _ _ _ (le-leb (rows_in (book_in m) + n) most_rows (omega (arith, from_is, from_within)))
            ∙ asked_none _ _
            ∙ (λ t. record { book = sym done.book t; answer = Accepted n faulty }) in
            let enough = le-leb size (length m') (rw done.as_long parts.enough) in
            let book : sound (book_in m') ≡ true = rw taken at (stays_sound.keeps (book_in m) call parts.book) in
            does_step opened.sound (rw (enough, done.flags parts.flags, book)) taken (λ refusal. absurd (false≢true refusal)) done.behind done.as_long;
      }

-- what the contents come to
module _ (m : List ℕ) (i : ℕ) (profile : Profile) (name : Name) (file : List ℕ) (fits : first_no (profile_questions profile) ≡ Passed)
    (is_sound : sound_in m ≡ true) (last : i ≡ shipments_in m) (in_form : name_in_form name ≡ true)
    (stated_is : stated_terms profile (header file) ≡ terms_for profile name.kind) {terms : Terms} (is_terms : terms ≡ terms_for profile name.kind) where
  pub opened : Opened m i name terms
  opened = record {
    sound = is_sound;
    last = last;
    in_form = in_form;
    terms_fit_holds = stated_fit profile name fits is_terms;
  }

  abbrev of_orders : List Order → Shipment
  of_orders os = new_shipment name terms (map (entered_row terms) os)

  passed_or_not : (verdict : Verdict) (n faulty : ℕ) → judged_of verdict (orders file) ≡ AreAccepted n faulty
      → (verdict ≡ Passed) × ((n ≡ length (orders file)) × (faulty ≡ faulty_count (orders file)))
  unfolding judged_of
  passed_or_not Passed n faulty h = (refl, (cc, cc))
  passed_or_not (No number) n faulty h = let never : ◌≡◌ {A = ℕ} 0 1 = cc in absurd (omega arith)

  refused_with_lem : (verdict : Verdict) (number : ℕ) → judged_of verdict (orders file) ≡ NotAccepted number → verdict ≡ No number
  unfolding judged_of
  refused_with_lem Passed number h = let never : ◌≡◌ {A = ℕ} 0 1 = cc in absurd (omega arith)
  refused_with_lem (No n) number h = cc

  pub contents_refused : {number : ℕ} → contents profile file ≡ No number
      → DoesEnter (contents_questions profile file) (entered profile name (orders file)) (length (orders file)) (faulty_count (orders file)) m (Refused number) m
  unfolding contents
  contents_refused verdict = record {
    by_call = λ call stepped. stays is_sound (stepped ∙ asked_before (contents_questions profile file) _ _ _ verdict);
  }

  -- the records of a file whose header has passed
  module _ (headed : stated_verdict profile file ≡ Passed) {records : Records} (are_records : records ≡ records_behind profile file) where
    is_result : records.judged ≡ judged_of (contents profile file) (orders file)
    is_result = ap (λ (all : Records). all.judged) are_records ∙ two_steps_are_contents.second_decides profile file headed

    pub records_refused : {number : ℕ} → records.judged ≡ NotAccepted number
        → DoesEnter (contents_questions profile file) (entered profile name (orders file)) (length (orders file)) (faulty_count (orders file)) m (Refused number) m
    records_refused {number} refused = contents_refused (refused_with_lem (contents profile file) number (sym is_result ∙ refused))

    module _ {n faulty : ℕ} (accepted : records.judged ≡ AreAccepted n faulty) where
      abbrev kept : List ℕ
      kept = records.kept

      passed : (contents profile file ≡ Passed) × ((n ≡ length (orders file)) × (faulty ≡ faulty_count (orders file)))
      passed = passed_or_not (contents profile file) n faulty (sym is_result ∙ accepted)

      in_range : EachInRange (orders file)
      in_range = (accepted_as_stated profile file passed.0).in_range

      are_kept : kept ≡ kept_from none_kept 0 (orders file)
      are_kept = ap (λ (all : Records). all.kept) are_records ∙ two_steps_are_contents.accepted_kept profile file passed.0

      -- the orders are in the table, if they are no more than a book has rows
      in_table : n ≤ most_rows → orders_in kept 0 n ≡ orders file
      in_table few =
          let all = passed.1.0 in
          rw (are_kept, all) (kept_in_order none_kept (orders file) in_range (omega (arith, length-replicate {A = ℕ} 2_048 0)))

      charged : EachCharged terms (orders file)
      charged = subst (λ (one : Terms). EachCharged one (orders file)) (stated_is ∙ sym is_terms) (accepted_as_stated profile file passed.0).charged

      pub counted : Counted terms n kept
      counted = record { in_range = λ few. rw (in_table few) in_range; charged = λ few. rw (in_table few) charged }

      entered_alike : entered_in [] (of_orders (orders file)) n faulty (book_in m) ≡ entered_in [] (of_orders (orders_in kept 0 n)) n faulty (book_in m)
      entered_alike =
          either_way (leb n most_rows) (λ few. ap (λ os. entered_in [] (of_orders os) n faulty (book_in m)) (sym (in_table (leb-true n most_rows few))))
          (λ many. too_many (of_orders (orders file)) (of_orders (orders_in kept 0 n)) n faulty (book_in m) (leb-false n most_rows many))

      pub contents_accepted : {answer : Answer} {m' : List ℕ} → DoesEnter [] (of_orders (orders_in kept 0 n)) n faulty m answer m'
          → DoesEnter (contents_questions profile file) (entered profile name (orders file)) (length (orders file)) (faulty_count (orders file)) m answer m'
      unfolding entered contents
      contents_accepted enters =
          rw (← is_terms, ← passed.1.0, ← passed.1.1)
          (record { by_call = λ call stepped. enters.by_call call (stepped ∙ asked_behind (contents_questions profile file) _ _ _ passed.0 ∙ entered_alike) })

-- the questions before the contents
module _ (m : List ℕ) (profile : Profile) (name file : List ℕ) where
  abbrev call : Call
  call = Intake profile name file

  -- "Profile within the ranges above? 905", and 907
  pub profile_refused : {number : ℕ} → first_no (profile_questions profile) ≡ No number → Does m call (Refused number) m
  unfolding step taken_in intake_questions
  profile_refused refused =
      either_way (sound_in m) (λ held. stays held (asked_before (profile_questions profile) _ _ _ refused))
      (λ unsound. does_no_book (asked_refused (profile_questions profile) Refused (Refused 900) _ refused) unsound)

  module _ (fits : first_no (profile_questions profile) ≡ Passed) where
    pub memory_refused : sound_in m ≡ false → Does m call (Refused 900) m
    memory_refused unsound = does_no_book (asked_passed (profile_questions profile) Refused (Refused 900) fits) unsound

    module _ (held : sound_in m ≡ true) where
      pub opening_refused : {number : ℕ} → opening name file ≡ No number → Does m call (Refused number) m
      unfolding step taken_in intake_questions opening
      opening_refused refused = stays held (asked_behind (profile_questions profile) _ _ _ fits ∙ asked_before (opening_questions name file) _ _ _ refused)

      module _ (passed : opening name file ≡ Passed) where
        -- "Identifier not yet in the book? 101"
        pub known_refused : is_unknown (name_of name).ident (book_in m) ≡ false → Does m call (Refused 101) m
        unfolding step taken_in intake_questions opening
        known_refused known =
            stays held (asked_behind (profile_questions profile) _ _ _ fits ∙ asked_behind (opening_questions name file) _ _ _ passed ∙ asked_no 101 _ _ _ known)

        pub contents_next : is_unknown (name_of name).ident (book_in m) ≡ true
            → step (book_in m) call
            ≡ entered_in (contents_questions profile file) (entered profile (name_of name) (orders file)) (length (orders file)) (faulty_count (orders file)) (book_in m)
        unfolding step taken_in intake_questions opening
        contents_next unknown =
            asked_behind (profile_questions profile) _ _ _ fits ∙ asked_behind (opening_questions name file) _ _ _ passed ∙ asked_yes 101 _ _ _ unknown

    -- the name's parts, as code has them
    module _ (held : sound_in m ≡ true) (passed : opening name file ≡ Passed) {parts : Name} (name_is : parts ≡ name_of name) where
      -- the header states the terms of the name's kind
      pub terms_of_name : stated_terms profile (header file) ≡ terms_for profile parts.kind
      terms_of_name = stated_terms_lem profile name file passed ∙ ap (λ (n : Name). terms_for profile n.kind) (sym name_is)

      pub name_in_form_lem : name_in_form parts ≡ true
      name_in_form_lem = ap name_in_form name_is ∙ opened_in_form name file passed

      module _ {i : ℕ} (last : i ≡ shipments_in m) {looked : Option Place} (is_looked : looked ≡ place_from (called_in parts.ident) m 0 0 i)
          {known : Bool} (is-known : known ≡ is_some looked) where
        unknown_test : is_unknown (name_of name).ident (book_in m) ≡ not known
        unfolding book_in
        unknown_test =
            (λ t. is_unknown (sym name_is t).ident (shipments_from m 0 0 (sym last t)))
            ∙ none_unknown parts.ident m 0 0 i
            ∙ ap (λ found. not (is_some found)) (sym is_looked)
            ∙ ap not (sym is-known)

        pub known_at : known ≡ true → Does m call (Refused 101) m
        known_at known = known_refused held passed (unknown_test ∙ ap not known)

        pub taken_at : known ≡ false → {answer : Answer} {m' : List ℕ}
            → DoesEnter (contents_questions profile file) (entered profile parts (orders file)) (length (orders file)) (faulty_count (orders file)) m answer m'
            → Does m call answer m'
        taken_at new enters =
            enters.by_call call
            (contents_next held passed (unknown_test ∙ ap not new)
            ∙ ap (λ (n : Name). entered_in (contents_questions profile file) (entered profile n (orders file)) (length (orders file)) (faulty_count (orders file)) (book_in m))
            (sym name_is))

pub ruleset intakes = (profile_refused, memory_refused)

pub ruleset takes_files = (sound_parts, opening_refused, terms_of_name, name_in_form_lem, known_at, taken_at)

pub ruleset takes_records = (stated_as_set, stated_fit, opened, counted, contents_accepted, records_refused)

pub ruleset enters_behind = (sound_parts, no_shipment_left, no_row_left, fits_behind, entered_behind)
