-- A title is read as the short one: which bytes that leaves, and what its parts are.
-- Assumes nothing.
use mathlib.Core.Path.{◌≡◌, refl, sym, ◌∙◌, ap}
use mathlib.Core.Bool.{Bool, true, false, cond, ◌&&◌, ◌||◌, false≢true}
use mathlib.Core.List.{List, [], ◌∷◌, ◌++◌, append_assoc}
use Prim.Native.Nat.{ℕ, zero, suc, ◌+◌, ◌-◌, ◌<◌, ◌≤◌}
use native.Mathlib.Omega.{arith}
use borrow.Author.Tests.{eqb-true}
use lib.Dec.{eqb}
use lib.ListN.{length, get_or, take, drop, length-append, take-append-drop}
use lib.Seq.{take-append-add, drop-append-add}
use Rattle.text.specs.Bytes.{same}
use Rattle.text.specs.Quoted.{bytes}
use Rattle.text.specs.Fields.{fields, onto, cut_count}
use Rattle.text.proofs.Branches.{and_left, and_right, second_no, cond_either, either_way}
use Rattle.text.proofs.FieldsByCuts.{count_of_fields}
use Rattle.text.proofs.Same.{same_equal}
use Rattle.std.specs.Prelude.{Option, Some, None, is_some, Result, Ok, Err}
use Rattle.std.specs.Option.{unwrap_or}
use Rattle.std.specs.Result.{is_ok}
use Rattle.money.specs.declared.Money.{Money}
use Rattle.money.specs.declared.Money.TheVariants.{K, O}
use Rattle.epe.specs.Questions.{Verdict, Passed, Refused, asked, first_no, is_passed, verdict_of}
use Rattle.epe.specs.Name.{name_part, name_questions, name_of, has_long_date, short_title, title_name, title_ending, title_questions, title_of, long_title, LongMeansShort}
use Rattle.epe.specs.Inner.Ending.{ending_money}
use Rattle.epe.specs.Inner.Dated.{Dated, dated_questions, dated_name}
use Rattle.epe.specs.declared.name.Name.{Name}
use Rattle.epe.specs.declared.name.Title.{Title}
use Rattle.epe.specs.declared.refusal.Refusal.{Refusal}
use Rattle.epe.proofs.QuestionLaws.{asked_no, asked_yes, asked_none}

-- a byte before the first of some parts
onto_first : (b : ℕ) (parts : List (List ℕ)) → get_or (onto b parts) 0 [] ≡ b ∷ get_or parts 0 []
unfolding onto
onto_first b [] = refl
onto_first b (part ∷ parts) = refl

onto_others : (b : ℕ) (parts : List (List ℕ)) (n : ℕ) → get_or (onto b parts) (suc n) [] ≡ get_or parts (suc n) []
unfolding onto
onto_others b [] n = refl
onto_others b (part ∷ parts) n = refl

onto_length : (b : ℕ) (parts : List (List ℕ)) → 0 < length parts → length (onto b parts) ≡ length parts
unfolding onto
onto_length b [] some = absurd (omega (arith, some))
onto_length b (part ∷ parts) some = refl

-- a part of a text that another part follows is a part of it still with more behind
part_kept : (s t : List ℕ) (k : ℕ) → suc k < length (fields 0x2D s) → get_or (fields 0x2D (s ++ t)) k [] ≡ get_or (fields 0x2D s) k []
unfolding fields
part_kept [] t k more = absurd (omega (arith, more))
part_kept (b ∷ s) t k more = go (eqb b 0x2D) refl k more (λ k more. part_kept s t k more)
  where
    some : 0 < length (fields 0x2D s)
    some = let l = count_of_fields 0x2D s in omega arith

    go : (hyphen : Bool) → eqb b 0x2D ≡ hyphen → (k : ℕ) → suc k < length (fields 0x2D (b ∷ s))
        → ((k : ℕ) → suc k < length (fields 0x2D s) → get_or (fields 0x2D (s ++ t)) k [] ≡ get_or (fields 0x2D s) k [])
        → get_or (fields 0x2D ((b ∷ s) ++ t)) k [] ≡ get_or (fields 0x2D (b ∷ s)) k []
    go true is zero more others = rw is
    go true is (suc k) more others = rw is (others k (let m = rw is at more in omega arith))
    go false not zero more others =
        let m = rw (not, onto_length b (fields 0x2D s) some) at more in
        rw (not, onto_first b (fields 0x2D (s ++ t)), onto_first b (fields 0x2D s), others 0 m)
    go false not (suc k) more others =
        let m = rw (not, onto_length b (fields 0x2D s) some) at more in
        rw (not, onto_others b (fields 0x2D (s ++ t)) k, onto_others b (fields 0x2D s) k) (others (suc k) m)

-- a text at its first hyphen, where it has a second part
record Parted (s : List ℕ) : Type 0 where
  front : List ℕ
  rest : List ℕ
  whole : s ≡ front ++ (0x2D ∷ rest)
  parts : (t : List ℕ) → fields 0x2D (front ++ (0x2D ∷ t)) ≡ front ∷ fields 0x2D t

module _ {s : List ℕ} (b : ℕ) (later : Parted s) (other : eqb b 0x2D ≡ false) where
  parted_later : Parted (b ∷ s)
  unfolding fields onto
  parted_later = record {
    front = b ∷ later.front;
    rest = later.rest;
    whole = ap (λ (t : List ℕ). b ∷ t) later.whole;
    parts = λ t. rw (other, later.parts t);
  }

parted : (s : List ℕ) → 0 < length (name_part 2 s) → Parted s
unfolding fields
parted [] some = absurd (omega (arith, some))
parted (b ∷ s) some = go (eqb b 0x2D) refl (λ more. parted s more)
  where
    go : (hyphen : Bool) → eqb b 0x2D ≡ hyphen → (0 < length (name_part 2 s) → Parted s) → Parted (b ∷ s)
    go true is others = record { front = []; rest = s; whole = ap (λ (x : ℕ). x ∷ s) (eqb-true b 0x2D is); parts = λ t. refl }
    go false other others = parted_later b (others (rw (other, onto_others b (fields 0x2D s) 0) at some)) other

-- its second part is the first one behind the hyphen
second_of : {s : List ℕ} (at : Parted s) → name_part 2 s ≡ name_part 1 at.rest
second_of at = ap (λ (s : List ℕ). name_part 2 s) at.whole ∙ ap (λ (parts : List (List ℕ)). get_or parts 1 []) (at.parts at.rest)

-- the first part of a text is its first bytes
first_part : (s : List ℕ) → take (length (name_part 1 s)) s ≡ name_part 1 s
unfolding fields
first_part [] = refl
first_part (b ∷ s) =
    cond_either (λ (parts : List (List ℕ)). take (length (get_or parts 0 [])) (b ∷ s) ≡ get_or parts 0 []) (eqb b 0x2D) ([] ∷ fields 0x2D s)
    (onto b (fields 0x2D s))
    (λ hyphen. refl)
    (λ other. rw (onto_first b (fields 0x2D s)) (ap (λ (t : List ℕ). b ∷ t) (first_part s)))

-- a text whose first part is eight bytes that begin 20
record Begun (s : List ℕ) : Type 0 where
  rest : List ℕ
  whole : s ≡ 0x32 ∷ 0x30 ∷ rest
  enough : 2 ≤ length rest

begun : (s : List ℕ) → length (name_part 1 s) ≡ 8 → take 2 (name_part 1 s) ≡ bytes "20" → Begun s
begun s eight twenty =
    let whole : take 8 s ≡ name_part 1 s = rw eight at (first_part s) in
    go s (rw whole eight) (rw whole twenty)
  where
    go : (s : List ℕ) → length (take 8 s) ≡ 8 → take 2 (take 8 s) ≡ bytes "20" → Begun s
    go [] eight twenty = absurd (omega (arith, eight))
    go (x ∷ []) eight twenty = absurd (omega (arith, eight))
    go (x ∷ y ∷ []) eight twenty = absurd (omega (arith, eight))
    go (x ∷ y ∷ z ∷ []) eight twenty = absurd (omega (arith, eight))
    go (x ∷ y ∷ z ∷ u ∷ rest) eight twenty = record {
      rest = z ∷ u ∷ rest;
      whole = λ i. get_or (twenty i) 0 0 ∷ get_or (twenty i) 1 0 ∷ z ∷ u ∷ rest;
      enough = omega arith;
    }

-- what stands before the last two bytes, and these, of a text that is long enough behind some bytes
module _ (p q x : List ℕ) (enough : 2 ≤ length x) where
  at_end : length (p ++ (q ++ x)) - 2 ≡ length (p ++ q) + (length x - 2)
  at_end = let l = length-append (p ++ q) x in rw (← append_assoc p q x) (omega arith)

  before_end : take (length (p ++ (q ++ x)) - 2) (p ++ (q ++ x)) ≡ p ++ (q ++ take (length x - 2) x)
  before_end = rw (at_end, ← append_assoc p q x, ← append_assoc p q (take (length x - 2) x)) (take-append-add (p ++ q) x (length x - 2))

  end : drop (length (p ++ (q ++ x)) - 2) (p ++ (q ++ x)) ≡ drop (length x - 2) x
  end = rw (at_end, ← append_assoc p q x) (drop-append-add (p ++ q) x (length x - 2))

-- a hyphen among the first three bytes, or behind them: whether they are EPE, and what stands behind, is the same whatever comes after it
start_kept : (front s t : List ℕ) → same (take 3 (front ++ (0x2D ∷ t))) (bytes "EPE") ≡ same (take 3 (front ++ (0x2D ∷ s))) (bytes "EPE")
start_kept [] s t = refl
start_kept (x ∷ []) s t = refl
start_kept (x ∷ y ∷ []) s t = refl
start_kept (x ∷ y ∷ z ∷ front) s t = refl

behind_kept : (front s t : List ℕ) → same (take 3 (front ++ (0x2D ∷ s))) (bytes "EPE") ≡ true → get_or (front ++ (0x2D ∷ t)) 3 0 ≡ get_or (front ++ (0x2D ∷ s)) 3 0
behind_kept [] s t is = absurd (false≢true is)
behind_kept (x ∷ []) s t is = absurd (false≢true (and_right (eqb x 0x45) false is))
behind_kept (x ∷ y ∷ []) s t is = absurd (false≢true (and_right (eqb y 0x50) false (and_right (eqb x 0x45) (eqb y 0x50 && false) is)))
behind_kept (x ∷ y ∷ z ∷ []) s t is = refl
behind_kept (x ∷ y ∷ z ∷ u ∷ front) s t is = refl

-- a long date: the bytes before it, `20`, and the rest
module _ (front rest : List ℕ) (parts : (t : List ℕ) → fields 0x2D (front ++ (0x2D ∷ t)) ≡ front ∷ fields 0x2D t) where
  long_parts : fields 0x2D (front ++ (0x2D ∷ 0x32 ∷ 0x30 ∷ rest)) ≡ front ∷ onto 0x32 (onto 0x30 (fields 0x2D rest))
  unfolding fields
  long_parts = parts (0x32 ∷ 0x30 ∷ rest)

  long_shortened : has_long_date (front ++ (0x2D ∷ 0x32 ∷ 0x30 ∷ rest)) ≡ true → short_title (front ++ (0x2D ∷ 0x32 ∷ 0x30 ∷ rest)) ≡ front ++ (0x2D ∷ rest)
  unfolding short_title
  long_shortened long =
      let all : List ℕ = 0x2D ∷ 0x32 ∷ 0x30 ∷ rest in
      let place : length front + 1 + 2 ≡ length front + 3 = omega arith in
      rw (long, long_parts, take-append-add front all 1, place, drop-append-add front all 3) (append_assoc front (0x2D ∷ []) rest)

  -- without the `20`, and whatever stands behind, the same name but for its second part
  short_dated : Dated (front ++ (0x2D ∷ 0x32 ∷ 0x30 ∷ rest)) (drop 2 (name_part 2 (front ++ (0x2D ∷ 0x32 ∷ 0x30 ∷ rest)))) (front ++ (0x2D ∷ rest))
  short_dated =
      let behind = fields 0x2D rest in
      let some : 0 < length behind = rw (count_of_fields 0x2D rest) (omega arith) in
      record {
        parts = rw (parts rest, long_parts, onto_length 0x32 (onto 0x30 behind) (rw (onto_length 0x30 behind some) some), onto_length 0x30 behind some);
        first = rw (parts rest, long_parts);
        second = rw (parts rest, long_parts, onto_first 0x32 (onto 0x30 behind), onto_first 0x30 behind);
        third = rw (parts rest, long_parts, onto_others 0x32 (onto 0x30 behind) 0, onto_others 0x30 behind 0);
        fourth = rw (parts rest, long_parts, onto_others 0x32 (onto 0x30 behind) 1, onto_others 0x30 behind 1);
        start = start_kept front (0x32 ∷ 0x30 ∷ rest) rest;
        behind = behind_kept front (0x32 ∷ 0x30 ∷ rest) rest;
      }

-- a title with a long date, parted at it
record LongAt (title : List ℕ) : Type 0 where
  front : List ℕ
  rest : List ℕ
  whole : title ≡ front ++ (0x2D ∷ 0x32 ∷ 0x30 ∷ rest)
  parts : (t : List ℕ) → fields 0x2D (front ++ (0x2D ∷ t)) ≡ front ∷ fields 0x2D t
  enough : 2 ≤ length rest

long_at : (title : List ℕ) → has_long_date title ≡ true → LongAt title
unfolding has_long_date
long_at title long =
    let date = name_part 2 title in
    let eight = eqb-true (length date) 8 (and_left (eqb (length date) 8) (same (take 2 date) (bytes "20")) long) in
    let twenty = same_equal (take 2 date) (bytes "20") (and_right (eqb (length date) 8) (same (take 2 date) (bytes "20")) long) in
    go (parted title (omega (arith, eight))) eight twenty
  where
    go : Parted title → length (name_part 2 title) ≡ 8 → take 2 (name_part 2 title) ≡ bytes "20" → LongAt title
    go at eight twenty =
        let date = begun at.rest (rw (second_of at) at eight) (rw (second_of at) at twenty) in
        record {
          front = at.front;
          rest = date.rest;
          whole = at.whole ∙ ap (λ (t : List ℕ). at.front ++ (0x2D ∷ t)) date.whole;
          parts = at.parts;
          enough = date.enough;
        }

-- what is asked of a name with another second part, and its parts, are those of the name that is meant
pub same_verdict : {name date meant : List ℕ} → Dated name date meant → first_no (dated_questions name date) ≡ first_no (name_questions meant)
unfolding dated_questions name_questions asked
same_verdict {name} is =
    either_way (same (take 3 name) (bytes "EPE"))
    (λ starts. rw (is.parts, is.first, is.second, is.third, is.fourth, is.start, is.behind starts) refl)
    (λ not. rw (is.parts, is.start, not) refl)

pub same_name : {name date meant : List ℕ} → Dated name date meant → dated_name name date ≡ name_of meant
unfolding dated_name name_of
same_name is = rw (is.first, is.second, is.third, is.fourth) refl

-- what stands before a title's ending, with the date as it is to be read
abbrev BeforeEnding : List ℕ → Type 0
BeforeEnding title =
    Dated (take (length title - 2) title) (cond (has_long_date title) (drop 2 (name_part 2 (take (length title - 2) title))) (name_part 2 (take (length title - 2) title)))
    (title_name title)

-- a name is dated by its own second part
dated_itself : {name date : List ℕ} → date ≡ name_part 2 name → Dated name date name
dated_itself is = record { parts = refl; first = refl; second = sym is; third = refl; fourth = refl; start = refl; behind = λ start. refl }

as_it_is : (title : List ℕ) → has_long_date title ≡ false → short_title title ≡ title
unfolding short_title
as_it_is title short = rw short

before_ending : (title : List ℕ) → BeforeEnding title
before_ending title =
    either_way (has_long_date title)
    (λ long. by_long (long_at title long) long)
    (λ short. rw (short, as_it_is title short) (dated_itself refl))
  where
    by_long : LongAt title → has_long_date title ≡ true → BeforeEnding title
    by_long at long =
        let whole = at.whole in
        let long_whole = rw whole at long in
        rw (
          whole,
          long_whole,
          long_shortened at.front at.rest at.parts long_whole,
          before_end at.front (0x2D ∷ 0x32 ∷ 0x30 ∷ []) at.rest at.enough,
          before_end at.front (0x2D ∷ []) at.rest at.enough,
        )
        (short_dated at.front (take (length at.rest - 2) at.rest) at.parts)

-- the second part of a title, where another follows before its ending
pub second_kept : (title : List ℕ) {name : List ℕ} {count : ℕ} → count ≡ cut_count 4 0x2D name → 2 ≤ count → name ≡ take (length title - 2) title
    → name_part 2 name ≡ name_part 2 title
unfolding cut_count
second_kept title {name} counted two is_name =
    let parts = count_of_fields 0x2D name in
    let more : suc 1 < length (fields 0x2D name) = omega arith in
    let n = length title - 2 in
    sym (part_kept name (drop n title) 1 more)
    ∙ ap (λ (s : List ℕ). name_part 2 s) (ap (λ (s : List ℕ). s ++ drop n title) is_name ∙ take-append-drop n title)

module _ (title : List ℕ) {name date : List ℕ} {long : Bool} (is_long : long ≡ has_long_date title) (is_date : date ≡ name_part 2 name) (is_name : name ≡ take (length title - 2) title) where
  pub dated_by_long : long ≡ true → Dated name (drop 2 date) (title_name title)
  dated_by_long h = rw (is_date, is_name) (rw (sym is_long ∙ h) at (before_ending title))

  pub dated_by_short : long ≡ false → Dated name date (title_name title)
  dated_by_short h = rw (is_date, is_name) (rw (sym is_long ∙ h) at (before_ending title))

-- its last two bytes are the short one's
pub ending_kept : (title : List ℕ) → drop (length title - 2) title ≡ title_ending title
ending_kept title = either_way (has_long_date title) (λ long. by_long (long_at title long) long) (λ short. rw (as_it_is title short))
  where
    by_long : LongAt title → has_long_date title ≡ true → drop (length title - 2) title ≡ title_ending title
    by_long at long =
        let whole = at.whole in
        rw (whole, long_shortened at.front at.rest at.parts (rw whole at long))
        (end at.front (0x2D ∷ 0x32 ∷ 0x30 ∷ []) at.rest at.enough ∙ sym (end at.front (0x2D ∷ []) at.rest at.enough))

-- `20` put before a date of six bytes is taken away again
module _ (front rest : List ℕ) (parts : (t : List ℕ) → fields 0x2D (front ++ (0x2D ∷ t)) ≡ front ∷ fields 0x2D t) where
  lengthened : long_title (front ++ (0x2D ∷ rest)) ≡ front ++ (0x2D ∷ 0x32 ∷ 0x30 ∷ rest)
  lengthened =
      let all : List ℕ = 0x2D ∷ rest in
      rw (parts rest, take-append-add front all 1, drop-append-add front all 1) (append_assoc front (0x2D ∷ []) (0x32 ∷ 0x30 ∷ rest))

  long_by_six : length (name_part 1 rest) ≡ 6 → has_long_date (front ++ (0x2D ∷ 0x32 ∷ 0x30 ∷ rest)) ≡ true
  unfolding has_long_date
  long_by_six six = rw (long_parts front rest parts, onto_first 0x32 (onto 0x30 (fields 0x2D rest)), onto_first 0x30 (fields 0x2D rest), six)

  not_long_by_six : length (name_part 1 rest) ≡ 6 → has_long_date (front ++ (0x2D ∷ rest)) ≡ false
  unfolding has_long_date
  not_long_by_six six = rw (parts rest, six)

pub long_of_six : (title : List ℕ) → length (name_part 2 title) ≡ 6 → short_title (long_title title) ≡ short_title title
long_of_six title six = go (parted title (omega (arith, six))) six
  where
    go : Parted title → length (name_part 2 title) ≡ 6 → short_title (long_title title) ≡ short_title title
    go at six =
        let short = at.front ++ (0x2D ∷ at.rest) in
        let six_there = rw (second_of at) at six in
        rw (at.whole, lengthened at.front at.rest at.parts, long_shortened at.front at.rest at.parts (long_by_six at.front at.rest at.parts six_there))
        (sym (as_it_is short (not_long_by_six at.front at.rest at.parts six_there)))

pub long_means_short : LongMeansShort
unfolding title_of title_questions
long_means_short title six = let same = long_of_six title six in (rw same refl, rw same refl)

-- a title is one where its name passes and its ending names a money
pub passes : {A : Type 0} (judged : Result A Refusal) (ok passed : Bool) → ok ≡ is_ok judged → ok ≡ passed → is_passed (verdict_of judged) ≡ passed
unfolding is_passed
passes (Ok a) ok passed is told = sym is ∙ told
passes (Err refusal) ok passed is told = sym is ∙ told

abbrev is_ending : List ℕ → Bool
is_ending ending = same ending (bytes "-K") || same ending (bytes "-O")

ends : (ending : List ℕ) → is_some (ending_money ending) ≡ is_ending ending
unfolding ending_money
ends ending = go (same ending (bytes "-K")) (same ending (bytes "-O"))
  where
    go : (k o : Bool) → is_some (cond k (Some K) (cond o (Some O) None)) ≡ (k || o)
    go true o = refl
    go false true = refl
    go false false = refl

ends_in : (ending : List ℕ) → unwrap_or (ending_money ending) O ≡ cond (same ending (bytes "-K")) K O
unfolding ending_money
ends_in ending = go (same ending (bytes "-K")) (same ending (bytes "-O"))
  where
    go : (k o : Bool) → unwrap_or (cond k (Some K) (cond o (Some O) None)) O ≡ cond k K O
    go true o = refl
    go false true = refl
    go false false = refl

module _ (title : List ℕ) {name date : List ℕ} (dated : Dated name date (title_name title)) {money : Option Money} (ending : money ≡ ending_money (title_ending title)) where
  module _ {verdict : Verdict} (named : verdict ≡ first_no (dated_questions name date)) {titled : Bool} (is : titled ≡ (is_passed verdict && is_some money)) where
    asked_alike : titled ≡ (is_passed (first_no (name_questions (title_name title))) && is_ending (title_ending title))
    asked_alike = is ∙ rw (named, same_verdict dated, ending, ends (title_ending title))

    pub no_title : titled ≡ false → Refused 11 ≡ first_no (title_questions title)
    unfolding title_questions
    no_title untitled = sym (asked_no 11 _ _ _ (sym asked_alike ∙ untitled))

    pub a_title : titled ≡ true → Passed ≡ first_no (title_questions title)
    unfolding title_questions
    a_title titled = sym (asked_yes 11 _ _ _ (sym asked_alike ∙ titled) ∙ asked_none _ _)

  pub said_is : {one : Money} {parts : Name} → one ≡ unwrap_or money O → parts ≡ dated_name name date → ◌≡◌ {A = Title} (record { name = parts; money = one }) (title_of title)
  unfolding title_of
  said_is is are = rw (is, ending, ends_in (title_ending title), are, same_name dated)

-- so it is none where its ending names no money or its name is refused, and one where neither is so
module _ (title : List ℕ) where
  pub no_money : None ≡ ending_money (title_ending title) → Refused 11 ≡ first_no (title_questions title)
  unfolding title_questions
  no_money none =
      let nowhere : is_ending (title_ending title) ≡ false = sym (ends (title_ending title)) ∙ ap is_some (sym none) in
      sym (asked_no 11 _ _ _ (rw nowhere (second_no (is_passed (first_no (name_questions (title_name title)))) false refl)))

  module _ {name date : List ℕ} (dated : Dated name date (title_name title)) where
    pub no_name : (n : ℕ) → Refused n ≡ first_no (dated_questions name date) → Refused 11 ≡ first_no (title_questions title)
    unfolding is_passed
    no_name n refused = no_title title dated refl refused refl refl

    pub title_is : (money : Money) (parts : Name) → Some money ≡ ending_money (title_ending title) → Passed ≡ first_no (dated_questions name date)
        → parts ≡ dated_name name date → (Passed ≡ first_no (title_questions title)) × (record { name = parts; money = money } ≡ title_of title)
    unfolding is_passed
    title_is money parts named passed is = (a_title title dated named passed refl refl, said_is title dated named refl is)
