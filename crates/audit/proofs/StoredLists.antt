-- Demand 3 of a list in which books are stored and loaded too: memory that a load filled holds the book that was stored, so that each call finds the book
-- that the list without the pairs has there.
-- Assumes nothing.
use mathlib.Core.Path.{◌≡◌, refl, sym, ap, ◌∙◌}
use mathlib.Core.List.{List, [], ◌∷◌, ◌++◌, map}
use mathlib.Core.Option.{some, none}
use Prim.Native.Nat.{ℕ, zero, suc, ◌+◌, ◌≤◌}
use native.Mathlib.Omega.{arith}
use borrow.Author.Tests.{leb-true, leb-false}
use lib.Dec.{leb}
use lib.ListN.{length, take, drop}
use Rattle.std.specs.Prelude.{Result, Ok, Err}
use Rattle.text.proofs.Branches.{either_way}
use Rattle.money.specs.declared.Money.{Money}
use Rattle.epe.specs.declared.ident.Ident.{Ident}
use Rattle.epe.proofs.QuestionLaws.{asked_either}
use Rattle.write.specs.Written.{Wrote, leaving, wrote, written_after}
use Rattle.write.proofs.Answers.{alone_written}
use Rattle.model.specs.Calls.{Call}
use Rattle.model.specs.Book.{Book, step}
use Rattle.model.specs.Demand.{Event, run, events, times_left, AtEachCall}
use Rattle.model.proofs.Demand3.{demand3}
use Rattle.model.proofs.Divided.{always_divided}
use Rattle.memory.specs.Layout.{size}
use Rattle.memory.specs.Read.{book_in, sound_in, read_book}
use Rattle.book.specs.Does.{Does}
use Rattle.store.specs.Stored.{stored, stored_into, Storable}
use Rattle.store.specs.Unstored.{Stores}
use Rattle.store.proofs.Backs.{stored_apart}
use Rattle.store.proofs.SoundMemory.{long_enough, sound_storable}
use Rattle.audit.specs.Listed.{Made, event_of, calls_of, AnsweredAsRead}
use Rattle.audit.specs.StoredAndLoaded.{Reloaded, Link, Called, Carried, ChainWithPairs, without, memory_at_point, calls_before, called_between}
use Rattle.audit.specs.StoredAndLoaded.{times_left_with_pairs, AtEachLink, ListedWithPairsFromEmpty, MovesAsWithout}
use Rattle.audit.proofs.NeverUnread.{never_10, never_900}
use Rattle.audit.proofs.Listing.{left, answered, leaves_alike, at_made, follows, points, answers}

-- the book in sound memory can be stored
holds_sound : (m : List ℕ) (book : Book) → read_book m ≡ some book → (size ≤ length m) × Storable book
unfolding read_book
holds_sound m book held =
    either_way (sound_in m)
    (λ yes_sound. (long_enough m yes_sound, let same : book_in m ≡ book = some_same (rw yes_sound at held) in rw (sym same) (sound_storable m yes_sound)))
    (λ unsound. absurd (none_some (rw unsound at held)))
  where
    some_same : {a b : Book} → some a ≡ some b → a ≡ b
    some_same h = cc

    none_some : {b : Book} → none ≡ some b → ⊥
    none_some h = let never : ◌≡◌ {A = ℕ} 0 1 = cc in absurd (omega arith)

-- the bytes that an accepted store answers are the book's
front : (a b : List ℕ) → take (length a) (a ++ b) ≡ a
front [] b = refl
front (x ∷ a) b = ap (λ (l : List ℕ). x ∷ l) (front a b)

store_answers : (text output : List ℕ) (n : ℕ) (after : List ℕ) → record { answer = Ok n; output = after } ≡ written_after [] text output → text ≡ take n after
unfolding written_after
store_answers text output n after =
    asked_either (λ (x : Wrote). record { answer = Ok n; output = after } ≡ x → text ≡ take n after) _ (leaving output) (wrote text output)
    (λ number refused. let told = ap (λ (x : Wrote). x.answer) refused in let never : ◌≡◌ {A = ℕ} 0 1 = cc in absurd (omega arith))
    (λ yes accepted. by accepted)
  where
    by : record { answer = Ok n; output = after } ≡ wrote text output → text ≡ take n after
    by accepted =
        let told = ap (λ (x : Wrote). x.answer) accepted in
        let long : n ≡ length text = cc in
        let all : after ≡ text ++ drop (length text) output = ap (λ (x : Wrote). x.output) accepted in
        rw (long, all) (sym (front text (drop (length text) output)))

-- memory that was loaded holds the book that was stored
pub reloaded_holds : {book : Book} {before after : List ℕ} → read_book before ≡ some book → Reloaded before after → read_book after ≡ some book
unfolding stored_into
reloaded_holds {book} {before} {after} held pair =
    let bytes = store_answers (stored book) pair.output pair.n pair.stored (rw held at pair.store_accepted) in
    let stores : Stores (take pair.n pair.stored) book = record { storable = (holds_sound before book held).1; is_stored = bytes } in
    either_way (leb size (length pair.lent))
    (λ enough. (pair.load_accepted.loaded book stores (leb-true size (length pair.lent) enough)).1)
    (λ short. absurd (otherwise (pair.load_accepted.too_short book stores (leb-false size (length pair.lent) short))))
  where
    otherwise : ◌≡◌ {A = Result (Unit {0}) ℕ} (Ok tt) (Err 30) → ⊥
    otherwise h = let never : ◌≡◌ {A = ℕ} 0 1 = cc in absurd (omega arith)

-- and there is such a pair of every book in memory: stored into an output that is long enough, and loaded over itself
pub is_reloaded : (m : List ℕ) (book : Book) → read_book m ≡ some book → Reloaded m m
unfolding stored_into
is_reloaded m book held =
    let text = stored book in
    let sound_there = holds_sound m book held in
    let bytes = front text (drop (length text) text) in
    record {
      output = text;
      n = length text;
      stored = text ++ drop (length text) text;
      lent = m;
      store_accepted = rw held (alone_written text text (omega arith) refl refl);
      load_accepted = rw bytes record {
        loaded = λ other stores enough. (refl, held ∙ ap (λ (b : Book). some b) (stored_apart book other sound_there.1 stores.storable (sym stores.is_stored)));
        too_short = λ other stores short. absurd (omega (arith, sound_there.0));
        not_stored = λ nothing. absurd (nothing book (record { storable = sound_there.1; is_stored = refl }));
        refused = λ number never. refl;
        behind = λ j far. refl;
        as_long = refl;
      };
    }

-- a chain of calls and pairs, and the book that each of them found
data FollowsWithPairs : Book → List ℕ → List Link → Type 0 where
  ends : {book : Book} {start : List ℕ} → read_book start ≡ some book → FollowsWithPairs book start []
  goes : {book : Book} {start : List ℕ} {made : Made} {later : List Link} → read_book start ≡ some book
      → Does start made.call made.answer made.memory → FollowsWithPairs (step book made.call).book made.memory later
      → FollowsWithPairs book start (Called made ∷ later)
  stays : {book : Book} {start memory : List ℕ} {later : List Link} → read_book start ≡ some book → read_book memory ≡ some book
      → FollowsWithPairs book memory later → FollowsWithPairs book start (Carried memory ∷ later)

follows_with_pairs : (book : Book) (start : List ℕ) (list : List Link) → read_book start ≡ some book → ChainWithPairs start list → FollowsWithPairs book start list
follows_with_pairs book start [] held chain = ends held
follows_with_pairs book start (Called made ∷ later) held chain =
    goes held chain.0 (follows_with_pairs (step book made.call).book made.memory later (left held chain.0) chain.1)
follows_with_pairs book start (Carried memory ∷ later) held chain =
    let same = reloaded_holds held chain.0 in
    stays held same (follows_with_pairs book memory later same chain.1)

points_with_pairs : {book : Book} {start : List ℕ} {list : List Link} → FollowsWithPairs book start list → (p : ℕ)
    → read_book (memory_at_point start list p) ≡ some (run book (take (calls_before list p) (calls_of (without list))))
points_with_pairs (ends held) zero = held
points_with_pairs (ends held) (suc p) = held
points_with_pairs (goes held does later) zero = held
points_with_pairs (goes held does later) (suc p) = points_with_pairs later p
points_with_pairs (stays held same later) zero = held
points_with_pairs (stays held same later) (suc p) = points_with_pairs later p

answers_with_pairs : {book : Book} {start : List ℕ} {list : List Link} → FollowsWithPairs book start list
    → map event_of (without list) ≡ events book (calls_of (without list))
answers_with_pairs (ends held) = refl
answers_with_pairs (goes held does later) = rw (answered held does, answers_with_pairs later)
answers_with_pairs (stays held same later) = answers_with_pairs later

times_left_with_pairs_lem : {book : Book} {start : List ℕ} {list : List Link} → FollowsWithPairs book start list → (money : Money) (ident : Ident) (j : ℕ)
    → times_left_with_pairs money ident j start list ≡ times_left money ident j book (calls_of (without list))
times_left_with_pairs_lem (ends held) money ident j = refl
times_left_with_pairs_lem (goes held does later) money ident j = rw (leaves_alike held does money ident j, times_left_with_pairs_lem later money ident j)
times_left_with_pairs_lem (stays held same later) money ident j = times_left_with_pairs_lem later money ident j

at_each_with_pairs : {book : Book} {start : List ℕ} {list : List Link} → FollowsWithPairs book start list → AtEachCall book (calls_of (without list))
    → AtEachLink start list
at_each_with_pairs (ends held) at = tt
at_each_with_pairs (goes held does later) at = (at_made held does at.0, at_each_with_pairs later at.1)
at_each_with_pairs (stays held same later) at = (same ∙ sym held, at_each_with_pairs later at)

as_read_with_pairs : {book : Book} {start : List ℕ} {list : List Link} → FollowsWithPairs book start list → AnsweredAsRead (without list)
as_read_with_pairs (ends held) = tt
as_read_with_pairs (goes {book} {made = one} held does later) =
    let same = sym (answered held does) in
    (λ other unread. never_10 book one.call other (same ∙ unread), (λ own unread. never_900 book one.call own (same ∙ unread), as_read_with_pairs later))
as_read_with_pairs (stays held same later) = as_read_with_pairs later

-- the calls between two points are those of the list without the pairs, between as many calls
calls_between : (list : List Link) (p n : ℕ)
    → take (length (without (take n (drop p list)))) (drop (calls_before list p) (map event_of (without list))) ≡ called_between list p n
calls_between [] zero zero = refl
calls_between [] zero (suc n) = refl
calls_between [] (suc p) zero = refl
calls_between [] (suc p) (suc n) = refl
calls_between (Called made ∷ later) zero zero = refl
calls_between (Called made ∷ later) zero (suc n) = ap (λ (l : List Event). event_of made ∷ l) (calls_between later zero n)
calls_between (Called made ∷ later) (suc p) n = calls_between later p n
calls_between (Carried memory ∷ later) zero zero = refl
calls_between (Carried memory ∷ later) zero (suc n) = calls_between later zero n
calls_between (Carried memory ∷ later) (suc p) n = calls_between later p n

calls_then : (list : List Link) (p n : ℕ) → calls_before list (p + n) ≡ calls_before list p + length (without (take n (drop p list)))
calls_then list zero n = let place : 0 + n ≡ n = omega arith in rw place (omega arith)
calls_then [] (suc p) n = let place : suc p + n ≡ suc (p + n) = omega arith in rw place (none_called n)
  where
    none_called : (n : ℕ) → 0 ≡ 0 + length (without (take n []))
    none_called zero = refl
    none_called (suc n) = refl
calls_then (Called made ∷ later) (suc p) n =
    let place : suc p + n ≡ suc (p + n) = omega arith in
    let rest = calls_then later p n in
    rw place (omega arith)
calls_then (Carried memory ∷ later) (suc p) n = let place : suc p + n ≡ suc (p + n) = omega arith in rw place (calls_then later p n)

pub listed_with_pairs : ListedWithPairsFromEmpty
listed_with_pairs start list held chain =
    let demand = demand3 (calls_of (without list)) in
    let calls = follows_with_pairs [] start list held chain in
    let at = points_with_pairs calls in
    record {
      books = at;
      answers = answers_with_pairs calls;
      conserves = λ p n ident money.
          let many = length (without (take n (drop p list))) in
          rw (at p, at (p + n), calls_then list p n, ← calls_between list p n, answers_with_pairs calls) (demand.conserves (calls_before list p) many ident money);
      never_below_zero = λ p ident money. rw (at p) (demand.never_below_zero (calls_before list p) ident money);
      never_twice = λ money ident j. rw (times_left_with_pairs_lem calls money ident j) (demand.never_twice money ident j);
      at_each_link = at_each_with_pairs calls demand.at_each_call;
      divided = λ p. rw (at p) (always_divided (calls_of (without list)) (calls_before list p));
      never_unread = as_read_with_pairs calls;
    }

pub moves_as_without : MovesAsWithout
moves_as_without book start list alone made held held_alone chain chain_alone same =
    let with_pairs = follows_with_pairs book start list held chain in
    let calls = follows book alone made held_alone chain_alone in
    record {
      answers = answers_with_pairs with_pairs ∙ sym (ap (λ (l : List Call). events book l) same) ∙ sym (answers calls);
      books = λ p.
          points_with_pairs with_pairs p
          ∙ sym (ap (λ (l : List Call). some (run book (take (calls_before list p) l))) same)
          ∙ sym (points calls (calls_before list p));
    }
