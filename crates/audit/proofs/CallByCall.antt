-- A journal replayed call by call: what holds before the first, after each, and after the last.
-- Assumes nothing.
use mathlib.Core.Path.{◌≡◌, refl, sym, ap, ◌∙◌}
use mathlib.Core.Bool.{true, ◌&&◌}
use mathlib.Core.List.{List, [], ◌∷◌, ◌++◌, append-nil}
use Prim.Native.Nat.{ℕ, zero, suc, ◌+◌, ◌-◌, ◌≤◌, ◌<◌}
use native.Mathlib.Omega.{arith}
use lib.Dec.{leb}
use lib.ListN.{length, drop, take, set, drop_of_length-le, length-append, length-drop}
use lib.Seq.{drop-drop, length-take-le}
use Rattle.text.proofs.Branches.{and_left, and_right}
use Rattle.model.specs.Calls.{Call}
use Rattle.book.specs.Does.{Does}
use Rattle.book.specs.Reply.{reply_of, Plays}
use Rattle.book.specs.declared.reply.Reply.{Reply}
use Rattle.audit.specs.Journal.{call_in, entry_length, entry_fits, entries_fit, calls_from, count_in, journal_fits, calls_in}
use Rattle.audit.specs.Listed.{Made, Chain, memory_at, calls_of}
use Rattle.audit.specs.Replay.{all_replies, Replayed, Replayable}
use Rattle.audit.proofs.Listing.{listed}

-- a call that was made
abbrev pub played_as : {memory memory' : List ℕ} {call : Call} {reply : Reply} → Plays memory call reply memory' → Made
played_as {memory' = memory'} {call = call} played = record { call = call; answer = played.answer; memory = memory' }

-- one more call behind those made
chain_more : (start : List ℕ) (made : List Made) (one : Made) → Chain start made
    → Does (memory_at start made (length made)) one.call one.answer one.memory → Chain start (made ++ (one ∷ []))
chain_more start [] one chain does = (does, tt)
chain_more start (first ∷ later) one chain does = (chain.0, chain_more first.memory later one chain.1 does)

memory_more : (start : List ℕ) (made : List Made) (one : Made)
    → memory_at start (made ++ (one ∷ [])) (length (made ++ (one ∷ []))) ≡ one.memory
memory_more start [] one = refl
memory_more start (first ∷ later) one = memory_more first.memory later one

calls_more : (made : List Made) (one : Made) (left : List Call) → calls_of (made ++ (one ∷ [])) ++ left ≡ calls_of made ++ (one.call ∷ left)
calls_more [] one left = refl
calls_more (first ∷ later) one left = ap (λ calls. first.call ∷ calls) (calls_more later one left)

reply_more : (made : List Made) (one : Made) (behind : List Reply)
    → all_replies (made ++ (one ∷ [])) ++ behind ≡ all_replies made ++ (reply_of one.answer ∷ behind)
reply_more [] one behind = refl
reply_more (first ∷ later) one behind = ap (λ told. reply_of first.answer ∷ told) (reply_more later one behind)

reply_many : (made : List Made) → length (all_replies made) ≡ length made
reply_many [] = refl
reply_many (first ∷ later) = ap suc (reply_many later)

-- one place set behind those that are told
set_behind : (told table : List Reply) (i : ℕ) (one : Reply) → length told ≡ i → i < length table
    → set (told ++ drop i table) i one ≡ told ++ (one ∷ drop (i + 1) table)
set_behind told table i one many room =
    let left : 0 < length (drop i table) = omega (arith, length-drop i table) in
    by told i many (drop i table) left ∙ ap (λ behind. told ++ (one ∷ behind)) (drop-drop 1 i table)
  where
    by : (told : List Reply) (i : ℕ) → length told ≡ i → (behind : List Reply) → 0 < length behind
        → set (told ++ behind) i one ≡ told ++ (one ∷ drop 1 behind)
    by [] zero many [] left = absurd (omega arith)
    by [] zero many (first ∷ behind) left = refl
    by [] (suc i) many behind left = absurd (omega arith)
    by (first ∷ told) zero many behind left = absurd (omega arith)
    by (first ∷ told) (suc i) many behind left = ap (λ all. first ∷ all) (by told i (omega arith) behind left)

-- So far: the calls made, the entries left from a place on, and the table told up to i.
pub record SoFar (start journal : List ℕ) (table : List Reply) (made : List Made) (memory : List ℕ) (answers : List Reply) (at i n : ℕ) : Type 0 where
  pub chain : Chain start made
  pub ends : memory ≡ memory_at start made (length made)
  pub calls : calls_of made ++ calls_from (n - i) (drop at journal) ≡ calls_in journal
  pub fits : entries_fit (n - i) (drop at journal) ≡ true
  pub place : i ≡ length made
  pub reply : answers ≡ all_replies made ++ drop i table
  pub room : n ≤ length table

module _ {start journal : List ℕ} {table : List Reply} {n : ℕ} (may : Replayable start journal table n) where
  pub starts : SoFar start journal (take n table) [] start (take n table) 8 0 n
  unfolding calls_in journal_fits
  starts = let all : n - 0 ≡ n = omega arith in record {
    chain = tt;
    ends = refl;
    calls = rw (all, may.counted);
    fits = rw (all, may.counted) (and_right (leb 8 (length journal)) (entries_fit (count_in journal) (drop 8 journal)) may.encoded);
    place = refl;
    reply = refl;
    room = omega (arith, length-take-le n table may.enough);
  }

  pub all_made : {made : List Made} {memory : List ℕ} {answers : List Reply} {at i : ℕ} → SoFar start journal (take n table) made memory answers at i n → i ≡ n
      → Replayed start journal table memory (answers ++ drop n table)
  unfolding calls_from
  all_made {made = made} {at = at} {i = i} so_far done =
      let none : n - i ≡ 0 = omega arith in
      let whole : calls_of made ++ calls_from 0 (drop at journal) ≡ calls_in journal = rw none at so_far.calls in
      let long = length-take-le n table may.enough in
      let nothing : drop i (take n table) ≡ [] = drop_of_length-le (take n table) (omega arith) in
      record {
        made = made;
        calls = sym (append-nil (calls_of made)) ∙ whole;
        chain = so_far.chain;
        listed = listed start made may.empty so_far.chain;
        memory = so_far.ends;
        answers =
            ap (λ told. told ++ drop n table) (rw nothing at so_far.reply ∙ append-nil (all_replies made))
            ∙ ap (λ k. all_replies made ++ drop k table) (sym done ∙ so_far.place);
      }

module _ {start journal : List ℕ} {table : List Reply} {made : List Made} {memory : List ℕ} {answers : List Reply} {at i n : ℕ}
    (so_far : SoFar start journal table made memory answers at i n) (below : i < n) where
  left : n - i ≡ suc (n - (i + 1))
  left = omega arith

  -- the entry that the code reads, how long it is, and the table after its answer is told
  module _ {entry : List ℕ} (entry_is : entry ≡ drop at journal) where
    rest : List ℕ
    rest = drop (entry_length entry) entry

    fits_here : (entry_fits entry && entries_fit (n - (i + 1)) rest) ≡ true
    unfolding rest entries_fit
    fits_here = rw entry_is (rw left at so_far.fits)

    pub entry_left : entry_fits entry ≡ true
    entry_left = and_left (entry_fits entry) (entries_fit (n - (i + 1)) rest) fits_here

    pub turns : {reply : Reply} {memory' : List ℕ} (played : Plays memory (call_in entry) reply memory')
        → SoFar start journal table (made ++ (played_as played ∷ [])) memory' (set answers i reply) (at + entry_length entry) (i + 1) n
    unfolding rest calls_from
    turns {reply} {memory'} played =
        let one : Made = played_as played in
        let next : rest ≡ drop (at + entry_length entry) journal = ap (λ bytes. drop (entry_length entry) bytes) entry_is ∙ drop-drop (entry_length entry) at journal in
        let many : length (all_replies made) ≡ i = reply_many made ∙ sym so_far.place in
        let there : i < length table = omega (arith, so_far.room) in
        let calls : calls_of made ++ (call_in entry ∷ calls_from (n - (i + 1)) rest) ≡ calls_in journal = rw entry_is (rw left at so_far.calls) in
        record {
          chain = chain_more start made one so_far.chain (rw so_far.ends at played.does);
          ends = sym (memory_more start made one);
          calls = rw (← next) (calls_more made one (calls_from (n - (i + 1)) rest) ∙ calls);
          fits = rw (← next) (and_right (entry_fits entry) (entries_fit (n - (i + 1)) rest) fits_here);
          place = omega (arith, so_far.place, length-append made (one ∷ []));
          reply =
              ap (λ answers. set answers i reply) so_far.reply
              ∙ set_behind (all_replies made) table i reply many there
              ∙ ap (λ (reply : Reply). all_replies made ++ (reply ∷ drop (i + 1) table)) played.is_reply
              ∙ sym (reply_more made one (drop (i + 1) table));
          room = so_far.room;
        }

-- Some calls were made so far, and where none is left the whole journal was.
pub record Going (start journal : List ℕ) (table : List Reply) (memory : List ℕ) (answers : List Reply) (at i n : ℕ) : Type 0 where
  pub made : List Made
  pub so_far : SoFar start journal (take n table) made memory answers at i n
  pub whole : i ≡ n → Replayed start journal table memory (answers ++ drop n table)

module _ {start journal : List ℕ} {table : List Reply} {n : ℕ} (may : Replayable start journal table n) where
  pub going_begun : Going start journal table start (take n table) 8 0 n
  going_begun = record { made = []; so_far = starts may; whole = all_made may (starts may) }

  pub going_on : {memory memory' : List ℕ} {answers : List Reply} {at i : ℕ} → Going start journal table memory answers at i n → i < length (take n table)
      → {entry : List ℕ} {reply : Reply} {long : ℕ} → entry ≡ drop at journal → Plays memory (call_in entry) reply memory' → long ≡ entry_length entry
      → Going start journal table memory' (set answers i reply) (at + long) (i + 1) n
  going_on {memory} {memory'} {answers} {at} {i} going below {entry} {reply} {long} entry_is played long_is =
      let below_all : i < n = omega (arith, below, length-take-le n table may.enough) in
      let next = turns going.so_far below_all entry_is played in
      let all : Going start journal table memory' (set answers i reply) (at + entry_length entry) (i + 1) n =
      record { made = going.made ++ (played_as played ∷ []); so_far = next; whole = all_made may next } in
      rw long_is all

-- the first of the entries that are left
pub first_fits : (many : ℕ) (entries : List ℕ) → 0 < many
    → entries_fit many entries ≡ (entry_fits entries && entries_fit (many - 1) (drop (entry_length entries) entries))
unfolding entries_fit
first_fits zero entries some = absurd (omega (arith, some))
first_fits (suc many) entries some = let less : suc many - 1 ≡ many = omega arith in rw less refl

-- by which calls are made one after the other
pub ruleset replaying = (going_begun, going_on, first_fits, length-take-le)
