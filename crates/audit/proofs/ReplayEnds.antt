-- How a replay ends: before the first call, where one of the three questions is answered no, or after the last.
-- Assumes nothing.
use mathlib.Core.Path.{◌≡◌, refl, sym, ap, ◌∙◌}
use mathlib.Core.Bool.{true, false, false≢true}
use mathlib.Core.List.{List, []}
use mathlib.Core.Option.{some}
use Prim.Native.Nat.{ℕ, ◌≤◌, ◌<◌}
use native.Mathlib.Omega.{arith}
use borrow.Author.Tests.{eqb-true, eq-eqb, leb-true}
use lib.Dec.{leb, eqb}
use lib.ListN.{length, drop}
use Rattle.std.specs.Prelude.{Ok, Err}
use Rattle.text.proofs.Branches.{and_left, and_right, both_yes, either_way, told}
use Rattle.memory.specs.Read.{shipments_from, shipments_in, book_in, sound_in, read_book}
use Rattle.sound.proofs.ReadLaws.{shipments_many}
use Rattle.book.specs.declared.reply.Reply.{Reply}
use Rattle.audit.specs.declared.refusal.NotReplayed.TheVariants.{NotEncoded, TooFewAnswers, NotEmpty}
use Rattle.audit.specs.Journal.{entries_fit, count_in, journal_fits}
use Rattle.audit.specs.Replay.{Replayed, empty_in, Replayable, Replays}

-- memory that holds no shipment is an empty book, and nothing else is
module _ (m : List ℕ) where
  pub empty_is_read : empty_in m ≡ true → read_book m ≡ some []
  unfolding empty_in read_book book_in shipments_from
  empty_is_read empty =
      let none = eqb-true (shipments_in m) 0 (and_right (sound_in m) (eqb (shipments_in m) 0) empty) in
      rw (and_left (sound_in m) (eqb (shipments_in m) 0) empty, none)

  none_in : book_in m ≡ [] → shipments_in m ≡ 0
  unfolding book_in
  none_in book = sym (shipments_many m 0 0 (shipments_in m)) ∙ ap length book

  pub not_empty : empty_in m ≡ false → read_book m ≡ some [] → ⊥
  unfolding empty_in read_book
  not_empty other read = either_way (sound_in m)
      (λ sound.
      let book : book_in m ≡ [] = let held = rw sound at read in cc in
      false≢true (sym other ∙ both_yes (sound_in m) (eqb (shipments_in m) 0) sound (eq-eqb (shipments_in m) 0 (none_in book))))
      (λ unsound. let held = rw unsound at read in let never : ◌≡◌ {A = ℕ} 0 1 = cc in omega arith)

pub counted : (journal : List ℕ) → journal_fits journal ≡ true → 8 ≤ length journal
unfolding journal_fits
counted journal fits = leb-true 8 (length journal) (and_left (leb 8 (length journal)) (entries_fit (count_in journal) (drop 8 journal)) fits)

-- what an end of another form would say
otherwise : {A : Type 0} → ◌≡◌ {A = ℕ} 0 1 → A
otherwise never = absurd (omega arith)

module _ {start journal : List ℕ} {table : List Reply} where
  pub ends_not_encoded : journal_fits journal ≡ false → Replays start journal table (Err NotEncoded) start table
  ends_not_encoded why = record {
    not_encoded = λ r. (why, refl, refl);
    too_few = λ r. otherwise (cc);
    not_empty = λ r. otherwise (cc);
    replayed = λ n r. otherwise (cc);
  }

  module _ (encoded : journal_fits journal ≡ true) where
    pub ends_too_few : length table < count_in journal → Replays start journal table (Err TooFewAnswers) start table
    ends_too_few why = record {
      not_encoded = λ r. otherwise (cc);
      too_few = λ r. (encoded, why, refl, refl);
      not_empty = λ r. otherwise (cc);
      replayed = λ n r. otherwise (cc);
    }

    pub ends_not_empty : count_in journal ≤ length table → (read_book start ≡ some [] → ⊥) → Replays start journal table (Err NotEmpty) start table
    ends_not_empty enough why = record {
      not_encoded = λ r. otherwise (cc);
      too_few = λ r. otherwise (cc);
      not_empty = λ r. (encoded, enough, why, refl, refl);
      replayed = λ n r. otherwise (cc);
    }

  pub ends_replayed : {after : List ℕ} {table' : List Reply} {n : ℕ} → Replayable start journal table n → Replayed start journal table after table'
      → Replays start journal table (Ok n) after table'
  ends_replayed {n = n} may all = record {
    not_encoded = λ r. otherwise (cc);
    too_few = λ r. otherwise (cc);
    not_empty = λ r. otherwise (cc);
    replayed = λ m r. (let same : m ≡ n = cc in rw same may, all);
  }

-- by which a replay ends
pub ruleset ends = (told, empty_is_read, not_empty, counted, ends_not_encoded, ends_too_few, ends_not_empty, ends_replayed)
