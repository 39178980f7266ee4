-- A journal replayed: every call of it made in lent memory, and every answer told in a lent table, a reply to a call.
use Rattle.std.specs.Prelude.{◌≡◌, Bool, true, false, ◌&&◌, List, [], ◌∷◌, ◌++◌, ℕ, ◌≤◌, ◌<◌, eqb, length, drop, Result, Ok, Err}
use Rattle.std.proofs.Math.Option.{some}
use Rattle.memory.specs.Read.{shipments_in, sound_in, read_book}
use Rattle.book.specs.Reply.{reply_of}
use Rattle.book.specs.declared.reply.Reply.{Reply}
use Rattle.audit.specs.Listed.{Made, Chain, memory_at, calls_of, Listed}
use Rattle.audit.specs.Journal.{count_in, journal_fits, calls_in}
use Rattle.audit.specs.declared.refusal.NotReplayed.{NotReplayed}
use Rattle.audit.specs.declared.refusal.NotReplayed.TheVariants.{NotEncoded, TooFewAnswers, NotEmpty}

abbrev pub all_replies : List Made → List Reply
all_replies [] = []
all_replies (made ∷ later) = reply_of made.answer ∷ all_replies later

-- A journal: its calls, each got the memory as the last one left it and did what its contract says, so that demand 3 holds of them; the table has their
-- answers in front and is as it was behind.
pub record Replayed (start journal : List ℕ) (table : List Reply) (after : List ℕ) (table' : List Reply) : Type 0 where
  pub made : List Made
  pub calls : calls_of made ≡ calls_in journal
  pub chain : Chain start made
  pub listed : Listed start made
  pub memory : after ≡ memory_at start made (length made)
  pub answers : table' ≡ all_replies made ++ drop (length made) table

-- Memory that is a sound book without shipments.
unfoldable pub empty_in : List ℕ → Bool
empty_in m = sound_in m && eqb (shipments_in m) 0

-- What is asked before the first call: of the journal, of the table, of the memory.
pub record Replayable (start journal : List ℕ) (table : List Reply) (n : ℕ) : Type 0 where
  pub encoded : journal_fits journal ≡ true
  pub counted : n ≡ count_in journal
  pub enough : n ≤ length table
  pub empty : read_book start ≡ some []

-- How a replay ends: every call was made, or none, and then nothing was written.
pub record Replays (start journal : List ℕ) (table : List Reply) (r : Result ℕ NotReplayed) (after : List ℕ) (table' : List Reply) : Type 0 where
  pub not_encoded : r ≡ Err NotEncoded → (journal_fits journal ≡ false) × (after ≡ start) × (table' ≡ table)
  pub too_few : r ≡ Err TooFewAnswers → (journal_fits journal ≡ true) × (length table < count_in journal) × (after ≡ start) × (table' ≡ table)
  pub not_empty : r ≡ Err NotEmpty
      → (journal_fits journal ≡ true) × (count_in journal ≤ length table) × (read_book start ≡ some [] → ⊥) × (after ≡ start) × (table' ≡ table)
  pub replayed : (n : ℕ) → r ≡ Ok n → Replayable start journal table n × Replayed start journal table after table'
