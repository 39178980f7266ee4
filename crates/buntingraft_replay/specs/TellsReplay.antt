-- What the export of the replay ensures, and how a replay ended in three numbers.
use Rattle.std.specs.Prelude.{◌≡◌, List, ℕ, Result, Ok, Err}
use Rattle.book.specs.Reply.{done_with}
use Rattle.book.specs.declared.reply.Reply.{Reply}
use Rattle.audit.specs.Replay.{Replays}
use Rattle.audit.specs.Refusal.{number_of}
use Rattle.audit.specs.declared.refusal.NotReplayed.{NotReplayed}

-- A replay answers the number of its calls. Where none was made the status is 3, and the number says why: 1 the journal is not whole entries, 2 the
-- table has fewer places than the journal has entries, 3 the memory holds no empty book. The book and the table are as `Replays` has them.
abbrev pub not_replayed : ℕ → Reply
not_replayed number = record { status = 3; first = number; second = 0 }

abbrev pub reply_to_replay : Result ℕ NotReplayed → Reply
reply_to_replay (Ok calls) = done_with calls 0
reply_to_replay (Err refusal) = not_replayed (number_of refusal)

pub record TellsReplay (book journal : List ℕ) (table : List Reply) (reply : Reply) (book' : List ℕ) (table' : List Reply) : Type 0 where
  pub ending : Result ℕ NotReplayed
  pub replays : Replays book journal table ending book' table'
  pub is_reply : reply ≡ reply_to_replay ending
