-- What code makes of bytes: the head of an entry at their start, and the entry. Only the contracts below the replay need these.
use Rattle.std.specs.Prelude.{◌≡◌, false, List, ℕ, ◌<◌, length, Option, Some, None}
use Rattle.audit.specs.Journal.{texts_start, entry_fits}
use Rattle.audit.specs.declared.journal.Head.{Head}
use Rattle.audit.specs.declared.journal.Entry.{Entry}

abbrev pub IsHead : List ℕ → Option Head → Type 0
IsHead bytes (Some head) = head.bytes.now ≡ bytes
IsHead bytes None = length bytes < texts_start bytes

abbrev pub IsEntry : List ℕ → Option Entry → Type 0
IsEntry bytes (Some entry) = entry.head.bytes.now ≡ bytes
IsEntry bytes None = entry_fits bytes ≡ false
