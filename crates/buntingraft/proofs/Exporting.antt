-- A return that an export makes is the one of its numbers, or is refused where they are none.
-- Assumes nothing.
use mathlib.Core.Path.{◌≡◌, refl}
use mathlib.Core.Bool.{Bool, true, false, true≢false, false≢true}
use mathlib.Core.List.{List}
use Prim.Native.Nat.{ℕ}
use Rattle.money.specs.declared.Money.{Money}
use Rattle.epe.specs.declared.ident.Ident.{Ident}
use Rattle.model.specs.Calls.{Return, On}
use Rattle.model.specs.declared.Route.{Route}
use Rattle.memory.specs.Read.{read_book}
use Rattle.book.specs.NoReturn.{no_return}
use Rattle.book.specs.Numbers.{are_known, route_of, money_of}
use Rattle.book.specs.Reply.{refused_with, Plays}
use Rattle.book.specs.declared.reply.Reply.{Reply}
use Rattle.book.proofs.Telling.{plays_same}
use Rattle.buntingraft.specs.Exports.{Returns}

module _ {before : List ℕ} {ident : Ident} {reply : Reply} {route money : ℕ} {known : Bool} (is_known : known ≡ are_known route money) where
  pub returned : {by : Route} {of : Money} {after : List ℕ} → known ≡ true → by ≡ route_of route → of ≡ money_of money
      → Plays before (On ident (Return by of)) reply after → Returns before ident route money reply after
  returned h by_is of_is played = record {
    plays = λ known. plays_same (rw (by_is, of_is)) played;
    refused = λ unknown. absurd (false≢true (rw (is_known, unknown) at h));
  }

  pub not_returned : {same : Ident} {number : ℕ} → known ≡ false → same ≡ ident → number ≡ no_return same (read_book before) → reply ≡ refused_with number
      → Returns before ident route money reply before
  not_returned h same_is number_is is_reply = record {
    plays = λ known. absurd (true≢false (rw (is_known, known) at h));
    refused = λ unknown. (rw (← same_is, ← number_is) is_reply, refl);
  }
