-- Demand 3, whole: its parts, each proved in its own file, in one record over any list of calls from the empty book.
-- Assumes nothing.
use mathlib.Core.Path.{◌≡◌}
use mathlib.Core.Bool.{true}
use mathlib.Core.List.{List, [], ◌∷◌}
use Rattle.model.specs.Calls.{Call}
use Rattle.model.specs.Book.{Book, step}
use Rattle.model.specs.Sound.{sound}
use Rattle.model.specs.Demand.{AtCall, AtEachCall, Demand3}
use Rattle.model.proofs.StaysSound.{stays_sound}
use Rattle.model.proofs.StepsConserve.{book_kept, step_fair}
use Rattle.model.proofs.Conserved.{conserves, never_below_zero}
use Rattle.model.proofs.NeverTwice.{never_twice}
use Rattle.model.proofs.Entire.{entire, counted, emptied}

at_call : (book : Book) → sound book ≡ true → (call : Call) → AtCall book call
at_call book h call =
    let fair = step_fair book (book_kept book h) call in
    record {
      refused = fair.refused;
      others = fair.others;
      entire = entire book call;
      counted = counted book call;
      emptied = emptied book call;
    }

at_each_call : (book : Book) → sound book ≡ true → (calls : List Call) → AtEachCall book calls
at_each_call book h [] = tt
at_each_call book h (call ∷ calls) = (at_call book h call, at_each_call (step book call).book (stays_sound.keeps book call h) calls)

pub demand3 : (calls : List Call) → Demand3 calls
demand3 calls = record {
  conserves = conserves calls;
  never_below_zero = never_below_zero calls;
  never_twice = never_twice calls;
  at_each_call = at_each_call [] stays_sound.begins calls;
}
