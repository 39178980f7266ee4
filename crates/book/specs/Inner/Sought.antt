-- A call that looks for its shipment, and what it promises.
use Rattle.std.specs.Prelude.{◌≡◌, Bool, List, ℕ}
use Rattle.model.specs.Shipment.{Shipment}
use Rattle.model.specs.Calls.{Call, Answer, Refused, Outcome}
use Rattle.model.specs.Book.{Book, on_first, step}
use Rattle.model.specs.declared.Row.{Row}
use Rattle.memory.specs.Heads.{shipment_in}
use Rattle.book.specs.Does.{unreadable, Does}

-- A call that acts on the first shipment that passes a test, which its head decides.
pub record Seeks (is : List ℕ → Bool) (does : Shipment → Outcome) (call : Call) : Type 0 where
  pub called : Shipment → Bool
  pub by_head : (head : List ℕ) (rows : List Row) → called (shipment_in head rows) ≡ is head
  pub steps : (book : Book) → step book call ≡ on_first called does book
  pub unread : unreadable call ≡ Refused 10

-- What every such call promises, answered so.
pub record DoesSought (is : List ℕ → Bool) (does : Shipment → Outcome) (before : List ℕ) (answer : Answer) (after : List ℕ) : Type 0 where
  pub by_call : (call : Call) → Seeks is does call → Does before call answer after
