-- `memory::enter::enter_head` stores the head made for it, which is read back.
use mathlib.Core.Path.{◌≡◌}
use lib.ListN.{length}
use Rattle.memory.proofs.EnterLaws.{head_entered}
use borrow.Author.Rules.{rules}
use Rattle.memory.proofs.enter.enter_head.Goals as goal
use Rattle.memory.proofs.enter.enter_head.Goals.{Start}

long : (c : Start) → length c.args.name.ident.bytes ≡ 17
long c = search rules

pub returns : goal.returns
returns c =
    let name = c.args.name in
    head_entered name c.args.terms c.args.n (long (goal.at.returns c).Start) c.args.i c.args.memory.now _ c.requires.2
    c.requires.3 c.requires.4 (rw c.head_of-head.ensures at c.store_head.ensures)
