-- `book::refuse_return` looks at a shipment that was found.
use Rattle.acts.specs.Inner.Place.{called_in}
use Rattle.acts.proofs.PlaceInBook.{sits}
use Rattle.book.proofs.NoReturns.{refused_not_paired}
use Rattle.book.proofs.refuse_return.Goals as goal

pub at-requires : goal.at-requires
at-requires c = sits (called_in c.args.ident) c.in-Ok.ensures

pub returns-else-is_paired : goal.returns-else-is_paired
returns-else-is_paired c = refused_not_paired c.args.ident c.args.memory.now c.in-Ok.ensures _ c.at.ensures c.is_paired.ensures c.if-is_paired.false
