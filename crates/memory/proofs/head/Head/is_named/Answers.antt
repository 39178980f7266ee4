-- `memory::head::Head::is_named` compares the bytes of the identifier, then its length, and the other parts.
use mathlib.Core.Path.{◌∙◌, ap}
use mathlib.Core.Bool.{◌&&◌}
use lib.Dec.{eqb}
use Rattle.std.proofs.Math.Bool.{and_comm}
use Rattle.text.specs.Bytes.{same}
use Rattle.epe.specs.Ident.{same_ident}
use Rattle.model.specs.Book.{same_name}
use Rattle.memory.proofs.head.Head.is_named.Goals as goal

pub returns : goal.returns
unfolding same_name same_ident
returns c =
    let name = c.args.name in
    let here = c.name.result in
    c.eq.ensures
    ∙ ap (λ t. t && (eqb name.date.0 here.date.0 && (eqb name.payment here.payment && eqb name.kind here.kind)))
    (and_comm (same name.ident.bytes here.ident.bytes) (eqb name.ident.len here.ident.len))
    ∙ ap (same_name name) c.name.ensures
