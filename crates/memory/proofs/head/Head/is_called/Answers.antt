-- `memory::head::Head::is_called` compares the bytes, then the length.
use mathlib.Core.Path.{◌∙◌, ap}
use lib.Dec.{eqb}
use Rattle.std.proofs.Math.Bool.{and_comm}
use Rattle.text.specs.Bytes.{same}
use Rattle.epe.specs.Ident.{same_ident}
use Rattle.memory.proofs.head.Head.is_called.Goals as goal

pub returns : goal.returns
unfolding same_ident
returns c =
    let found = c.ident.result in
    c.eq.ensures
    ∙ and_comm (same c.args.wanted.bytes found.bytes) (eqb c.args.wanted.len found.len)
    ∙ ap (same_ident c.args.wanted) c.ident.ensures
