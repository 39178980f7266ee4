-- `memory::head::Head::has_ident_in_form` is `ident_in_form`: the length, the text, then the zeros behind it.
use Rattle.text.proofs.Branches.{branches}
use Rattle.epe.specs.Ident.{ident_in_form}
use Rattle.memory.proofs.NameLaws.{zeros_behind}
use Rattle.memory.proofs.head.Head.has_ident_in_form.Goals as goal

pub returns-then-is_identifier : goal.returns-then-is_identifier
unfolding ident_in_form
returns-then-is_identifier c =
    rw (← c.self.view_is, ← zeros_behind c.self.inside.bytes.now _ c.self.invariant, ← c.from-len.ensures, ← c.eq.ensures) (search branches depth 12)
