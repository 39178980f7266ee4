-- `memory::number::store` copies the low bytes of the eight that std gives.
use Rattle.std.proofs.Common.{ap, take, ◌∙◌}
use Rattle.memory.proofs.Numbers.{number_stored}
use Rattle.memory.proofs.number.store.Goals as goal

pub returns : goal.returns
returns g c =
    number_stored g.row.WIDTH c.args.at c.args.n c.args.memory.now _ c.requires.0 c.requires.1
    (c.copy_from_slice.ensures.after ∙ ap (take g.row.WIDTH) c.to_le_bytes.ensures)
