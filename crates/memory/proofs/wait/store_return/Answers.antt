-- `memory::wait::store_return` stores the byte that a return leaves.
use Rattle.std.proofs.Common.{rules, refl}
use Rattle.memory.proofs.ReturnLaws.{taken_few, taken_within, row_returned}
use Rattle.std.proofs.Common.{rules, refl}
use Rattle.memory.proofs.wait.store_return.Goals as goal

pub overflow_sub-code : goal.overflow_sub-code
overflow_sub-code c = rw c.from.ensures (taken_within _ _ _ c.requires.2.is _ (search rules))

pub returns : goal.returns
returns c =
    rw (c.from-2.ensures, c.from.ensures) (
      λ route money is.
          rw (c.store_code.ensures, c.from.ensures) (row_returned route money _ is _ (search rules) _ _ c.requires.0 c.requires.1 refl),
      taken_few _ _ _ c.requires.2.is _ (search rules),
    )
