-- `memory::head::store_head` pastes the bytes of the head over those that were there.
use Rattle.memory.proofs.EnterLaws.{head_stored}
use Rattle.memory.proofs.head.store_head.Goals as goal

pub returns : goal.returns
returns c = head_stored c.args.head.now c.args.i c.args.memory.now c.requires.2 c.requires.0 c.requires.1 _ c.copy_from_slice.ensures.after
