-- `memory::name::are_namesakes` compares words, which are the identifier and its length.
use Rattle.std.proofs.Common.{◌≡◌, ℕ, List, get_or, Fits, w8, arith}
use Rattle.text.proofs.Branches.{branches}
use Rattle.epe.specs.Ident.{same_ident}
use Rattle.memory.specs.Heads.{name_in}
use Rattle.memory.specs.Layout.{IsHead}
use Rattle.memory.proofs.NameLaws.{same_words, by_words}
use Rattle.memory.proofs.name.are_namesakes.Goals as goal

-- of what a slice of bytes is known to hold
words : (head other : List ℕ) → IsHead head → IsHead other → ((j : ℕ) → Fits w8 (get_or head j 0)) → ((j : ℕ) → Fits w8 (get_or other j 0))
    → same_ident (name_in head).ident (name_in other).ident ≡ same_words head other
words head other is_head is_other bytes others =
    by_words head other is_head is_other (λ j. omega (arith, bytes j)) (λ j. omega (arith, others j))

pub returns-then-read-2 : goal.returns-then-read-2
returns-then-read-2 c =
    rw (words c.args.head.now c.args.other.now c.requires.0 c.requires.1 c.type_inv.head c.type_inv.other, ← c.read.ensures.0, ← c.read-2.ensures.0)
    (rw (← c.read-then-read.ensures.0, ← c.read-then-read-2.ensures.0, ← c.read-then-read-2-2.ensures.0, ← c.read-then-read-2-3.ensures.0)
    (search branches depth 12))

pub returns-else-read-2 : goal.returns-else-read-2
returns-else-read-2 c =
    rw (words c.args.head.now c.args.other.now c.requires.0 c.requires.1 c.type_inv.head c.type_inv.other, ← c.read.ensures.0, ← c.read-2.ensures.0)
    (rw (← c.read-then-read.ensures.0, ← c.read-then-read-2.ensures.0) (search branches depth 12))

pub returns-else-read : goal.returns-else-read
returns-else-read c =
    rw (words c.args.head.now c.args.other.now c.requires.0 c.requires.1 c.type_inv.head c.type_inv.other, ← c.read.ensures.0, ← c.read-2.ensures.0)
    (search branches depth 12)
