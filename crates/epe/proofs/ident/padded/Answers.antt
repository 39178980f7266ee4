-- `epe::ident::padded` copies byte by byte: the first i are those of the text with zeros behind it.
use mathlib.Core.Path.{◌≡◌, sym, ◌∙◌}
use native.Mathlib.Omega.{arith}
use lib.ListN.{length-set}
use lib.Seq.{take_all}
use Rattle.epe.proofs.IdentLaws.{byte_copied}
use Rattle.epe.proofs.ident.padded.Goals as goal

pub loop-i-preserved : goal.loop-i-preserved
loop-i-preserved c =
    let s = c.args.s.now in (
      simp length-set c.loop-i.invariant.0,
      rw c.byte_at.ensures (byte_copied s c.loop-i.bytes 17 c.loop-i.i (omega arith) c.loop-i.invariant.0 c.loop-i.invariant.1),
    )

pub returns : goal.returns
returns c =
    let end = c.loop-i in
    let all : end.i ≡ 17 = omega arith in
    sym (take_all 17 end.bytes (omega arith)) ∙ rw all at end.invariant.1
