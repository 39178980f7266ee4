-- `store::load::load` unpacks into memory of its own, and copies that where it is sound and there is room for it.
use native.Mathlib.Omega.{arith}
use mathlib.Core.Path.{◌≡◌, refl, sym, ap, ◌∙◌}
use lib.ListN.{length}
use lib.Seq.{length-take-le}
use Rattle.std.specs.Prelude.{is_ok}
use Rattle.memory.specs.Layout.{size}
use Rattle.store.proofs.LoadAnswers.{refuses_short, loads}
use Rattle.store.proofs.load.load.Goals as goal

pub returns-then-book-lt-SIZE : goal.returns-then-book-lt-SIZE
returns-then-book-lt-SIZE c =
    refuses_short _ _ c.unpack.ensures (sym c.ok_or.ensures.variant ∙ ap is_ok c.in_ok-ok_or.was)
    (λ j. omega (arith, c.type_inv.stored j)) (sym c.is_sound.ensures ∙ c.if-not-is_sound.false) c.if-book-lt-SIZE.true

pub copy_from_slice-requires : goal.copy_from_slice-requires
copy_from_slice-requires c = let long = c.unpack.ensures.as_long in omega (arith, length-take-le size c.args.book.now c.if-book-lt-SIZE.false)

pub returns : goal.returns
returns c =
    let long : length c.unpack.new.memory ≡ size = omega (arith, c.unpack.ensures.as_long) in
    loads _ _ c.unpack.ensures (sym c.ok_or.ensures.variant ∙ ap is_ok c.in_ok-ok_or.was)
    (λ j. omega (arith, c.type_inv.stored j)) (sym c.is_sound.ensures ∙ c.if-not-is_sound.false) long c.if-book-lt-SIZE.false
    (rw (c.copy_from_slice.ensures.after, long) refl)
