-- Every field of a well-formed file is well formed, so that its length counts characters.
-- Assumes nothing.
use mathlib.Core.Path.{◌≡◌}
use mathlib.Core.Bool.{true}
use mathlib.Core.List.{[]}
use Prim.Native.Nat.{◌-◌}
use lib.ListN.{get_or}
use borrow.Author.Tests.{lt-ltb}
use lib.Dec.{lit<}
use Rattle.text.specs.Lines.{lines}
use Rattle.text.specs.Utf8.{ascii, well_formed}
use Rattle.text.proofs.Branches.{and_right}
use Rattle.text.proofs.Utf8Counting.{counts_what_is_decoded}
use Rattle.text.proofs.Utf8Parts.{fields_are_well_formed, lines_are_well_formed}
use Rattle.epe.specs.File.{marked, text, field}
use Rattle.epe.specs.Lengths.{FieldsAreCounted}

-- the byte that parts fields is of ASCII
bar_ascii : ascii 0x7C ≡ true
unfolding ascii
bar_ascii = lt-ltb 0x7C 128 (lit< tt)

pub fields_are_counted : FieldsAreCounted
fields_are_counted file h k n =
    let line = get_or (lines (text file)) k [] in
    let line_well = lines_are_well_formed (text file) (and_right (marked file) (well_formed (text file)) h) k in
    let well = fields_are_well_formed 0x7C line bar_ascii line_well (n - 1) in
    record { well_formed_holds = well; characters = counts_what_is_decoded (field n line) well }
