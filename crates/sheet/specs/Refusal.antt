-- The number of each refusal of a sheet, as document 01 has it beside its question.
use Rattle.std.specs.Prelude.{ℕ}
use Rattle.sheet.specs.declared.refusal.Refusal.{Refusal}
use Rattle.sheet.specs.declared.refusal.Refusal.TheVariants.{Unsound, NoRoom, AboveCap}

abbrev pub number_of : Refusal → ℕ
number_of Unsound = 10
number_of NoRoom = 25
number_of AboveCap = 26
