-- The number of each refusal, as document 02 has it.
use Rattle.std.specs.Prelude.{ℕ}
use Rattle.fee.specs.declared.refusal.Refusal.{Refusal}
use Rattle.fee.specs.declared.refusal.Refusal.TheVariants.{FlatPart, Rate}

abbrev pub number_of : Refusal → ℕ
number_of FlatPart = 905
number_of Rate = 907
