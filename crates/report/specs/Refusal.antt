-- The number of each refusal of a report, as document 02 has it.
use Rattle.std.specs.Prelude.{ℕ}
use Rattle.acts.specs.Refusal.{number_of as of_place}
use Rattle.report.specs.declared.refusal.Refusal.{Refusal}
use Rattle.report.specs.declared.refusal.Refusal.TheVariants.{Unplaced, Unfit, OutputTooShort}

abbrev pub number_of : Refusal → ℕ
number_of (Unplaced refusal) = of_place refusal
number_of Unfit = 31
number_of OutputTooShort = 30
