-- The number of each refusal of storing and loading, as document 02 has it.
use Rattle.std.specs.Prelude.{ℕ}
use Rattle.store.specs.declared.refusal.Refusal.{Refusal}
use Rattle.store.specs.declared.refusal.Refusal.TheVariants.{Unsound, NotStored, TooShort}

abbrev pub number_of : Refusal → ℕ
number_of Unsound = 10
number_of NotStored = 32
number_of TooShort = 30
