-- The number of a writer's only refusal: "30 when the lent output is too short" (document 02, A2)
use Rattle.std.specs.Prelude.{ℕ}
use Rattle.write.specs.declared.too_short.TooShort.{TooShort}

abbrev pub number_of : TooShort → ℕ
number_of refusal = 30
