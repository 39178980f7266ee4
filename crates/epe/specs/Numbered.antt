-- What code answers, with the paper's number for each refusal: an error is an enum of the crate that refuses, whose own `number_of` has the numbers.
use Rattle.std.specs.Prelude.{ℕ, Result, Ok, Err}

abbrev pub numbered : {A E : Type 0} → (E → ℕ) → Result A E → Result A ℕ
numbered number_of (Ok answer) = Ok answer
numbered number_of (Err refusal) = Err (number_of refusal)
