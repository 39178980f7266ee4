-- A function of a byte as a table.
use Rattle.std.specs.Prelude.{List, [], ◌∷◌, ℕ, zero, suc}

-- What a function gives at n places from one on, as a table.
abbrev pub listed : (ℕ → ℕ) → ℕ → ℕ → List ℕ
listed f from zero = []
listed f from (suc n) = f from ∷ listed f (suc from) n
