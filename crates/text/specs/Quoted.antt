-- Texts as the paper quotes them: `bytes "ZUS"` is 5A 55 53.
use Rattle.std.specs.Prelude.{List, [], ◌∷◌, ℕ}
use Prim.Native.Char.{code}
use Prim.Native.String.{String, [] as end, ◌∷◌ as ◌before◌}

abbrev pub bytes : String → List ℕ
bytes end = []
bytes (c before s) = code c ∷ bytes s
