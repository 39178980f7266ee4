-- Parts of a well-formed text: what stands between ASCII octets is well formed by itself, so that its length counts characters too.
use Rattle.std.specs.Prelude.{◌≡◌, Bool, true, ◌&&◌, List, [], ◌∷◌, ◌++◌, ℕ, get_or}
use Rattle.text.specs.Fields.{fields}
use Rattle.text.specs.Lines.{parted, lines}
use Rattle.text.specs.Utf8.{ascii, well_formed}

-- Some texts joined, with the same bytes between each and the next.
unfoldable pub parts_joined : List ℕ → List (List ℕ) → List ℕ
parts_joined parting [] = []
parts_joined parting (part ∷ []) = part
parts_joined parting (part ∷ next ∷ parts) = part ++ (parting ++ parts_joined parting (next ∷ parts))

-- Fields join to their text again, and so do lines.
abbrev pub FieldsJoin : Type 0
FieldsJoin = (separator : ℕ) (s : List ℕ) → parts_joined (separator ∷ []) (fields separator s) ≡ s

abbrev pub LinesJoin : Type 0
LinesJoin = (s : List ℕ) → parts_joined (0x0D ∷ 0x0A ∷ []) (parted s) ≡ s

unfoldable pub all_ascii : List ℕ → Bool
all_ascii [] = true
all_ascii (b ∷ s) = ascii b && all_ascii s

-- Where texts joined by ASCII octets, at least one, are well formed, each of them is.
abbrev pub PartsAreWellFormed : Type 0
PartsAreWellFormed = (b : ℕ) (more : List ℕ) (parts : List (List ℕ)) → all_ascii (b ∷ more) ≡ true → well_formed (parts_joined (b ∷ more) parts) ≡ true
    → (k : ℕ) → well_formed (get_or parts k []) ≡ true

-- So each field of a well-formed text is well formed, and each line.
abbrev pub FieldsAreWellFormed : Type 0
FieldsAreWellFormed = (separator : ℕ) (s : List ℕ) → ascii separator ≡ true → well_formed s ≡ true → (k : ℕ) → well_formed (get_or (fields separator s) k []) ≡ true

abbrev pub LinesAreWellFormed : Type 0
LinesAreWellFormed = (s : List ℕ) → well_formed s ≡ true → (k : ℕ) → well_formed (get_or (lines s) k []) ≡ true
