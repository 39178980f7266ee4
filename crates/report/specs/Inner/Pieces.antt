-- A report as it is put together, piece by piece.
use Rattle.std.specs.Prelude.{List, [], ◌∷◌, ◌++◌, ℕ}
use Rattle.text.specs.Quoted.{bytes}
use Rattle.write.specs.Files.{line}
use Rattle.write.specs.Spelled.{digits, spelled}

-- What stands before the file's own identifier: the byte mark, and the header's first four fields with their bars.
unfoldable pub start_text : List ℕ → List ℕ
start_text code = 0xEF ∷ 0xBB ∷ 0xBF ∷ (bytes "1|PP|" ++ (code ++ bytes "|1.0|"))

-- When the file was created, and the code of what it reports on.
unfoldable pub moment_text : ℕ → List ℕ
moment_text created = digits 14 created ++ bytes "|EPE|"

-- And up to the header's last field.
unfoldable pub opening_text : List ℕ → List ℕ → ℕ → List ℕ → List ℕ
opening_text start own created source = start ++ ((own ++ (0x7C ∷ [])) ++ (moment_text created ++ (source ++ (0x7C ∷ []))))

-- Records behind a header, each with the CR LF before it.
unfoldable pub behind_header : List (List (List ℕ)) → List ℕ
behind_header [] = []
behind_header (row ∷ rows) = 0x0D ∷ 0x0A ∷ (line row ++ behind_header rows)

-- A record with the CR LF before it.
unfoldable pub record_text : ℕ → ℕ → ℕ → List ℕ
record_text running order code = bytes "\r\n2|" ++ ((spelled running ++ (0x7C ∷ [])) ++ ((spelled order ++ (0x7C ∷ [])) ++ digits 3 code))
