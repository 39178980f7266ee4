-- A run of digits as a number.
use Rattle.std.specs.Prelude.{cond, ◌&&◌, List, [], ◌∷◌, ℕ, ◌+◌, ◌*◌, ◌-◌, leb, length, Option, Some, None}
use Rattle.text.specs.Bytes.{between, digit}

-- The number that n with the digits after it writes; none where a byte is no digit.
unfoldable pub number_after : ℕ → List ℕ → Option ℕ
number_after n [] = Some n
number_after n (b ∷ s) = cond (digit b) (number_after (n * 10 + (b - 0x30)) s) None

-- The number that `least` to `most` digits write; none for any other text.
-- No more than 18 digits are read, whatever `most` says, so that each number fits 64 bits.
unfoldable pub number : ℕ → ℕ → List ℕ → Option ℕ
number least most s = cond (between least most (length s) && leb (length s) 18) (number_after 0 s) None
