-- Numbers in memory, least byte first, of any width.
use Rattle.std.specs.Prelude.{◌≡◌, List, ℕ, zero, suc, ◌+◌, ◌*◌, ◌/◌, ◌%◌, ◌^◌, ◌≤◌, ◌<◌, length, get_or, set}

-- The number in the bytes from a place on.
unfoldable pub number_at : ℕ → List ℕ → ℕ → ℕ
number_at zero m at = 0
number_at (suc width) m at = get_or m at 0 + 256 * number_at width m (suc at)

-- The memory with a number stored there: as much of it as has room.
unfoldable pub with_number : ℕ → List ℕ → ℕ → ℕ → List ℕ
with_number zero m at n = m
with_number (suc width) m at n = with_number width (set m at (n % 256)) (suc at) (n / 256)

-- What was stored is read back, no other byte moves, and the memory is as long as before.
pub record StoredIsRead (width : ℕ) (m : List ℕ) (at n : ℕ) : Type 0 where
  pub back : at + width ≤ length m → n < 256 ^ width → number_at width (with_number width m at n) at ≡ n
  pub before : (j : ℕ) → j < at → get_or (with_number width m at n) j 0 ≡ get_or m j 0
  pub behind : (j : ℕ) → at + width ≤ j → get_or (with_number width m at n) j 0 ≡ get_or m j 0
  pub as_long : length (with_number width m at n) ≡ length m
