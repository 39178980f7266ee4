-- Where a book lies in lent memory: the number of shipments, then the heads, one to a shipment, then the rows, one to an order, in columns.
use Rattle.std.specs.Prelude.{◌≡◌, cond, List, ◌++◌, Option, Some, None, ℕ, ◌+◌, ◌*◌, ◌≤◌, ◌<◌, leb, length, get_or, take, drop}
use Rattle.model.specs.Shipment.{most_shipments, most_rows}

-- The bytes of a head, and of a row.
abbrev pub head_size : ℕ
head_size = 66

abbrev pub row_size : ℕ
row_size = 11

-- Where a head lies. Before the first are 64 bytes, of which the first is the number of shipments, and the others are free.
abbrev pub head_at : ℕ → ℕ
head_at i = 64 + head_size * i

-- Rows lie in columns: all amounts, then all fees, all remainders and all states. Where those of row k lie.
abbrev pub amount_at : ℕ → ℕ
amount_at k = head_at most_shipments + 4 * k

abbrev pub fee_at : ℕ → ℕ
fee_at k = amount_at most_rows + 4 * k

abbrev pub remainder_at : ℕ → ℕ
remainder_at k = fee_at most_rows + 2 * k

abbrev pub code_at : ℕ → ℕ
code_at k = remainder_at most_rows + k

-- The bytes of a book: 24,704.
abbrev pub size : ℕ
size = code_at most_rows

-- Memory that is long enough for a book, and lent memory as it, where it is.
abbrev pub IsMemory : List ℕ → Type 0
IsMemory m = size ≤ length m

abbrev pub memory_of : List ℕ → Option (List ℕ)
memory_of m = cond (leb size (length m)) (Some m) None

-- A head and a row, each as bytes of its own; a row's are those of its amount, its state, its fee and its remainder.
unfoldable pub head_bytes : List ℕ → ℕ → List ℕ
head_bytes m i = take head_size (drop (head_at i) m)

unfoldable pub row_bytes : List ℕ → ℕ → List ℕ
row_bytes m k = take 4 (drop (amount_at k) m) ++ (take 1 (drop (code_at k) m) ++ (take 4 (drop (fee_at k) m) ++ take 2 (drop (remainder_at k) m)))

-- Bytes that are as many as those of a head, or of a row.
abbrev pub IsHead : List ℕ → Type 0
IsHead head = length head ≡ head_size

abbrev pub IsRow : List ℕ → Type 0
IsRow row = length row ≡ row_size

-- m' is m but for some heads and some rows: the number of shipments, every other head and every other row, what lies behind the book and the length
-- are as they were.
pub record Only (heads rows : ℕ → Type 0) (m m' : List ℕ) : Type 0 where
  pub shipments : get_or m' 0 0 ≡ get_or m 0 0
  pub other_heads : (i : ℕ) → i < most_shipments → (heads i → ⊥) → head_bytes m' i ≡ head_bytes m i
  pub other_rows : (k : ℕ) → k < most_rows → (rows k → ⊥) → row_bytes m' k ≡ row_bytes m k
  pub behind : (j : ℕ) → size ≤ j → get_or m' j 0 ≡ get_or m j 0
  pub as_long : length m' ≡ length m

-- But for head i; for row k; for the n rows from the k-th on; for head i and these rows.
abbrev pub OnlyHead : ℕ → List ℕ → List ℕ → Type 0
OnlyHead i m m' = Only (λ j. j ≡ i) (λ r. ⊥) m m'

abbrev pub OnlyRow : ℕ → List ℕ → List ℕ → Type 0
OnlyRow k m m' = Only (λ j. ⊥) (λ r. r ≡ k) m m'

abbrev pub OnlyRows : ℕ → ℕ → List ℕ → List ℕ → Type 0
OnlyRows k n m m' = Only (λ j. ⊥) (λ r. (k ≤ r) × (r < k + n)) m m'

abbrev pub OnlyShipment : ℕ → ℕ → ℕ → List ℕ → List ℕ → Type 0
OnlyShipment i k n m m' = Only (λ j. j ≡ i) (λ r. (k ≤ r) × (r < k + n)) m m'
