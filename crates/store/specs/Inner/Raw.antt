-- Stored bytes as they lie in the memory of a book: heads as they are, and the rows gathered from their columns.
use Rattle.std.specs.Prelude.{List, [], ◌∷◌, ◌++◌, ℕ, zero, suc, ◌+◌, ◌*◌}
use Rattle.memory.specs.Layout.{head_size, row_size, head_bytes, row_bytes}
use Rattle.memory.specs.Read.{orders_at, shipments_in}
use Rattle.memory.specs.Inner.Enter.{bytes_of}
use Rattle.store.specs.Stored.{form}

unfoldable pub raw_orders : List ℕ → ℕ → ℕ → List ℕ
raw_orders m k zero = []
raw_orders m k (suc n) = row_bytes m k ++ raw_orders m (suc k) n

unfoldable pub raw_bodies : List ℕ → ℕ → ℕ → ℕ → List ℕ
raw_bodies m i k zero = []
raw_bodies m i k (suc n) = head_bytes m i ++ (raw_orders m k (orders_at m i) ++ raw_bodies m (suc i) (k + orders_at m i) n)

abbrev pub raw_length : List ℕ → ℕ → ℕ
raw_length m i = head_size + row_size * orders_at m i

unfoldable pub raw_contents : List ℕ → ℕ → ℕ → ℕ → List ℕ
raw_contents m i start zero = []
raw_contents m i start (suc n) = bytes_of 4 start ++ (bytes_of 4 (raw_length m i) ++ raw_contents m (suc i) (start + raw_length m i) n)

unfoldable pub raw_stored : List ℕ → List ℕ
raw_stored m = form ∷ shipments_in m ∷ (raw_contents m 0 (2 + 8 * shipments_in m) (shipments_in m) ++ raw_bodies m 0 0 (shipments_in m))
