-- Well-formed texts joined are well formed: a character ends in the text that it starts in, whatever stands behind that.
-- Assumes nothing.
use mathlib.Core.Path.{◌≡◌, refl}
use mathlib.Core.Bool.{true, false≢true}
use mathlib.Core.List.{List, [], ◌∷◌, ◌++◌}
use Prim.Native.Nat.{ℕ, zero, suc, pred, ◌/◌}
use native.Mathlib.Omega.{arith}
use borrow.Author.Tests.{eqb-false}
use lib.Dec.{eqb}
use lib.ListN.{get_or, get_or-append}
use Rattle.text.specs.Utf8.{width_at, well_formed_after, well_formed}
use Rattle.text.proofs.Utf8Laws.{by_ascii, by_row2, by_row3, by_row4, by_rows, row2_says, row3_says, row4_says, stands_within}
use Rattle.text.proofs.Utf8Read.{well_formed_here}

-- an octet that is not 0 stands there still with more behind
module _ (p q : List ℕ) where
  stands : (i : ℕ) → get_or p i 0 / 64 ≡ 2 → get_or (p ++ q) i 0 ≡ get_or p i 0
  stands i tail = get_or-append p q 0 i (stands_within p i (omega arith))

  width_kept : (a : ℕ) → (width_at (a ∷ p) 0 ≡ 0 → ⊥) → width_at (a ∷ (p ++ q)) 0 ≡ width_at (a ∷ p) 0
  width_kept a =
      by_rows (a ∷ p) 0 (λ n point. (n ≡ 0 → ⊥) → width_at (a ∷ (p ++ q)) 0 ≡ n)
      (λ e n. (by_ascii (a ∷ (p ++ q)) 0 e).0)
      (λ e n.
      let r = row2_says a (get_or p 0 0) e in
      (by_row2 (a ∷ (p ++ q)) 0 (rw (stands 0 r.1) e)).0)
      (λ e n.
      let r = row3_says a (get_or p 0 0) (get_or p 1 0) e in
      (by_row3 (a ∷ (p ++ q)) 0 (rw (stands 0 r.1, stands 1 r.2) e)).0)
      (λ e n.
      let r = row4_says a (get_or p 0 0) (get_or p 1 0) (get_or p 2 0) e in
      (by_row4 (a ∷ (p ++ q)) 0 (rw (stands 0 r.1, stands 1 r.2, stands 2 r.3) e)).0)
      (λ point n. absurd (n refl))

joined_after : (skip : ℕ) (p q : List ℕ) → well_formed_after skip p ≡ true → well_formed q ≡ true → well_formed_after skip (p ++ q) ≡ true
unfolding well_formed_after
joined_after zero [] q h k = k
joined_after (suc skip) [] q h k = absurd (false≢true h)
joined_after (suc skip) (a ∷ p) q h k = joined_after skip p q h k
joined_after zero (a ∷ p) q h k =
    let w = width_at (a ∷ p) 0 in
    let here = well_formed_here (eqb w 0) (well_formed_after (pred w) p) h in
    rw (width_kept p q a (eqb-false w 0 here.0), here.0) (joined_after (pred w) p q here.1 k)

pub joined_well_formed : (p q : List ℕ) → well_formed p ≡ true → well_formed q ≡ true → well_formed (p ++ q) ≡ true
joined_well_formed p q h k = joined_after 0 p q h k
