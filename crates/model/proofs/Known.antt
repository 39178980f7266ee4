-- Identifiers in a book: which shipment is found, and what one more behind the last leaves of it.
-- Assumes nothing.
use mathlib.Core.Path.{◌≡◌, refl, sym, ap, ◌∙◌}
use mathlib.Core.Bool.{true, false, cond, false≢true}
use mathlib.Core.List.{[], ◌∷◌, ◌++◌}
use mathlib.Core.Option.{some, none}
use Rattle.text.proofs.Branches.{either_way}
use Rattle.epe.specs.Ident.{same_ident}
use Rattle.epe.specs.declared.ident.Ident.{Ident}
use Rattle.epe.proofs.IdentLaws.{same_is_equal}
use Rattle.model.specs.Shipment.{Shipment}
use Rattle.model.specs.Book.{Book, is_called, find, is_unknown}
use Rattle.model.proofs.Asking.{not_both}

-- identifiers that differ
pub same_back : (a b : Ident) → same_ident a b ≡ false → same_ident b a ≡ false
same_back a b apart = either_way (same_ident b a)
    (λ same. absurd (not_both (same_ident a b) ((same_is_equal a b).1 (sym ((same_is_equal b a).0 same))) apart))
    (λ e. e)

-- finding a shipment
pub found : (ident : Ident) (s : Shipment) (book : Book) → is_called ident s ≡ true → find ident (s ∷ book) ≡ some s
found ident s book called = rw called

pub passed : (ident : Ident) (s : Shipment) (book : Book) → is_called ident s ≡ false → find ident (s ∷ book) ≡ find ident book
passed ident s book other = rw other

-- a book that does not know an identifier: its first shipment has another, and what stands behind it does not know it either
pub unknown_first : (ident : Ident) (s : Shipment) (book : Book) → is_unknown ident (s ∷ book) ≡ true → is_called ident s ≡ false
unknown_first ident s book unknown = either_way (is_called ident s) (λ called. absurd (false≢true (rw called at unknown))) (λ e. e)

pub unknown_rest : (ident : Ident) (s : Shipment) (book : Book) → is_unknown ident (s ∷ book) ≡ true → is_unknown ident book ≡ true
unknown_rest ident s book unknown = rw (unknown_first ident s book unknown) at unknown

pub unknown_none : (ident : Ident) (book : Book) → is_unknown ident book ≡ true → find ident book ≡ none
unknown_none ident [] unknown = refl
unknown_none ident (s ∷ book) unknown =
    passed ident s book (unknown_first ident s book unknown) ∙ unknown_none ident book (unknown_rest ident s book unknown)

-- a shipment behind the last
pub append_other : (ident : Ident) (book : Book) (s : Shipment) → is_called ident s ≡ false → find ident (book ++ (s ∷ [])) ≡ find ident book
append_other ident [] s uncalled = passed ident s [] uncalled
append_other ident (t ∷ book) s uncalled = ap (cond (is_called ident t) (some t)) (append_other ident book s uncalled)

pub append_new : (ident : Ident) (book : Book) (s : Shipment) → is_called ident s ≡ true
    → is_unknown ident book ≡ true → find ident (book ++ (s ∷ [])) ≡ some s
append_new ident [] s called unknown = found ident s [] called
append_new ident (t ∷ book) s called unknown =
    passed ident t (book ++ (s ∷ [])) (unknown_first ident t book unknown) ∙ append_new ident book s called (unknown_rest ident t book unknown)

pub append_unknown : (ident : Ident) (book : Book) (s : Shipment) → is_unknown ident book ≡ true
    → is_called ident s ≡ false → is_unknown ident (book ++ (s ∷ [])) ≡ true
append_unknown ident [] s unknown uncalled = rw uncalled
append_unknown ident (t ∷ book) s unknown uncalled =
    rw (unknown_first ident t book unknown) (append_unknown ident book s (unknown_rest ident t book unknown) uncalled)
