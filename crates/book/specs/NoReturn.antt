-- The refusal of a return whose route or money is none of document 01's: it is asked whether the book is sound, 10, the identifier known, 13, and the
-- shipment Paired, 19, and then refused with the number of a return that there is not, 22.
use Rattle.std.specs.Prelude.{cond, ℕ}
use Rattle.std.proofs.Math.Option.{Option, some, none}
use Rattle.epe.specs.declared.ident.Ident.{Ident}
use Rattle.model.specs.Shipment.{Shipment, is_paired}
use Rattle.model.specs.Book.{Book, find}

abbrev pub no_return_from : Option Shipment → ℕ
no_return_from none = 13
no_return_from (some s) = cond (is_paired s.stage) 22 19

abbrev pub no_return : Ident → Option Book → ℕ
no_return ident none = 10
no_return ident (some book) = no_return_from (find ident book)
