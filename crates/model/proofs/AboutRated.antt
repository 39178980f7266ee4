-- A5's examples, computed by the checker from the definitions alone, on the bytes of their files and titles, as ZS1's table is.
-- Assumes nothing.
use mathlib.Core.Path.{refl}
use Rattle.model.specs.Demand.{is_for}
use Rattle.model.specs.Zs1.{zs1}
use Rattle.model.specs.Rated.{Rated}
use Rattle.model.proofs.AboutZs1.{stepped}

pub rated : Rated
unfolding stepped is_for zs1
rated = record {
  charged = (refl, refl);
  needs = (refl, refl);
  pairing = refl;
  paired = (refl, refl);
  leaving = (refl, refl, refl);
  rates = refl;
  whole_amount = (refl, refl);
  fees = refl;
  at_the_cap = refl;
  by_kind = refl;
  scantily = (refl, refl, refl, refl);
  free_of_charge = (refl, refl);
}
