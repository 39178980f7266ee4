-- `sheet::row::row_for` puts the identifier and the sums of either money together.
use Rattle.money.specs.declared.Money.TheVariants.{K, O}
use Rattle.sheet.proofs.Dividing.{all_needed, all_held}
use mathlib.Core.Path.{ap, ◌∙◌}
use Rattle.sheet.specs.Sheet.{row_for}
use Rattle.sheet.specs.Inner.Parts.{amounts_from, fees_from}
use Rattle.sheet.proofs.row.row_for.Goals as goal

pub division_for-amounts-requires : goal.division_for-amounts-requires
division_for-amounts-requires c = (all_needed _ c.parts_for-parts.ensures K, all_held _ c.parts_for-parts.ensures K)

pub division_for-fees-requires : goal.division_for-fees-requires
division_for-fees-requires c = (all_needed _ c.parts_for-parts.ensures O, all_held _ c.parts_for-parts.ensures O)

pub returns : goal.returns
unfolding row_for
returns c =
    let amounts = c.of.ensures ∙ ap amounts_from c.division_for-amounts.ensures.value in
    let fees = c.of-2.ensures ∙ ap fees_from c.division_for-fees.ensures.value in
    record {
      value = λ t. record { ident = c.ident-ident.ensures.0 t; amounts = amounts t; fees = fees t };
      within = rw (c.of.ensures, c.of-2.ensures) (c.division_for-amounts.ensures.within, c.division_for-fees.ensures.within);
    }
