-- `epe::profile::are_fees` asks each number as a fee is asked.
use mathlib.Core.Path.{◌∙◌}
use borrow.Author.Tests.{tests}
use Rattle.std.proofs.Common.{rules}
use Rattle.std.proofs.lemmas.Iterator.{YieldsList-from_slice}
use Rattle.std.proofs.lemmas.Iterator.Search.{all_from_yields_List}
use Rattle.money.specs.Money.{is_order_fee}
use Rattle.epe.proofs.ProfileLaws.{fees_asked}
use Rattle.epe.proofs.profile.are_fees.Goals as goal

pub returns : goal.returns
returns c =
    all_from_yields_List is_order_fee _ _ _ c.all.ensures.ran (YieldsList-from_slice c.args.numbers cc) (λ x b q k. search (rules, tests))
    ∙ fees_asked c.args.numbers
