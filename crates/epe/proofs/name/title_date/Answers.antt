-- `epe::name::title_date` passes over the two bytes that the short title is without.
use Rattle.epe.specs.Name.{has_long_date}
use Rattle.epe.proofs.TitleLaws.{dated_by_long, dated_by_short}
use Rattle.epe.proofs.name.title_date.Goals as goal

pub returns-then-is_long_date : goal.returns-then-is_long_date
unfolding has_long_date
returns-then-is_long_date c =
    λ is_name.
    rw c.rest.ensures
    (dated_by_long _ (rw (c.second_part.ensures is_name) at c.is_long_date.ensures) c.nth-date.ensures is_name
    c.if-is_long_date.true)

pub returns : goal.returns
unfolding has_long_date
returns c =
    λ is_name.
    dated_by_short _ (rw (c.second_part.ensures is_name) at c.is_long_date.ensures) c.nth-date.ensures is_name
    c.if-is_long_date.false
