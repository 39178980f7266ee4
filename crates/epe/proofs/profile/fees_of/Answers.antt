-- `epe::profile::fees_of` is `as_fees`: each number is a fee.
use Rattle.std.proofs.Common.{rules}
use Rattle.epe.proofs.ProfileLaws.{fees_made}
use Rattle.epe.proofs.profile.fees_of.Goals as goal

pub returns : goal.returns
returns c = fees_made c.args.numbers c.map.ensures.items c.requires (search rules) (λ p q n made within called. search rules)
