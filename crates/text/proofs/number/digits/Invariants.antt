-- `text::number::digits`: the digits passed make the number so far, which is below a power of ten.
use Rattle.std.proofs.Common.{◌≡◌, ◌^◌, ◌<◌, drop}
use Rattle.text.specs.Number.{number_after}
use Rattle.text.proofs.number.digits.Given as goal

abbrev pub invariant-loop-b : goal.invariant-loop-b
invariant-loop-b l = (l.n < 10 ^ l.b-index) × (number_after l.n (drop l.b-index l.s) ≡ number_after 0 l.s)
