-- `text::utf8::behind_character` passes ASCII octets and the character behind them.
use Rattle.std.proofs.Common.{rules}
use Rattle.text.proofs.Utf8Places.{past_character}
use Rattle.text.proofs.utf8.behind_character.Goals as goal

pub returns : goal.returns
returns c = past_character c.args.s.now c.in-Some.i (search rules) (search rules) _ c.in_ok-first_width.ensures
