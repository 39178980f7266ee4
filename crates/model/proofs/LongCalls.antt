-- A transfer with a long title is the transfer with the short one.
-- Assumes nothing.
use mathlib.Core.Path.{◌≡◌, refl}
use mathlib.Core.List.{List}
use Prim.Native.Nat.{ℕ}
use lib.ListN.{length}
use Rattle.epe.specs.Name.{name_part, title_questions, title_of, long_title}
use Rattle.epe.proofs.TitleLaws.{long_of_six, long_means_short}
use Rattle.model.specs.Calls.{Transfer, Answer, Refused, Done, Accepted, IsPaired, Short, FeeEarned, AmountPaid, Returned}
use Rattle.model.specs.Moved.{moved}
use Rattle.model.specs.Book.{step, transferred_in}
use Rattle.model.specs.Demand.{is_for}
use Rattle.model.specs.LongTitles.{LongIsShort, LongCounts}

pub long_is_short : LongIsShort
unfolding step transferred_in title_questions title_of
long_is_short title six amount book = rw (long_of_six title six)

module _ (title : List ℕ) (six : length (name_part 2 title) ≡ 6) (amount : ℕ) where
  moves_alike : (answer : Answer) → moved (Transfer (long_title title) amount) answer ≡ moved (Transfer title amount) answer
  moves_alike (Refused number) = refl
  moves_alike Done = rw (long_means_short title six).1
  moves_alike (Accepted orders faulty) = refl
  moves_alike IsPaired = refl
  moves_alike (Short k o) = refl
  moves_alike (FeeEarned fee) = refl
  moves_alike (AmountPaid paid) = refl
  moves_alike (Returned total orders) = refl

pub long_counts : LongCounts
unfolding is_for
long_counts title six amount = (λ ident. rw (long_means_short title six).1, moves_alike title six amount)
