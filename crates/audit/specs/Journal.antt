-- A journal of calls: how many in eight bytes, then one entry to a call, one behind the other, and nothing behind the last. Numbers are stored least
-- byte first. An entry:
--     0        the call: 0 intake, 1 transfer, 2 go-ahead, 3 pair, 4 close, 5 post, 6 pay, 7 mark undelivered, 8 withdraw, 9 return
--     1        how many numbers it has
--     2        how many texts
--     3        the numbers, eight bytes each; then the lengths of the texts, eight bytes each; then the texts, one behind the other
-- A call takes its numbers and texts by place. A number that an entry does not have is 0, a text that it does not have is empty, and it has no more than
-- its call takes: so what a call takes later has the next place, and every journal of today means the same then.
use Rattle.std.specs.Prelude.{Bool, cond, ◌&&◌, List, [], ◌∷◌, map, ℕ, zero, suc, ◌+◌, ◌*◌, leb, ltb, eqb, length, get_or, take, drop}
use Rattle.fee.specs.Fee.{rate}
use Rattle.fee.specs.declared.Rate.{Rate}
use Rattle.epe.specs.Ident.{ident_of}
use Rattle.epe.specs.Profile.{as_fees}
use Rattle.epe.specs.declared.profile.Profile.{Profile}
use Rattle.model.specs.Calls.{Act, GoAhead, Pair, Close, OnOrder, Return, Call, Intake, Transfer, On}
use Rattle.model.specs.declared.Deed.TheVariants.{Post, Pay, MarkUndelivered, Withdraw}
use Rattle.memory.specs.Number.{number_at}
use Rattle.book.specs.Numbers.{are_known, route_of, money_of}

-- The call of an entry, and how many numbers and texts it has.
abbrev pub call_byte : List ℕ → ℕ
call_byte entry = get_or entry 0 0

abbrev pub numbers_of : List ℕ → ℕ
numbers_of entry = get_or entry 1 0

abbrev pub texts_of : List ℕ → ℕ
texts_of entry = get_or entry 2 0

-- The number at a place.
unfoldable pub entry_number : List ℕ → ℕ → ℕ
entry_number entry k = cond (ltb k (numbers_of entry)) (number_at 8 entry (3 + 8 * k)) 0

-- The text at a place: its length, behind the numbers; where it starts, behind the lengths and the texts before it; and its bytes.
abbrev pub lengths_start : List ℕ → ℕ
lengths_start entry = 3 + 8 * numbers_of entry

abbrev pub texts_start : List ℕ → ℕ
texts_start entry = lengths_start entry + 8 * texts_of entry

unfoldable pub text_length : List ℕ → ℕ → ℕ
text_length entry j = cond (ltb j (texts_of entry)) (number_at 8 entry (lengths_start entry + 8 * j)) 0

unfoldable pub text_start : List ℕ → ℕ → ℕ
text_start entry zero = texts_start entry
text_start entry (suc j) = text_start entry j + text_length entry j

abbrev pub entry_text : List ℕ → ℕ → List ℕ
entry_text entry j = take (text_length entry j) (drop (text_start entry j) entry)

-- An intake takes the numbers today, five flat parts, fields and five rates, and the texts name and file; a transfer the number amount and the text
-- title. Each other call takes the text identifier; post, pay, mark undelivered and withdraw the number order, and a return the numbers route and money.
-- The rates came last (document 02, A5), so that an intake of before, which has seven numbers, has rates of 0.
abbrev pub fees_in : List ℕ → List ℕ
fees_in entry = entry_number entry 1 ∷ entry_number entry 2 ∷ entry_number entry 3 ∷ entry_number entry 4 ∷ entry_number entry 5 ∷ []

abbrev pub rates_in : List ℕ → List Rate
rates_in entry = map rate (entry_number entry 7 ∷ entry_number entry 8 ∷ entry_number entry 9 ∷ entry_number entry 10 ∷ entry_number entry 11 ∷ [])

abbrev pub profile_in : List ℕ → Profile
profile_in entry = record {
  today = record { 0 = entry_number entry 0 };
  flat = as_fees (fees_in entry);
  fields = entry_number entry 6;
  rates = rates_in entry;
}

unfoldable pub act_in : List ℕ → Act
act_in entry =
    cond (eqb (call_byte entry) 2) GoAhead
    (cond (eqb (call_byte entry) 3) Pair
    (cond (eqb (call_byte entry) 4) Close
    (cond (eqb (call_byte entry) 5) (OnOrder Post (entry_number entry 0))
    (cond (eqb (call_byte entry) 6) (OnOrder Pay (entry_number entry 0))
    (cond (eqb (call_byte entry) 7) (OnOrder MarkUndelivered (entry_number entry 0))
    (cond (eqb (call_byte entry) 8) (OnOrder Withdraw (entry_number entry 0))
    (Return (route_of (entry_number entry 0)) (money_of (entry_number entry 1)))))))))

unfoldable pub call_in : List ℕ → Call
call_in entry =
    cond (eqb (call_byte entry) 0) (Intake (profile_in entry) (entry_text entry 0) (entry_text entry 1))
    (cond (eqb (call_byte entry) 1) (Transfer (entry_text entry 0) (entry_number entry 0)) (On (ident_of (entry_text entry 0)) (act_in entry)))

-- An entry is whole where all of it is there, up to the end of its last text, it has no more than its call takes, and its call is among those above; a
-- return's route and money too.
unfoldable pub entry_length : List ℕ → ℕ
entry_length entry = text_start entry (texts_of entry)

unfoldable pub is_call : List ℕ → Bool
is_call entry = cond (eqb (call_byte entry) 9) (are_known (entry_number entry 0) (entry_number entry 1)) (leb (call_byte entry) 8)

-- How many numbers and texts a call takes, and that an entry has no more.
unfoldable pub numbers_taken : ℕ → ℕ
numbers_taken call = cond (eqb call 0) 12 (cond (eqb call 1) 1 (cond (leb call 4) 0 (cond (leb call 8) 1 2)))

unfoldable pub texts_taken : ℕ → ℕ
texts_taken call = cond (eqb call 0) 2 1

unfoldable pub has_no_more : List ℕ → Bool
has_no_more entry = leb (numbers_of entry) (numbers_taken (call_byte entry)) && leb (texts_of entry) (texts_taken (call_byte entry))

unfoldable pub call_known : List ℕ → Bool
call_known entry = has_no_more entry && is_call entry

unfoldable pub entry_fits : List ℕ → Bool
entry_fits entry = leb (entry_length entry) (length entry) && call_known entry

-- n entries, and nothing behind them.
unfoldable pub entries_fit : ℕ → List ℕ → Bool
entries_fit zero bytes = eqb (length bytes) 0
entries_fit (suc n) bytes = entry_fits bytes && entries_fit n (drop (entry_length bytes) bytes)

-- Their calls.
unfoldable pub calls_from : ℕ → List ℕ → List Call
calls_from zero bytes = []
calls_from (suc n) bytes = call_in bytes ∷ calls_from n (drop (entry_length bytes) bytes)

-- A journal: how many calls it has, whether it is one, and its calls.
abbrev pub count_in : List ℕ → ℕ
count_in journal = number_at 8 journal 0

unfoldable pub journal_fits : List ℕ → Bool
journal_fits journal = leb 8 (length journal) && entries_fit (count_in journal) (drop 8 journal)

unfoldable pub calls_in : List ℕ → List Call
calls_in journal = calls_from (count_in journal) (drop 8 journal)
