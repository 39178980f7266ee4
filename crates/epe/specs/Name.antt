-- "The name is `EPEZ` + identifier, yymmdd, A or B, kind 0 to 4, joined by hyphens." And the title of a transfer.
use Rattle.std.specs.Prelude.{◌≡◌, Bool, true, cond, ◌&&◌, ◌||◌, List, [], ◌∷◌, ◌++◌, ℕ, ◌+◌, ◌-◌, eqb, leb, length, get_or, take, drop, is_some, Result, Ok, Err}
use Rattle.text.specs.Bytes.{same}
use Rattle.text.specs.Quoted.{bytes}
use Rattle.std.specs.Option.{unwrap_or}
use Rattle.text.specs.Number.{number}
use Rattle.text.specs.Fields.{fields}
use Rattle.money.specs.declared.Money.TheVariants.{K, O}
use Rattle.calendar.specs.Calendar.{real}
use Rattle.epe.specs.Questions.{Question, ◌else_no◌, Verdict, Passed, Refused, first_no, is_passed}
use Rattle.epe.specs.Ident.{identifier, ident_of, ident_in_form}
use Rattle.epe.specs.declared.name.Name.{Name}
use Rattle.epe.specs.declared.name.Title.{Title}
use Rattle.epe.specs.declared.name.NoTitle.{NoTitle}

-- Part n of a name, counted from 1. A hyphen is the byte 2D.
abbrev pub name_part : ℕ → List ℕ → List ℕ
name_part n name = get_or (fields 0x2D name) (n - 1) []

-- The rest of its first part, behind EPEZ.
abbrev pub name_ident : List ℕ → List ℕ
name_ident name = drop 4 (name_part 1 name)

-- The date 20yymmdd of its second part, as a number.
abbrev pub name_date : List ℕ → ℕ
name_date name = 20000000 + unwrap_or (number 6 6 (name_part 2 name)) 0

unfoldable pub name_questions : List ℕ → List Question
name_questions name =
    -- "Name has exactly three hyphens? 003"
    (eqb (length (fields 0x2D name)) 4 else_no 3)
    -- "Name starts EPE? 007"
    ∷ (same (take 3 name) (bytes "EPE") else_no 7)
    -- "Then Z? 010"
    ∷ (eqb (get_or name 3 0) 0x5A else_no 10)
    -- "Rest of its first part an identifier? 013"
    ∷ (identifier (name_ident name) else_no 13)
    -- "Second part six digits, a real date 20yymmdd? 016"
    ∷ (is_some (number 6 6 (name_part 2 name)) && real (name_date name) else_no 16)
    -- "Third part A or B? 019"
    ∷ (same (name_part 3 name) (bytes "A") || same (name_part 3 name) (bytes "B") else_no 19)
    -- "Fourth part one digit 0 to 4? 022"
    ∷ (is_some (number 1 1 (name_part 4 name)) && leb (unwrap_or (number 1 1 (name_part 4 name)) 0) 4 else_no 22)
    ∷ []

-- The parts of a name whose questions are answered yes.
unfoldable pub name_of : List ℕ → Name
name_of name = record {
  ident = ident_of (name_ident name);
  date = record { 0 = name_date name };
  payment = get_or (name_part 3 name) 0 0;
  kind = unwrap_or (number 1 1 (name_part 4 name)) 0;
}

-- The parts of a name are in form, as a book holds them.
unfoldable pub name_in_form : Name → Bool
name_in_form name =
    ident_in_form name.ident
    && (real name.date.0 && ((eqb name.payment 0x41 || eqb name.payment 0x42) && leb name.kind 4))

-- The parts of a name that passes its questions are in form.
abbrev pub PartsInForm : Type 0
PartsInForm = (name : List ℕ) → first_no (name_questions name) ≡ Passed → name_in_form (name_of name) ≡ true

-- Document 02, A1: "From now on a title's second part may also have eight digits: `20` and a name's six mean what the six alone would, and another
-- eight is 11. File names keep six." So a title is read as the short one: without the two bytes behind its first hyphen, where its second part is
-- eight bytes that begin 20.
unfoldable pub has_long_date : List ℕ → Bool
has_long_date title = eqb (length (name_part 2 title)) 8 && same (take 2 (name_part 2 title)) (bytes "20")

-- Where its second part begins, behind the first hyphen.
abbrev pub date_at : List ℕ → ℕ
date_at title = length (name_part 1 title) + 1

unfoldable pub short_title : List ℕ → List ℕ
short_title title = cond (has_long_date title) (take (date_at title) title ++ drop (date_at title + 2) title) title

-- The title of a transfer: its last two bytes are its ending, and what stands before them is a name.
abbrev pub title_name : List ℕ → List ℕ
title_name title = take (length (short_title title) - 2) (short_title title)

abbrev pub title_ending : List ℕ → List ℕ
title_ending title = drop (length (short_title title) - 2) (short_title title)

-- "Transfer (title, amount): title is a shipment name in the form above, then `-K` or `-O`? 11. .."
unfoldable pub title_questions : List ℕ → List Question
title_questions title =
    (is_passed (first_no (name_questions (title_name title)))
    && (same (title_ending title) (bytes "-K") || same (title_ending title) (bytes "-O"))
    else_no 11)
    ∷ []

-- What a title says, and what is none all the same: the name and the money.
unfoldable pub title_of : List ℕ → Title
title_of title = record { name = name_of (title_name title); money = cond (same (title_ending title) (bytes "-K")) K O }

-- What code answers, with the paper's number for what is no title; and what the title says, or what is none.
abbrev pub title_verdict : Result Title NoTitle → Verdict
title_verdict (Ok title) = Passed
title_verdict (Err none) = Refused 11

abbrev pub title_said : Result Title NoTitle → Title
title_said (Ok title) = title
title_said (Err none) = none.said

-- A title with `20` before its date says what it says without: "`20` and a name's six mean what the six alone would".
abbrev pub long_title : List ℕ → List ℕ
long_title title = take (date_at title) title ++ (bytes "20" ++ drop (date_at title) title)

abbrev pub LongMeansShort : Type 0
LongMeansShort = (title : List ℕ) → length (name_part 2 title) ≡ 6
    → (first_no (title_questions (long_title title)) ≡ first_no (title_questions title)) × (title_of (long_title title) ≡ title_of title)
