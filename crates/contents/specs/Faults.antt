-- "An order is faulty by its first fault: .."
use Rattle.std.specs.Prelude.{Bool, not, ◌&&◌, ◌||◌, List, [], ◌∷◌, ℕ, ◌-◌, eqb, length, get_or, take, drop, Option, Some, None, is_some}
use Rattle.std.specs.List.{list_all, range_with_len}
use Rattle.text.specs.Bytes.{between, same}
use Rattle.text.specs.Quoted.{bytes}
use Rattle.text.specs.Utf8.{code_points}
use Rattle.text.specs.Number.{number}
use Rattle.epe.specs.Questions.{Question, ◌else_no◌, asked}
use Rattle.epe.specs.File.{field}
use Rattle.contents.specs.declared.extra.ExtraSaid.{ExtraSaid}
use Rattle.contents.specs.declared.faults.Fault.{Fault}
use Rattle.contents.specs.declared.faults.Fault.TheVariants.{Surname, FirstName, PostTown, Postcode, Place, House, Extra, Benefit, Period, Spaced}

-- The number of each fault, as document 01 has it.
abbrev pub fault_number : Fault → ℕ
fault_number Surname = 1
fault_number FirstName = 2
fault_number PostTown = 3
fault_number Postcode = 4
fault_number Place = 5
fault_number House = 6
fault_number Extra = 7
fault_number Benefit = 8
fault_number Period = 9
fault_number Spaced = 10

-- The number of an order's first fault, 0 for none.
abbrev pub first_of : Option Fault → ℕ
first_of None = 0
first_of (Some fault) = fault_number fault

-- "Lengths count code points, not bytes." From low to high of them.
unfoldable pub sized : ℕ → ℕ → List ℕ → Bool
sized low high s = between low high (code_points s)

abbrev pub empty : List ℕ → Bool
empty s = eqb (length s) 0

-- dd-ddd
unfoldable pub postcode : List ℕ → Bool
postcode s = is_some (number 2 2 (take 2 s)) && (eqb (get_or s 2 0) 0x2D && is_some (number 3 3 (drop 3 s)))

-- `PR`, or `SP_` or `PP_` with 1 to 5 digits
unfoldable pub extra : List ℕ → Bool
extra s =
    same s (bytes "PR")
    || ((same (take 3 s) (bytes "SP_") || same (take 3 s) (bytes "PP_")) && is_some (number 1 5 (drop 3 s)))

-- It starts or ends with a space (20).
unfoldable pub spaced : List ℕ → Bool
spaced s = eqb (get_or s 0 0) 0x20 || eqb (get_or s (length s - 1) 0) 0x20

-- What is said of an extra field: ".. whether it is empty, whether it fails question 7 and whether it starts or ends with a space." (document 02, A7)
unfoldable pub said_of : List ℕ → ExtraSaid
said_of more = record { empty = empty more; fails = not (empty more || extra more); spaced = spaced more }

-- Town and street at most 35 long, and one of them or extra not empty.
unfoldable pub placed : List ℕ → List ℕ → Bool → Bool
placed town street no_extra = sized 0 35 town && (sized 0 35 street && not (empty town && (empty street && no_extra)))

-- The house number at most 11 long, and it or extra not empty.
unfoldable pub housed : List ℕ → Bool → Bool
housed house no_extra = sized 0 11 house && not (empty house && no_extra)

-- None of n fields from one on starts or ends with a space.
unfoldable pub unspaced : ℕ → ℕ → (ℕ → List ℕ) → Bool
unspaced n from its = list_all (λ k. not (spaced (its k))) (range_with_len from n)

-- Each question asks for the fault not to be there. They are asked of an order's fields by number, and of what is said of its extra field.
unfoldable pub fault_questions : (ℕ → List ℕ) → ExtraSaid → List Question
fault_questions its said =
    -- "1 surname (field 4) not 1 to 31 long"
    (sized 1 31 (its 4) else_no 1)
    -- "2 first name (5) not 1 to 22"
    ∷ (sized 1 22 (its 5) else_no 2)
    -- "3 post town (6) not 1 to 35"
    ∷ (sized 1 35 (its 6) else_no 3)
    -- "4 postcode (7) not dd-ddd"
    ∷ (postcode (its 7) else_no 4)
    -- "5 town (8) or street (9) above 35, or town, street and extra (12) all empty"
    ∷ (placed (its 8) (its 9) said.empty else_no 5)
    -- "6 house number (10) above 11, or empty while extra is empty"
    ∷ (housed (its 10) said.empty else_no 6)
    -- "7 extra not empty and not `PR`, nor `SP_` or `PP_` with 1 to 5 digits"
    ∷ (not said.fails else_no 7)
    -- "8 benefit identifier (14) not 1 to 20"
    ∷ (sized 1 20 (its 14) else_no 8)
    -- "9 period (15) not 1 to 35"
    ∷ (sized 1 35 (its 15) else_no 9)
    -- "10 one of fields 4 to 19 starts or ends with a space"
    ∷ (unspaced 8 4 its && (not said.spaced && unspaced 7 13 its) else_no 10)
    ∷ []

-- The number of the first fault; 0 for an order without one.
abbrev pub first_fault : List Question → ℕ
first_fault qs = asked qs (λ n. n) 0

unfoldable pub fault_of : List ℕ → ℕ
fault_of line = first_fault (fault_questions (λ n. field n line) (said_of (field 12 line)))
