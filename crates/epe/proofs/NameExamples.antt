-- Worked examples of identifiers, names, titles and profiles, each computed.
-- Assumes nothing.
use mathlib.Core.Path.{◌≡◌, refl}
use mathlib.Core.Bool.{Bool, true, false}
use mathlib.Core.List.{[], ◌∷◌, ◌++◌, map}
use Prim.Native.Nat.{ℕ}
use Prim.Native.String.{String}
use lib.ListN.{replicate}
use Rattle.text.specs.Bytes.{digit, letter, letter_or_digit}
use Rattle.text.specs.Quoted.{bytes}
use Rattle.text.specs.Number.{number, number_after}
use Rattle.text.specs.Fields.{fields, onto}
use Rattle.money.specs.declared.Money.{Money}
use Rattle.money.specs.declared.Money.TheVariants.{K, O}
use Rattle.money.specs.Money.{fee}
use Rattle.fee.specs.Fee.{rate}
use Rattle.fee.specs.declared.Terms.{Terms}
use Rattle.calendar.specs.Calendar.{real, leap, month_length}
use Rattle.epe.specs.Questions.{Verdict, Passed, Refused, first_no, is_passed, asked}
use Rattle.epe.specs.Ident.{identifier, ident_of, same_ident, ident_in_form}
use Rattle.epe.specs.Profile.{as_fees, profile_fits, rates_fit, terms_for}
use Rattle.epe.specs.Name.{name_questions, name_of, has_long_date, short_title, title_questions, title_of, long_title}
use Rattle.epe.specs.declared.profile.Profile.{Profile}

is_identifier : String → Bool
unfolding identifier letter_or_digit letter digit
is_identifier s = identifier (bytes s)

-- 2, 3, 17 and 18 bytes; a digit among the first two; a byte that is neither.
identifiers : map is_identifier ("ZS" ∷ "ZS1" ∷ "ABCDEFGHIJKLMNopq" ∷ "ABCDEFGHIJKLMNopqr" ∷ "Z1S" ∷ "ZS_" ∷ [])
    ≡ false ∷ true ∷ true ∷ false ∷ false ∷ false ∷ []
unfolding is_identifier
identifiers = refl

-- How one is held; what is none is held as no bytes.
held : ident_of (bytes "ZS1") ≡ record { bytes = bytes "ZS1" ++ replicate 14 0; len = 3 }
unfolding ident_of identifier letter_or_digit letter digit
held = refl

none_held : ident_of (bytes "ZS") ≡ record { bytes = replicate 17 0; len = 0 }
unfolding ident_of identifier letter_or_digit letter digit
none_held = refl

-- Case counts.
by_case : same_ident (ident_of (bytes "ZS1")) (ident_of (bytes "Zs1")) ≡ false
unfolding same_ident ident_of identifier letter_or_digit letter digit
by_case = refl

-- In no form: a length of 18 for 17 bytes, and a byte behind the length.
out_of_form : map ident_in_form
    (record { bytes = bytes "ABCDEFGHIJKLMNopq"; len = 18 } ∷ record { bytes = bytes "ZS12" ++ replicate 13 0; len = 3 } ∷ [])
    ≡ false ∷ false ∷ []
unfolding ident_in_form identifier letter_or_digit letter digit
out_of_form = refl

judged : String → Verdict
unfolding name_questions asked fields onto identifier letter_or_digit letter number number_after digit real leap month_length
judged s = first_no (name_questions (bytes s))

-- Names that pass: the paper's, both payment kinds, the last kind, 29 February 2000.
passing : map judged ("EPEZZS1-201007-A-0" ∷ "EPEZAb9-991231-B-4" ∷ "EPEZZS1-000229-A-0" ∷ []) ≡ Passed ∷ Passed ∷ Passed ∷ []
unfolding judged
passing = refl

-- Two hyphens, four and none; a lower-case start; no Z; no identifier.
start_refused : map judged ("EPEZZS1-201007-A0" ∷ "EPEZZS1-201007-A-0-" ∷ "" ∷ "epezZS1-201007-A-0" ∷ "EPE---" ∷ "EPEZ---" ∷ "EPEzZS1-201007-A-0" ∷ "EPEZZ1-201007-A-0" ∷ [])
    ≡ Refused 3 ∷ Refused 3 ∷ Refused 3 ∷ Refused 7 ∷ Refused 10 ∷ Refused 13 ∷ Refused 10 ∷ Refused 13 ∷ []
unfolding judged
start_refused = refl

-- No date, eight digits, no real date.
date_refused : map judged ("EPEZZS1---" ∷ "EPEZZS1-20201007-A-0" ∷ "EPEZZS1-010229-A-0" ∷ []) ≡ Refused 16 ∷ Refused 16 ∷ Refused 16 ∷ []
unfolding judged
date_refused = refl

-- A payment kind that is neither A nor B; a benefit kind past 4, of two digits, and with a byte behind it.
kind_refused : map judged ("EPEZZS1-201007--" ∷ "EPEZZS1-201007-C-0" ∷ "EPEZZS1-201007-A-" ∷ "EPEZZS1-201007-A-5" ∷ "EPEZZS1-201007-A-00" ∷ "EPEZZS1-201007-A-0 " ∷ [])
    ≡ Refused 19 ∷ Refused 19 ∷ Refused 22 ∷ Refused 22 ∷ Refused 22 ∷ Refused 22 ∷ []
unfolding judged
kind_refused = refl

parts : name_of (bytes "EPEZZS1-201007-B-3")
    ≡ record { ident = ident_of (bytes "ZS1"); date = record { 0 = 20201007 }; payment = 0x42; kind = 3 }
unfolding name_of ident_of identifier letter_or_digit letter fields onto number number_after digit
parts = refl

titled : String → Verdict
unfolding title_of title_questions short_title has_long_date is_passed name_questions asked fields onto identifier letter_or_digit letter number number_after digit real leap month_length
titled s = first_no (title_questions (bytes s))

titles : map titled ("EPEZZS1-201007-A-0-K" ∷ "EPEZZS1-201007-A-0-O" ∷ []) ≡ Passed ∷ Passed ∷ []
unfolding titled
titles = refl

-- Long dates: the paper's, of either money, and 29 February 2000.
long_titles : map titled ("EPEZZS1-20201007-A-0-K" ∷ "EPEZZS1-20201007-A-0-O" ∷ "EPEZZS1-20000229-A-0-K" ∷ []) ≡ Passed ∷ Passed ∷ Passed ∷ []
unfolding titled
long_titles = refl

-- None of them a title: lower case, trailing bytes, no ending, too short for one.
titles_refused : map titled ("EPEZZS1-201007-A-0-k" ∷ "EPEZZS1-201007-A-0-K " ∷ "EPEZZS1-201007-A-0" ∷ "K" ∷ [])
    ≡ Refused 11 ∷ Refused 11 ∷ Refused 11 ∷ Refused 11 ∷ []
unfolding titled
titles_refused = refl

-- Nor are: another century, 30 February, a byte that is no digit.
long_refused : map titled ("EPEZZS1-19201007-A-0-K" ∷ "EPEZZS1-21201007-A-0-K" ∷ "EPEZZS1-20200230-A-0-K" ∷ "EPEZZS1-2020100x-A-0-K" ∷ [])
    ≡ Refused 11 ∷ Refused 11 ∷ Refused 11 ∷ Refused 11 ∷ []
unfolding titled
long_refused = refl

-- Seven digits, nine, a hyphen behind the 20, and six that are no date, although they begin a long one.
near_long_refused : map titled ("EPEZZS1-2020107-A-0-K" ∷ "EPEZZS1-020201007-A-0-K" ∷ "EPEZZS1-20-201007-A-0-K" ∷ "EPEZZS1-202010-A-0-K" ∷ [])
    ≡ Refused 11 ∷ Refused 11 ∷ Refused 11 ∷ Refused 11 ∷ []
unfolding titled
near_long_refused = refl

-- What a title gives: the name before its ending, and the money of its ending.
money : String → Money
unfolding title_of short_title has_long_date fields onto
money s = (title_of (bytes s)).money

moneys : map money ("EPEZZS1-201007-A-0-K" ∷ "EPEZZS1-201007-A-0-O" ∷ "EPEZZS1-20201007-A-0-K" ∷ "EPEZZS1-20201007-A-0-O" ∷ []) ≡ K ∷ O ∷ K ∷ O ∷ []
unfolding money
moneys = refl

title_name_lem : (title_of (bytes "EPEZZS1-201007-A-0-O")).name ≡ name_of (bytes "EPEZZS1-201007-A-0")
unfolding title_of short_title has_long_date fields onto
title_name_lem = refl

long_title_name : (title_of (bytes "EPEZZS1-20201007-A-0-O")).name ≡ name_of (bytes "EPEZZS1-201007-A-0")
unfolding title_of short_title has_long_date fields onto
long_title_name = refl

-- The long form of a title, and the short one of that.
lengthened : long_title (bytes "EPEZZS1-201007-A-0-K") ≡ bytes "EPEZZS1-20201007-A-0-K"
unfolding fields onto
lengthened = refl

shortened : short_title (bytes "EPEZZS1-20201007-A-0-K") ≡ bytes "EPEZZS1-201007-A-0-K"
unfolding short_title has_long_date fields onto
shortened = refl

-- Profiles by today, a flat part and R: the last ones within the ranges, and each past one of them.
abbrev rated : ℕ → ℕ → ℕ → ℕ → Profile
rated today flat r last = record {
  today = record { 0 = today };
  flat = as_fees (350 ∷ 0 ∷ 350 ∷ 350 ∷ flat ∷ []);
  fields = r;
  rates = map rate (0 ∷ 10_000 ∷ 125 ∷ 0 ∷ last ∷ []);
}

abbrev profile : ℕ → ℕ → ℕ → Profile
profile today flat r = rated today flat r 0

is_fitting : Profile → Bool
unfolding profile_fits as_fees real leap month_length
is_fitting p = profile_fits p

profiles : map is_fitting (profile 20201007 999999999 19 ∷ profile 20991231 0 32 ∷ []) ≡ true ∷ true ∷ []
unfolding is_fitting
profiles = refl

profiles_refused : map is_fitting
    (profile 19991231 350 19 ∷ profile 21000101 350 19 ∷ profile 20201007 1000000000 19 ∷ profile 20201007 350 18 ∷ profile 20201007 350 33 ∷ [])
    ≡ false ∷ false ∷ false ∷ false ∷ false ∷ []
unfolding is_fitting
profiles_refused = refl

-- A rate at its cap and above it, of a kind that no file need have; and what is set for a kind, and for what is none.
rates : map (λ (last : ℕ). rates_fit (rated 20201007 350 19 last).rates) (10_000 ∷ 10_001 ∷ []) ≡ true ∷ false ∷ []
unfolding rates_fit
rates = refl

abbrev terms : ℕ → ℕ → Terms
terms flat percent = record { flat = fee flat; rate = rate percent }

set_for_kinds : map (terms_for (rated 20201007 350 19 77)) (1 ∷ 4 ∷ 5 ∷ []) ≡ terms 0 10_000 ∷ terms 350 77 ∷ terms 0 0 ∷ []
unfolding terms_for as_fees
set_for_kinds = refl
