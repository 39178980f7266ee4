-- "A profile carries today (a real date, eight digits yyyymmdd), five fees by benefit kind 0 to 4, each 0 to 999,999,999,
-- and R, the number of fields in a record line, 19 to 32." "The profile gives both per benefit kind, the flat part within the old fee range." (document
-- 02, A5): the five fees are now the flat parts, and there are five rates.
use Rattle.std.specs.Prelude.{◌≡◌, Bool, true, cond, ◌&&◌, List, [], ◌∷◌, map, ℕ, eqb, leb, length, get_or}
use Rattle.std.specs.List.{list_all}
use Rattle.text.specs.Bytes.{between}
use Rattle.money.specs.Money.{fee, is_order_fee}
use Rattle.money.specs.declared.Fee.{Fee}
use Rattle.fee.specs.Fee.{rate, is_rate}
use Rattle.fee.specs.declared.Rate.{Rate}
use Rattle.fee.specs.declared.Terms.{Terms}
use Rattle.calendar.specs.Calendar.{real}
use Rattle.epe.specs.Questions.{Question, ◌else_no◌}
use Rattle.epe.specs.declared.profile.Profile.{Profile}

-- The kinds are 0 to 4.
abbrev pub kinds : ℕ
kinds = 5

-- Each of a list passes a test.
abbrev pub each : {A : Type 0} → (A → Bool) → List A → Bool
each = list_all

abbrev pub fees_fit : List Fee → Bool
fees_fit fees = each (λ (one : Fee). is_order_fee one.0) fees

-- Plain numbers as fees.
unfoldable pub as_fees : List ℕ → List Fee
as_fees numbers = map fee numbers

-- "Profile within the ranges above? 905"
unfoldable pub profile_fits : Profile → Bool
profile_fits profile =
    real profile.today.0
    && ((eqb (length profile.flat) 5 && fees_fit profile.flat) && between 19 32 profile.fields)

-- "907 when any of the profile's rates is above 10,000, asked after 905"
unfoldable pub rates_fit : List Rate → Bool
rates_fit rates = eqb (length rates) 5 && each (λ (one : Rate). is_rate one.0) rates

unfoldable pub profile_questions : Profile → List Question
profile_questions profile = (profile_fits profile else_no 905) ∷ (rates_fit profile.rates else_no 907) ∷ []

-- A profile that both accept.
abbrev pub Fitting : Profile → Type 0
Fitting profile = (profile_fits profile ≡ true) × (rates_fit profile.rates ≡ true)

-- What the profile sets for a kind; nothing for what is no kind.
abbrev pub no_terms : Terms
no_terms = record { flat = fee 0; rate = rate 0 }

unfoldable pub terms_for : Profile → ℕ → Terms
terms_for profile kind = cond (leb kinds kind) no_terms (record { flat = get_or profile.flat kind (fee 0); rate = get_or profile.rates kind (rate 0) })
