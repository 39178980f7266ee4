-- What a profile that fits allows.
-- Assumes nothing.
use mathlib.Core.Path.{◌≡◌, refl, sym, ap, subst, ◌∙◌}
use mathlib.Core.Bool.{Bool, true, ◌&&◌}
use mathlib.Core.List.{List, [], ◌∷◌, map}
use Prim.Native.Nat.{ℕ, zero, suc, ◌≤◌, ◌<◌}
use native.Mathlib.Omega.{arith}
use borrow.Author.Tests.{eq-eqb, leb-true}
use denote.Param.Members.{Mut}
use lib.Dec.{eqb, leb}
use lib.ListN.{length, get_or}
use Rattle.std.specs.Array.{list_steps, IsMapOf}
use Rattle.std.specs.Fn.{Called}
use Rattle.std.specs.Iterator.{Yields, CallableAtEachTurn}
use Rattle.std.proofs.lemmas.List.{same_lists, get_or-map, length-map}
use Rattle.text.specs.Bytes.{between}
use Rattle.text.proofs.Branches.{and_left, and_right, cond_either}
use Rattle.money.specs.Money.{fee, order_cap, is_order_fee}
use Rattle.money.specs.declared.Fee.{Fee}
use Rattle.fee.specs.Fee.{rate, rate_cap, is_rate, TermsFit}
use Rattle.fee.specs.declared.Rate.{Rate}
use Rattle.calendar.specs.Calendar.{real}
use Rattle.epe.specs.Profile.{kinds, each, as_fees, fees_fit, profile_fits, rates_fit, Fitting, no_terms, terms_for}
use Rattle.epe.specs.declared.profile.Profile.{Profile}

-- a test of each of five, asked with their number
pub five : {A : Type 0} (fits : A → Bool) (xs : List A) {r t : Bool} → length xs ≡ 5 → r ≡ each fits xs → r ≡ t → (eqb (length xs) 5 && each fits xs) ≡ t
five fits xs many is said = rw (eq-eqb (length xs) 5 many) (sym is ∙ said)

-- of a list that passes a test, each does
module _ {A : Type 0} (fits : A → Bool) where
  pub each_fits : (xs : List A) (none : A) (i : ℕ) → fits none ≡ true → each fits xs ≡ true → fits (get_or xs i none) ≡ true
  each_fits [] none i past h = past
  each_fits (a ∷ xs) none zero past h = and_left (fits a) (each fits xs) h
  each_fits (a ∷ xs) none (suc i) past h = each_fits xs none i past (and_right (fits a) (each fits xs) h)

-- each of fees that fit is within a fee's cap
pub fee_within : (numbers : List ℕ) (i : ℕ) → fees_fit (as_fees numbers) ≡ true → get_or numbers i 0 ≤ order_cap
unfolding as_fees
fee_within [] i h = omega arith
fee_within (n ∷ numbers) zero h = leb-true n order_cap (and_left (is_order_fee n) (fees_fit (as_fees numbers)) h)
fee_within (n ∷ numbers) (suc i) h = fee_within numbers i (and_right (is_order_fee n) (fees_fit (as_fees numbers)) h)

-- numbers are asked as the fees that they are
pub fees_asked : (numbers : List ℕ) → each is_order_fee numbers ≡ fees_fit (as_fees numbers)
unfolding as_fees
fees_asked [] = refl
fees_asked (n ∷ numbers) = ap (λ t. is_order_fee n && t) (fees_asked numbers)

-- of numbers that are fees, taken in turn, the next is within a fee's cap
next_within : (done numbers left more : List ℕ) (n : ℕ) → Yields list_steps numbers done left → left ≡ n ∷ more → fees_fit (as_fees numbers) ≡ true → n ≤ order_cap
unfolding as_fees
next_within [] numbers left more n all next fit =
    leb-true n order_cap (and_left (is_order_fee n) (fees_fit (as_fees more)) (subst (λ l. fees_fit (as_fees l) ≡ true) (all ∙ next) fit))
next_within (first ∷ done) numbers left more n all next fit =
    next_within done all.0 left more n all.2 next (and_right (is_order_fee first) (fees_fit (as_fees all.0)) (subst (λ l. fees_fit (as_fees l) ≡ true) all.1 fit))

pub fees_in_turn : {P : Type 0} {R : P → ℕ → P → Type 0} {Q : P → ℕ → Type 0} (numbers : List ℕ) (p : P) → fees_fit (as_fees numbers) ≡ true
    → ((q : P) (n : ℕ) → n ≤ order_cap → Q q n) → CallableAtEachTurn list_steps R Q numbers p
fees_in_turn numbers p fit may = record { at = λ done left q n more all called next. may q n (next_within done numbers left more n all next fit) }

-- and what is made of each of five
pub fees_made : {F : Type 0} {g : Mut F (ℕ × Unit {0}) Fee} {f : F} {fees : List Fee} (numbers : List ℕ) → IsMapOf g f numbers fees 5
    → fees_fit (as_fees numbers) ≡ true → length numbers ≡ 5 → ((p q : F) (n : ℕ) (made : Fee) → n ≤ order_cap → Called g p (n, tt) made q → made ≡ fee n)
    → fees ≡ as_fees numbers
unfolding as_fees
fees_made {fees = fees} numbers is fit five says =
    same_lists fees (map fee numbers) (is.long ∙ sym (length-map numbers fee ∙ five))
    (λ k d past.
    let there : k < length numbers = omega (arith, five, is.long) in
    let at = is.at k 0 d (omega (arith, is.long)) in
    says at.0 at.1 _ _ (fee_within numbers k fit) at.2 ∙ sym (get_or-map fee numbers k 0 d there))

-- what a profile that fits sets for a kind
pub terms_fit_holds : (profile : Profile) (kind : ℕ) → Fitting profile → TermsFit (terms_for profile kind)
unfolding profile_fits rates_fit terms_for
terms_fit_holds profile kind fitting =
    let fees = eqb (length profile.flat) 5 && fees_fit profile.flat in
    let fields = between 19 32 profile.fields in
    let first = and_left fees fields (and_right (real profile.today.0) (fees && fields) fitting.0) in
    let flat = each_fits (λ (one : Fee). is_order_fee one.0) profile.flat (fee 0) kind refl (and_right (eqb (length profile.flat) 5) (fees_fit profile.flat) first) in
    let second = each_fits (λ (one : Rate). is_rate one.0) profile.rates (rate 0) kind refl (and_right (eqb (length profile.rates) 5) _ fitting.1) in
    cond_either TermsFit (leb kinds kind) no_terms _ (λ past. (omega arith, omega arith))
    (λ there. (leb-true (get_or profile.flat kind (fee 0)).0 order_cap flat, leb-true (get_or profile.rates kind (rate 0)).0 rate_cap second))

-- a profile that fits has at most 32 fields to a record
pub fields_allowed : (profile : Profile) → profile_fits profile ≡ true → profile.fields ≤ 32
unfolding profile_fits
fields_allowed profile h =
    let fees = eqb (length profile.flat) 5 && fees_fit profile.flat in
    let fields = between 19 32 profile.fields in
    let last = and_right fees fields (and_right (real profile.today.0) (fees && fields) h) in
    leb-true profile.fields 32 (and_right (leb 19 profile.fields) (leb profile.fields 32) last)
