-- Money that is spelled: how long it is, that it reads back, and that what was read is spelled as it was.
-- Assumes nothing.
use mathlib.Core.Path.{◌≡◌, refl, sym, ◌∙◌, ap}
use mathlib.Core.Bool.{true, cond, ◌&&◌}
use mathlib.Core.List.{List, [], ◌∷◌, ◌++◌}
use Prim.Native.Nat.{ℕ, suc, ◌+◌, ◌*◌, ◌-◌, ◌/◌, ◌%◌, ◌≤◌}
use native.Mathlib.Omega.{arith}
use borrow.Author.Tests.{eqb-true, ltb-true, ltb-false}
use lib.Dec.{eqb, ltb}
use lib.ListN.{length, get_or, take, drop, length-append}
use lib.Seq.{split_at, take_at, get_or_at, drop-append-add}
use Rattle.text.specs.Number.{number}
use Rattle.std.specs.Prelude.{Option, Some, None}
use Rattle.text.proofs.Branches.{either_way, and_left, and_right}
use Rattle.text.proofs.Digits.{number_bound}
use Rattle.money.specs.Money.{amount, grosze_of}
use Rattle.money.specs.Text.{together, no_leading_zero, text_of}
use Rattle.write.specs.Spelled.{digits, places_of, spelled}
use Rattle.write.specs.Money.{money_text, MoneyIsRead, ReadIsSpelled, OneSpelling}
use Rattle.write.proofs.Spelling.{digits_long, spelled_is_read, digits_are_read}
use Rattle.write.proofs.ReadDigits.{read_digits, number_says, spelled_led, led_is_spelled}

pub money_long : (n : ℕ) → length (money_text n) ≡ places_of (n / 100) + 3
unfolding money_text
money_long n =
    let a = length-append (spelled (n / 100)) (0x2E ∷ digits 2 n) in
    let b = digits_long (places_of (n / 100)) (n / 100) in
    let c = digits_long 2 n in
    omega arith

-- a text that is read as money: its point, its two numbers, and that they are all of it
record Parts (most : ℕ) (s : List ℕ) (n : ℕ) : Type 0 where
  zlote : ℕ
  grosze : ℕ
  point : get_or s (length s - 3) 0 ≡ 0x2E
  led : no_leading_zero (take (length s - 3) s) ≡ true
  is_zlote : number 1 most (take (length s - 3) s) ≡ Some zlote
  is_grosze : number 2 2 (drop (length s - 2) s) ≡ Some grosze
  value : n ≡ zlote * 100 + grosze

record Together (a b : Option ℕ) (n : ℕ) : Type 0 where
  whole : ℕ
  rest : ℕ
  is_whole : a ≡ Some whole
  is_rest : b ≡ Some rest
  sum : n ≡ whole * 100 + rest

together_says : (a b : Option ℕ) (n : ℕ) → together a b ≡ Some (amount n) → Together a b n
unfolding together grosze_of
together_says (Some z) (Some g) n e = record { whole = z; rest = g; is_whole = refl; is_rest = refl; sum = sym (ap grosze_of e) }
together_says (Some z) None n e = cc
together_says None b n e = cc

parts_of_lem : (most : ℕ) (s : List ℕ) (n : ℕ) → text_of most s ≡ Some (amount n) → Parts most s n
unfolding text_of
parts_of_lem most s n e =
    let point = eqb (get_or s (length s - 3) 0) 0x2E in
    let led = no_leading_zero (take (length s - 3) s) in
    either_way (point && led)
    (λ shaped.
    let both = together_says (number 1 most (take (length s - 3) s)) (number 2 2 (drop (length s - 2) s)) n (rw shaped at e) in record {
      zlote = both.whole;
      grosze = both.rest;
      point = eqb-true (get_or s (length s - 3) 0) 0x2E (and_left point led shaped);
      led = and_right point led shaped;
      is_zlote = both.is_whole;
      is_grosze = both.is_rest;
      value = both.sum;
    })
    (λ not. let never = rw not at e in cc)

-- by where the point stands
module _ (s : List ℕ) (k : ℕ) (long : length s ≡ k + 3) where
  before_point : take (length s - 3) s ≡ take k s
  before_point = let same : length s - 3 ≡ k = omega arith in ap (λ (j : ℕ). take j s) same

  behind_point : drop (length s - 2) s ≡ drop (suc k) s
  behind_point = let place : length s - 2 ≡ suc k = omega arith in ap (λ (j : ℕ). drop j s) place

  around_point : get_or s (length s - 3) 0 ≡ 0x2E → s ≡ take (length s - 3) s ++ (0x2E ∷ drop (length s - 2) s)
  around_point point =
      let place : length s - 3 ≡ k = omega arith in
      split_at s k 0 (omega arith)
      ∙ (λ i. sym before_point i ++ ((ap (λ (j : ℕ). get_or s j 0) (sym place) ∙ point) i ∷ sym behind_point i))

-- there is a digit before the point
long_enough : (s : List ℕ) → 1 ≤ length (take (length s - 3) s) → length s ≡ length s - 3 + 3
long_enough s some =
    either_way (ltb (length s) 4)
    (λ short.
    let less = ltb-true (length s) 4 short in
    let none : length s - 3 ≡ 0 = omega arith in
    absurd (omega (arith, rw none at some)))
    (λ long. let least = ltb-false (length s) 4 long in omega arith)

-- two digits are those of what is left of hundreds
two_digits : (n : ℕ) → digits 2 n ≡ digits 2 (n % 100)
unfolding digits
two_digits n =
    let tens : n / 10 % 10 ≡ n % 100 / 10 % 10 = omega arith in
    let ones : n % 10 ≡ n % 100 % 10 = omega arith in
    λ i. (0x30 + tens i) ∷ (0x30 + ones i) ∷ []

pub read_is_spelled : ReadIsSpelled
unfolding money_text
read_is_spelled most s n e =
    let parts = parts_of_lem most s n e in
    let z = parts.zlote in
    let g = parts.grosze in
    let before = take (length s - 3) s in
    let behind = drop (length s - 2) s in
    let zlote = number_says 1 most before z parts.is_zlote in
    let grosze = number_says 2 2 behind g parts.is_grosze in
    let least = grosze.0 in
    let most_two = grosze.1 in
    let below = rw parts.is_grosze at (number_bound 2 2 behind) in
    let value = parts.value in
    let hundreds : n / 100 ≡ z = omega arith in
    let rest : n % 100 ≡ g = omega arith in
    let whole : spelled z ≡ before = led_is_spelled before z zlote.0 zlote.2 zlote.3 parts.led in
    let two : digits 2 n ≡ behind = two_digits n ∙ ap (λ (k : ℕ). digits 2 k) rest ∙ read_digits 2 behind g (omega arith) grosze.3 in
    (λ i. spelled (hundreds i) ++ (0x2E ∷ two i)) ∙ ap (λ (t : List ℕ). t ++ (0x2E ∷ behind)) whole
    ∙ sym (around_point s (length s - 3) (long_enough s zlote.0) parts.point)

pub one_spelling : OneSpelling
one_spelling most most' s t n e e' = sym (read_is_spelled most s n e) ∙ read_is_spelled most' t n e'

-- what is spelled reads back
module _ (n : ℕ) where
  abbrev places : ℕ
  places = places_of (n / 100)

  spelled_point : get_or (money_text n) (length (money_text n) - 3) 0 ≡ 0x2E
  unfolding money_text
  spelled_point =
      let long = money_long n in
      let zlote = digits_long places (n / 100) in
      get_or_at (spelled (n / 100)) 0x2E (digits 2 n) 0 (length (money_text n) - 3) (omega arith)

  spelled_before : take (length (money_text n) - 3) (money_text n) ≡ spelled (n / 100)
  unfolding money_text
  spelled_before =
      before_point (money_text n) places (money_long n) ∙ take_at (spelled (n / 100)) (0x2E ∷ digits 2 n) places (digits_long places (n / 100))

  spelled_behind : drop (length (money_text n) - 2) (money_text n) ≡ digits 2 n
  unfolding money_text
  spelled_behind =
      let next : suc places ≡ length (spelled (n / 100)) + 1 = let long = digits_long places (n / 100) in omega arith in
      behind_point (money_text n) places (money_long n) ∙ ap (λ (k : ℕ). drop k (money_text n)) next ∙ drop-append-add (spelled (n / 100)) (0x2E ∷ digits 2 n) 1

  grosze_read : number 2 2 (digits 2 n) ≡ Some (n % 100)
  grosze_read = ap (λ (t : List ℕ). number 2 2 t) (two_digits n) ∙ digits_are_read 2 (n % 100) (omega arith) (omega arith)

pub money_is_read : MoneyIsRead
unfolding text_of together
money_is_read most n one few h =
    let zlote = spelled_is_read 1 most (n / 100) (omega arith) one few (omega arith) in
    let whole : n / 100 * 100 + n % 100 ≡ n = omega arith in
    (λ i. cond (eqb (spelled_point n i) 0x2E && no_leading_zero (spelled_before n i)) (together (number 1 most (spelled_before n i)) (number 2 2 (spelled_behind n i))) None)
    ∙ rw (spelled_led (n / 100), zlote, grosze_read n) (ap (λ (k : ℕ). Some (amount k)) whole)
