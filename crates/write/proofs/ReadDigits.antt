-- What was read as a number is spelled by its digits; and where it has no leading zero, as the number is spelled.
-- Assumes nothing.
use mathlib.Core.Path.{◌≡◌, refl, sym, ◌∙◌, ap}
use mathlib.Core.Bool.{true, ◌&&◌, false≢true}
use mathlib.Core.List.{List, [], ◌∷◌, ◌++◌}
use Prim.Native.Nat.{ℕ, zero, suc, ◌+◌, ◌*◌, ◌-◌, ◌/◌, ◌%◌, ◌^◌, ◌≤◌, ◌<◌}
use native.Mathlib.Omega.{arith}
use borrow.Author.Tests.{eq-eqb, ne_eqb, leb-true, le-leb, ltb-true, ltb-false}
use lib.Dec.{leb, ltb}
use lib.ListN.{length, get_or, take, get_or-append}
use lib.Seq.{length-take-le, take_all, take-suc}
use Rattle.text.specs.Bytes.{between, digit}
use Rattle.text.specs.Number.{number, number_after}
use Rattle.std.specs.Prelude.{Some}
use Rattle.text.proofs.Branches.{either_way, and_left, and_right}
use Rattle.text.proofs.Digits.{digit_range, number_bound, tens_rise}
use Rattle.money.specs.Text.{no_leading_zero}
use Rattle.write.specs.Spelled.{digits, places_within, places_of, spelled}
use Rattle.write.proofs.Spelling.{digits_long, tens, one_place, one_place_more, some_place, within_places, places_at_most}

-- the last digit of a number, and what stands before it
record LastDigit (n : ℕ) (s : List ℕ) (b v : ℕ) : Type 0 where
  rest : ℕ
  is_rest : number_after n s ≡ Some rest
  is_digit : (48 ≤ b) × (b ≤ 57)
  value : v ≡ rest * 10 + (b - 0x30)

last_digit : (n : ℕ) (s : List ℕ) (b v : ℕ) → number_after n (s ++ (b ∷ [])) ≡ Some v → LastDigit n s b v
unfolding number_after
last_digit n [] b v e =
    either_way (digit b)
    (λ is. record { rest = n; is_rest = refl; is_digit = digit_range b is; value = let same = rw is at e in cc })
    (λ not. let never = rw not at e in cc)
last_digit n (x ∷ s) b v e =
    either_way (digit x)
    (λ is.
    let last = last_digit (n * 10 + (x - 0x30)) s b v (rw is at e) in
    record { rest = last.rest; is_rest = rw is last.is_rest; is_digit = last.is_digit; value = last.value })
    (λ not. let never = rw not at e in cc)

pub read_digits : (k : ℕ) (t : List ℕ) (v : ℕ) → length t ≡ k → number_after 0 t ≡ Some v → digits k v ≡ t
unfolding digits
read_digits zero [] v e r = refl
read_digits zero (b ∷ t) v e r = absurd (omega (arith, e))
read_digits (suc k) t v e r =
    let all : t ≡ take k t ++ (get_or t k 0 ∷ []) = sym (take_all (suc k) t (omega arith)) ∙ take-suc t k 0 (omega arith) in
    let last = last_digit 0 (take k t) (get_or t k 0) v (ap (λ (s : List ℕ). number_after 0 s) (sym all) ∙ r) in
    let low = last.is_digit.0 in
    let high = last.is_digit.1 in
    let value = last.value in
    let tens : v / 10 ≡ last.rest = omega arith in
    let ones : 0x30 + v % 10 ≡ get_or t k 0 = omega arith in
    let before = read_digits k (take k t) last.rest (length-take-le k t (omega arith)) last.is_rest in
    (λ i. digits k (tens i) ++ (ones i ∷ [])) ∙ (λ i. before i ++ (get_or t k 0 ∷ [])) ∙ sym all

-- what a number that was read says of its text
pub number_says : (least most : ℕ) (s : List ℕ) (v : ℕ) → number least most s ≡ Some v
    → (least ≤ length s) × (length s ≤ most) × (length s ≤ 18) × (number_after 0 s ≡ Some v)
unfolding number
number_says least most s v e =
    either_way (between least most (length s) && leb (length s) 18)
    (λ fits.
    let long = and_left (between least most (length s)) _ fits in (
      leb-true least (length s) (and_left (leb least (length s)) _ long),
      leb-true (length s) most (and_right (leb least (length s)) _ long),
      leb-true (length s) 18 (and_right (between least most (length s)) _ fits),
      rw fits at e,
    ))
    (λ not. let never = rw not at e in cc)

-- the first of a number's digits is 0 where it has fewer, and is not where it has as many
first_digit : (l z : ℕ) → get_or (digits (suc (suc l)) z) 0 0 ≡ get_or (digits (suc l) (z / 10)) 0 0
unfolding digits
first_digit l z =
    let long = digits_long (suc l) (z / 10) in get_or-append (digits (suc l) (z / 10)) ((0x30 + z % 10) ∷ []) 0 0 (omega arith)

zero_first : (l z : ℕ) → z < 10 ^ l → get_or (digits (suc l) z) 0 0 ≡ 0x30
unfolding digits
zero_first zero z h = omega (arith, h)
zero_first (suc l) z h = let t = tens l in first_digit l z ∙ zero_first l (z / 10) (omega arith)

other_first : (l z : ℕ) → 10 ^ l ≤ z → z < 10 ^ suc l → get_or (digits (suc l) z) 0 0 ≡ 0x30 → ⊥
unfolding digits
other_first zero z h less e = omega (arith, h, less, e)
other_first (suc l) z h less e =
    let t = tens l in
    let u = tens (suc l) in
    other_first l (z / 10) (omega arith) (omega arith) (sym (first_digit l z) ∙ e)

places_least : (f n : ℕ) → n ≤ f → 1 ≤ n → 10 ^ places_within f n ≤ n * 10
unfolding places_within
places_least zero n h some = absurd (omega (arith, h, some))
places_least (suc f) n h some =
    either_way (ltb n 10)
    (λ small. rw small (omega arith))
    (λ large.
    let m = ltb-false n 10 large in
    let rest = places_least f (n / 10) (omega arith) (omega arith) in
    rw (large, tens (places_within f (n / 10))) (omega arith))

pub spelled_led : (z : ℕ) → no_leading_zero (spelled z) ≡ true
spelled_led z =
    either_way (ltb z 10)
    (λ small.
    let long = digits_long (places_of z) z in
    let one = one_place z (ltb-true z 10 small) in
    rw (eq-eqb (length (spelled z)) 1 (omega arith)))
    (λ large.
    let m = ltb-false z 10 large in
    let places = one_place_more z m in
    let least = places_least (z / 10) (z / 10) (omega arith) (omega arith) in
    let most = rw places at (within_places z) in
    let other = other_first (places_of (z / 10)) z (omega arith) most in
    let long = digits_long (places_of z) z in
    let some = some_place (z / 10) in
    let many = ne_eqb (length (spelled z)) 1 (λ e. omega arith) in
    rw (many, ne_eqb (get_or (spelled z) 0 0) 0x30 (λ e. other (ap (λ (k : ℕ). get_or (digits k z) 0 0) (sym places) ∙ e))))

-- a text without a leading zero
module _ (t : List ℕ) (v : ℕ) (some : 1 ≤ length t) (few : length t ≤ 18) (r : number_after 0 t ≡ Some v) (led : no_leading_zero t ≡ true) where
  whole_number : number (length t) (length t) t ≡ Some v
  unfolding number
  whole_number = rw (le-leb (length t) (length t) (omega arith), le-leb (length t) 18 few) r

  read_below : v < 10 ^ length t
  read_below = rw whole_number at (number_bound (length t) (length t) t)

  -- with fewer digits its first one would be 0
  none_fewer : places_of v < length t → ⊥
  none_fewer less =
      let l = length t - 1 in
      let long : length t ≡ suc l = omega arith in
      let place = some_place v in
      let rises = tens_rise {i = places_of v} {j = l} (omega arith) in
      let below = within_places v in
      let zero_there = zero_first l v (omega arith) in
      let is = read_digits (suc l) t v long r in
      let first : get_or t 0 0 ≡ 0x30 = ap (λ (s : List ℕ). get_or s 0 0) (sym is) ∙ zero_there in
      let many = ne_eqb (length t) 1 (λ e. omega arith) in
      false≢true (rw (many, eq-eqb (get_or t 0 0) 0x30 first) at led)

  pub led_is_spelled : spelled v ≡ t
  led_is_spelled =
      let most = places_at_most (length t) v some read_below in
      either_way (ltb (places_of v) (length t))
      (λ fewer. absurd (none_fewer (ltb-true (places_of v) (length t) fewer)))
      (λ not.
      let least = ltb-false (places_of v) (length t) not in
      let same : places_of v ≡ length t = omega arith in
      ap (λ (k : ℕ). digits k v) same ∙ read_digits (length t) t v refl r)
