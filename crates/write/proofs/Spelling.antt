-- Numbers that are spelled: how many digits they have, and what they read back as.
-- Assumes nothing.
use mathlib.Core.Path.{◌≡◌, refl, sym, ◌∙◌, ap}
use mathlib.Core.Bool.{true}
use mathlib.Core.List.{List, [], ◌∷◌, ◌++◌}
use Prim.Native.Nat.{ℕ, zero, suc, ◌+◌, ◌*◌, ◌-◌, ◌/◌, ◌%◌, ◌^◌, ◌≤◌, ◌<◌}
use native.Mathlib.Numerals.{add-one}
use native.Mathlib.Omega.{arith}
use borrow.Author.Tests.{ltb-true, ltb-false, lt-ltb, le-ltb, le-leb}
use Rattle.std.proofs.Math.Nat.{one-le-pow}
use lib.Dec.{ltb, leb}
use lib.ListN.{length, length-append}
use Rattle.text.specs.Bytes.{digit}
use Rattle.text.specs.Number.{number, number_after}
use Rattle.std.specs.Prelude.{Some}
use Rattle.text.proofs.Branches.{either_way, both_yes}
use Rattle.text.proofs.Digits.{ten_more}
use Rattle.write.specs.Spelled.{digits, places_within, places_of, SpelledIsRead, DigitsAreRead}

pub digits_long : (places n : ℕ) → length (digits places n) ≡ places
unfolding digits
digits_long zero n = refl
digits_long (suc places) n =
    let l = length-append (digits places (n / 10)) ((0x30 + n % 10) ∷ []) in
    let before = digits_long places (n / 10) in
    omega arith

-- a digit, and one behind other digits
digit_is : (d : ℕ) → d < 10 → digit (0x30 + d) ≡ true
unfolding digit
digit_is d h = both_yes (leb 0x30 (0x30 + d)) (leb (0x30 + d) 0x39) (le-leb 0x30 (0x30 + d) (omega arith)) (le-leb (0x30 + d) 0x39 (omega arith))

digit_more : (n m d : ℕ) (s : List ℕ) → d < 10 → number_after n s ≡ Some m → number_after n (s ++ ((0x30 + d) ∷ [])) ≡ Some (m * 10 + d)
unfolding number_after
digit_more n m d [] h e = rw (digit_is d h) (ap Some (let same : n ≡ m = cc in omega arith))
digit_more n m d (b ∷ s) h e =
    either_way (digit b)
    (λ is. rw is (digit_more (n * 10 + (b - 0x30)) m d s h (rw is at e)))
    (λ not. let never = rw not at e in cc)

pub digits_read : (places n : ℕ) → n < 10 ^ places → number_after 0 (digits places n) ≡ Some n
unfolding digits number_after
digits_read zero n h = ap Some (omega (arith, h))
digits_read (suc places) n h =
    let tens = ten_more places in
    let last : n % 10 < 10 = omega arith in
    digit_more 0 (n / 10) (n % 10) (digits places (n / 10)) last (digits_read places (n / 10) (omega arith)) ∙ ap Some (omega arith)

-- how many digits there are does not depend on what is more than enough
places_enough : (f g n : ℕ) → n ≤ f → n ≤ g → places_within f n ≡ places_within g n
unfolding places_within
places_enough zero zero n h k = refl
places_enough zero (suc g) n h k = rw (lt-ltb n 10 (omega arith))
places_enough (suc f) zero n h k = rw (lt-ltb n 10 (omega arith))
places_enough (suc f) (suc g) n h k =
    either_way (ltb n 10)
    (λ small. rw small)
    (λ large. let m = ltb-false n 10 large in rw large (ap suc (places_enough f g (n / 10) (omega arith) (omega arith))))

pub one_place : (n : ℕ) → n < 10 → places_of n ≡ 1
unfolding places_within
one_place zero h = refl
one_place (suc n) h = rw (lt-ltb (suc n) 10 h)

pub one_place_more : (n : ℕ) → 10 ≤ n → places_of n ≡ suc (places_of (n / 10))
unfolding places_within
one_place_more zero h = absurd (omega (arith, h))
one_place_more (suc n) h =
    rw (le-ltb (suc n) 10 h) (ap suc (places_enough n (suc n / 10) (suc n / 10) (omega arith) (omega arith)))

-- a number has as many digits as it needs, and one at least
pub some_place : (n : ℕ) → 1 ≤ places_of n
some_place n =
    either_way (ltb n 10)
    (λ small. rw (one_place n (ltb-true n 10 small)) (omega arith))
    (λ large. rw (one_place_more n (ltb-false n 10 large)) (omega arith))

-- `suc` and `+ 1`
pub tens : (k : ℕ) → 10 ^ suc k ≡ 10 ^ k * 10
tens k = ap (λ (j : ℕ). 10 ^ j) (sym (add-one k)) ∙ ten_more k

-- by the power of ten that it reaches
pub some_places : (k n : ℕ) → 10 ^ k ≤ n → n < 10 * 10 ^ k → places_of n ≡ k + 1
some_places zero n low high = one_place n (omega (arith, high))
some_places (suc k) n low high =
    let more = tens k in
    let some : 10 ≤ n = omega (arith, low, one-le-pow k 10 (omega arith)) in
    let rest = some_places k (n / 10) (omega arith) (omega arith) in
    let all = one_place_more n some in
    omega arith

places_within_lem : (f n : ℕ) → n ≤ f → n < 10 ^ places_within f n
unfolding places_within
places_within_lem zero n h = omega arith
places_within_lem (suc f) n h =
    either_way (ltb n 10)
    (λ small. rw small (ltb-true n 10 small))
    (λ large.
    let m = ltb-false n 10 large in
    let rest = places_within_lem f (n / 10) (omega arith) in
    rw (large, tens (places_within f (n / 10))) (omega arith))

pub within_places : (n : ℕ) → n < 10 ^ places_of n
within_places n = places_within_lem n n (omega arith)

pub places_at_most : (k n : ℕ) → 1 ≤ k → n < 10 ^ k → places_of n ≤ k
places_at_most zero n h l = absurd (omega (arith, h))
places_at_most (suc zero) n h l = rw (one_place n l) (omega arith)
places_at_most (suc (suc k)) n h l =
    either_way (ltb n 10)
    (λ small. rw (one_place n (ltb-true n 10 small)) (omega arith))
    (λ large.
    let t = tens (suc k) in
    let more = places_at_most (suc k) (n / 10) (omega arith) (omega arith) in
    rw (one_place_more n (ltb-false n 10 large)) (omega arith))

-- what was written reads back
read_within : (least most places n : ℕ) → least ≤ places → places ≤ most → places ≤ 18 → n < 10 ^ places → number least most (digits places n) ≡ Some n
unfolding number
read_within least most places n l m e h =
    rw (digits_long places n, le-leb least places l, le-leb places most m, le-leb places 18 e) (digits_read places n h)

pub spelled_is_read : SpelledIsRead
spelled_is_read least most n l one m h =
    let p = places_at_most most n one h in
    read_within least most (places_of n) n (let some = some_place n in omega arith) p (omega arith) (within_places n)

pub digits_are_read : DigitsAreRead
digits_are_read places n e h = read_within places places places n (omega arith) (omega arith) e h
