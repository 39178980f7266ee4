-- Rows are asked one after the other: what was answered, with what is still to ask, is the whole. The questions of a row, asked column by column, are all
-- that soundness asks of its amount, fee and remainder.
-- Assumes nothing.
use mathlib.Core.Path.{◌≡◌, refl, sym, ap, subst, ◌∙◌}
use mathlib.Core.Bool.{Bool, true, false, ◌&&◌, and_assoc}
use mathlib.Core.List.{List, [], ◌∷◌}
use Prim.Native.Nat.{ℕ, ◌*◌, ◌≤◌}
use native.Mathlib.Nat.{suc-mul, mul-le-mul}
use native.Mathlib.Omega.{arith}
use borrow.Author.Tests.{eqb-true, eq-eqb, ne_eqb, le-leb}
use lib.Bits.{bit_or, or_add_and, and_le_l, and_le_r}
use lib.Dec.{eqb}
use lib.ListN.{length}
use Rattle.std.specs.Prelude.{Some, None}
use Rattle.text.proofs.Branches.{and_left, and_right, both_yes, first_no_lem, second_no, both_ways}
use Rattle.money.specs.Money.{amount, fee, order_cap, WithinOrder, WithinSum}
use Rattle.money.specs.declared.Amount.{Amount}
use Rattle.money.specs.declared.Fee.{Fee}
use Rattle.money.specs.declared.Money.TheVariants.{K, O}
use Rattle.fee.specs.Fee.{rate, divides}
use Rattle.fee.specs.declared.Terms.{Terms}
use Rattle.fee.proofs.Division.{facts_of, divides_by, difference_tells}
use Rattle.epe.specs.Profile.{each}
use Rattle.model.specs.Shipment.{most_rows, sum_over, worth}
use Rattle.model.specs.Sound.{row_charged}
use Rattle.model.specs.declared.Row.{Row}
use Rattle.memory.proofs.Columns.{Adding, adding_begun, adding_on, adding_done, adding_within}
use Rattle.sound.specs.declared.charges.Products.{Products}
use Rattle.sound.specs.Inner.Charges.{amount_fits, fee_fits, remainder_fits, is_flat, has_none, difference_of, is_even, charges_of, SmallCharges, Multiplied, WithProduct, SmallProducts}

and_yes : (t : Bool) → (t && true) ≡ t
and_yes true = refl
and_yes false = refl

-- It is still to ask of rows that are left whether they pass a test.
abbrev pub Asking : (Row → Bool) → List Row → List Row → Bool → Type 0
Asking test rows left fit = (fit && each test left) ≡ each test rows

module _ (test : Row → Bool) (rows : List Row) (fit : Bool) where
  pub asking_on : (row : Row) (left : List Row) → Asking test rows (row ∷ left) fit → Asking test rows left (fit && test row)
  asking_on row left going = and_assoc fit (test row) (each test left) ∙ going

  pub asking_done : Asking test rows [] fit → fit ≡ each test rows
  asking_done all = sym (and_yes fit) ∙ all

-- two tests of each, and a test that is another
four_ways : (a b s t : Bool) → ((a && b) && (s && t)) ≡ ((a && s) && (b && t))
four_ways true true s t = refl
four_ways true false true t = refl
four_ways true false false t = refl
four_ways false b s t = refl

both_each : {A : Type 0} (f g : A → Bool) (l : List A) → each (λ a. f a && g a) l ≡ (each f l && each g l)
both_each f g [] = refl
both_each f g (a ∷ l) = ap (λ t. (f a && g a) && t) (both_each f g l) ∙ four_ways (f a) (g a) (each f l) (each g l)

same_each : {A : Type 0} {f g : A → Bool} → ((a : A) → f a ≡ g a) → (l : List A) → each f l ≡ each g l
same_each same [] = refl
same_each same (a ∷ l) = λ i. same a i && same_each same l i

-- the questions of a row's amount, fee and remainder, each of all rows
module _ (terms : Terms) (rows : List Row) where
  even_row : (row : Row) → (fee_fits row && divides terms row.amount.0 row.fee.0 row.remainder) ≡ (fee_fits row && (remainder_fits row && is_even terms row))
  even_row row = ap (λ t. fee_fits row && t) (difference_tells terms row.amount.0 row.fee.0 row.remainder)

  pub charged_apart : each (row_charged terms) rows
      ≡ ((each amount_fits rows && (each fee_fits rows && each remainder_fits rows)) && each (is_even terms) rows)
  charged_apart =
      both_each amount_fits (λ (row : Row). fee_fits row && divides terms row.amount.0 row.fee.0 row.remainder) rows
      ∙ ap (λ t. each amount_fits rows && t)
      (same_each even_row rows
      ∙ both_each fee_fits (λ (row : Row). remainder_fits row && is_even terms row) rows
      ∙ ap (λ t. each fee_fits rows && t) (both_each remainder_fits (is_even terms) rows)
      ∙ sym (and_assoc (each fee_fits rows) (each remainder_fits rows) (each (is_even terms) rows)))
      ∙ sym (and_assoc (each amount_fits rows) (each fee_fits rows && each remainder_fits rows) (each (is_even terms) rows))

-- and without a rate
module _ (flat : Fee) (within : WithinOrder flat.0) (rows : List Row) where
  abbrev without : Terms
  without = record { flat = flat; rate = rate 0 }

  flat_row : (row : Row) → (fee_fits row && divides without row.amount.0 row.fee.0 row.remainder) ≡ (is_flat flat.0 row && has_none row)
  flat_row row =
      let division = divides without row.amount.0 row.fee.0 row.remainder in
      both_ways (fee_fits row && division) (is_flat flat.0 row && has_none row)
      (λ h.
      let facts = facts_of without row.amount.0 row.fee.0 row.remainder (and_right (fee_fits row) division h) in
      both_yes (is_flat flat.0 row) (has_none row) (eq-eqb row.fee.0 flat.0 (omega (arith, facts.flat, facts.equal)))
      (eq-eqb row.remainder 0 (omega (arith, facts.equal))))
      (λ h.
      let is_fee = eqb-true row.fee.0 flat.0 (and_left (is_flat flat.0 row) (has_none row) h) in
      let is_remainder = eqb-true row.remainder 0 (and_right (is_flat flat.0 row) (has_none row) h) in
      both_yes (fee_fits row) division (le-leb row.fee.0 order_cap (omega arith))
      (divides_by without row.amount.0 row.fee.0 row.remainder (record { flat = omega arith; below = omega arith; equal = omega arith })))

  pub charged_flat : each (row_charged without) rows ≡ (each amount_fits rows && (each (is_flat flat.0) rows && each has_none rows))
  charged_flat =
      both_each amount_fits (λ (row : Row). fee_fits row && divides without row.amount.0 row.fee.0 row.remainder) rows
      ∙ ap (λ t. each amount_fits rows && t) (same_each flat_row rows ∙ both_each (is_flat flat.0) has_none rows)

-- fees that are all the flat part, added up
pub flat_sum : (flat : ℕ) (rows : List Row) → each (is_flat flat) rows ≡ true → sum_over (worth O) rows ≡ length rows * flat
flat_sum flat [] h = omega arith
flat_sum flat (row ∷ rows) h =
    let first = eqb-true row.fee.0 flat (and_left (is_flat flat row) (each (is_flat flat) rows) h) in
    let rest = flat_sum flat rows (and_right (is_flat flat row) (each (is_flat flat) rows) h) in
    omega (arith, suc-mul (length rows) flat)

-- The products of rows, one after the other: what is added and joined, with what is still to take, is the whole.
pub record Multiplying (terms : Terms) (rows left : List Row) (products : Products) : Type 0 where
  pub amounts : Adding K rows left products.amounts.0
  pub fees : Adding O rows left products.fees.0
  pub even : Asking (is_even terms) rows left (eqb products.differences 0)

none_joined : (a b : ℕ) → eqb (bit_or a b) 0 ≡ (eqb a 0 && eqb b 0)
none_joined a b =
    both_ways (eqb (bit_or a b) 0) (eqb a 0 && eqb b 0)
    (λ h.
    let none = eqb-true (bit_or a b) 0 h in
    both_yes (eqb a 0) (eqb b 0) (eq-eqb a 0 (omega (arith, or_add_and a b, and_le_r a b))) (eq-eqb b 0 (omega (arith, or_add_and a b, and_le_l a b))))
    (λ h.
    let first = eqb-true a 0 (and_left (eqb a 0) (eqb b 0) h) in
    let second = eqb-true b 0 (and_right (eqb a 0) (eqb b 0) h) in
    eq-eqb (bit_or a b) 0 (omega (arith, or_add_and a b)))

module _ {terms : Terms} {rows : List Row} where
  pub multiplying_begun : Multiplying terms rows rows (record { amounts = amount 0; fees = fee 0; differences = 0 })
  multiplying_begun = record { amounts = adding_begun; fees = adding_begun; even = refl }

  pub products_small : {row : Row} {left : List Row} {products : Products} → Multiplying terms rows (row ∷ left) products → length rows ≤ most_rows → SmallProducts products
  products_small going few = record { amounts = omega (arith, going.amounts.low, few); fees = omega (arith, going.fees.low, few) }

  pub multiplying_on : {row : Row} {left : List Row} {products next : Products} → Multiplying terms rows (row ∷ left) products → WithProduct terms products row next
      → Multiplying terms rows left next
  multiplying_on {row} {left} {products} {next} going one = record {
    amounts = adding_on going.amounts one.amount_low one.amounts_are;
    fees = adding_on going.fees one.fee_low one.fees_are;
    even =
        subst (Asking (is_even terms) rows left)
        (sym (ap (λ (d : ℕ). eqb d 0) one.differences_are ∙ none_joined products.differences (difference_of terms row)))
        (asking_on (is_even terms) rows (eqb products.differences 0) row left going.even);
  }

  pub multiplied : {products : Products} → Multiplying terms rows [] products → length rows ≤ most_rows → Multiplied terms rows products
  multiplied {products} all few = record {
    amounts_are = ap amount (adding_done all.amounts);
    fees_are = ap fee (adding_done all.fees);
    told = asking_done (is_even terms) rows (eqb products.differences 0) all.even;
    amounts_low = adding_within all.amounts few;
    fees_low = adding_within all.fees few;
  }

-- what is found without a rate, and with one
pub fees_within_lem : (n : ℕ) (flat : ℕ) → n ≤ most_rows → WithinOrder flat → WithinSum (n * flat)
fees_within_lem n flat few within = let most = mul-le-mul few within in omega arith

module _ (terms : Terms) (rows : List Row) where
  abbrev all_charged : Bool
  all_charged = each (row_charged terms) rows

  not_all : all_charged ≡ false → None ≡ charges_of terms rows
  not_all h = rw h

  all : {amounts : Amount} {fees : Fee} → all_charged ≡ true → amounts ≡ amount (sum_over (worth K) rows) → fees ≡ fee (sum_over (worth O) rows)
      → Some (record { amounts = amounts; fees = fees }) ≡ charges_of terms rows
  all h amounts_are fees_are = rw (h, amounts_are, fees_are)

module _ (rows : List Row) (flat : Fee) (within : WithinOrder flat.0) where
  pub flat_wrong : false ≡ (each amount_fits rows && (each (is_flat flat.0) rows && each has_none rows)) → None ≡ charges_of (without flat within rows) rows
  flat_wrong h = not_all (without flat within rows) rows (charged_flat flat within rows ∙ sym h)

  pub flat_charged : {n : ℕ} → n ≡ length rows → n ≤ most_rows → {amounts : Amount} {fees : Fee}
      → amounts ≡ amount (sum_over (worth K) rows) → WithinSum amounts.0 → fees ≡ fee (n * flat.0)
      → true ≡ (each amount_fits rows && (each (is_flat flat.0) rows && each has_none rows))
      → (Some (record { amounts = amounts; fees = fees }) ≡ charges_of (without flat within rows) rows) × SmallCharges (record { amounts = amounts; fees = fees })
  flat_charged {n} many few amounts_are amounts_low fees_are h =
      let rest = and_right (each amount_fits rows) _ (sym h) in
      let sum = flat_sum flat.0 rows (and_left (each (is_flat flat.0) rows) (each has_none rows) rest) in (
        all (without flat within rows) rows (charged_flat flat within rows ∙ sym h) amounts_are
            (fees_are ∙ ap fee (ap (λ (many : ℕ). many * flat.0) many ∙ sym sum)),
        record { amounts_low = amounts_low; fees_low = rw fees_are (fees_within_lem n flat.0 few within) },
      )

module _ (terms : Terms) (rows : List Row) {products : Products} (found : Multiplied terms rows products) where
  abbrev in_range : Bool
  in_range = each amount_fits rows && (each fee_fits rows && each remainder_fits rows)

  pub out_of_range : false ≡ in_range → None ≡ charges_of terms rows
  out_of_range h = not_all terms rows (charged_apart terms rows ∙ first_no_lem in_range _ (sym h))

  pub differing : (products.differences ≡ 0 → ⊥) → None ≡ charges_of terms rows
  differing h = not_all terms rows (charged_apart terms rows ∙ second_no in_range _ (sym found.told ∙ ne_eqb products.differences 0 h))

  pub rated_charged : true ≡ in_range → products.differences ≡ 0
      → (Some (record { amounts = products.amounts; fees = products.fees }) ≡ charges_of terms rows) × SmallCharges (record { amounts = products.amounts; fees = products.fees })
  rated_charged h none = (
    all terms rows (charged_apart terms rows ∙ both_yes in_range _ (sym h) (sym found.told ∙ eq-eqb products.differences 0 none)) found.amounts_are found.fees_are,
    record { amounts_low = found.amounts_low; fees_low = found.fees_low },
  )
