-- An order and a shipment entered are read back, and nothing else moves.
-- Assumes nothing.
use mathlib.Core.Path.{◌≡◌, refl, ap, subst, ◌∙◌}
use mathlib.Core.Bool.{true, ◌&&◌}
use mathlib.Core.List.{List, [], ◌++◌, append-nil}
use Prim.Native.Nat.{ℕ, zero, suc, ◌+◌, ◌-◌, ◌^◌, ◌<◌, ◌≤◌}
use native.Mathlib.Nat.{zero-add}
use native.Mathlib.Numerals.{add-one}
use native.Mathlib.Omega.{arith}
use borrow.Author.Tests.{eqb-false, leb-true, le-leb}
use borrow.Rule.Slice.PartMut.{put_mid}
use lib.Dec.{eqb, leb}
use lib.ListN.{length, get_or, set, take, drop}
use lib.Seq.{drop-length, take_at, take_all, get_or-append-add, paste, paste-zero, paste-suc}
use Rattle.std.proofs.lemmas.Slice.{put_mid-paste}
use Rattle.money.specs.Money.{amount, fee}
use Rattle.fee.specs.Fee.{TermsFit, remainder_of, fee_of}
use Rattle.fee.specs.declared.Terms.{Terms}
use Rattle.text.proofs.Branches.{both_yes, cond_either}
use Rattle.calendar.proofs.Parts.{parts_of_lem}
use Rattle.epe.specs.Ident.{ident_in_form}
use Rattle.epe.specs.Name.{name_in_form}
use Rattle.epe.specs.declared.name.Name.{Name}
use Rattle.contents.specs.declared.record.Order.{Order}
use Rattle.model.specs.Shipment.{most_shipments, most_rows}
use Rattle.model.specs.Book.{entered_state, new_shipment}
use Rattle.model.specs.Sound.{fault_in_range}
use Rattle.model.specs.declared.Row.{Row}
use Rattle.model.specs.declared.State.{State}
use Rattle.model.specs.declared.State.TheVariants.{Open, Faulty}
use Rattle.model.proofs.SoundParts.{halves}
use Rattle.memory.specs.Number.{number_at}
use Rattle.memory.specs.Layout.{head_size, head_at, size, head_bytes, IsHead, OnlyHead}
use Rattle.memory.specs.States.{last_fault}
use Rattle.memory.specs.Heads.{stage_of, flags_in_form, order_count_in, shipment_in}
use Rattle.memory.specs.Inner.Stored.{code_of}
use Rattle.memory.specs.Inner.Enter.{Enterable, OrderEntered, HeadEntered, fields_of, HeadStored}
use Rattle.memory.proofs.Parts.{part_long, head_byte, head_byte_only}
use Rattle.memory.proofs.Frames.{only_none, only_again}
use Rattle.memory.proofs.StateLaws.{state_is_read_back}
use Rattle.memory.proofs.RowStores.{with_row, read_back, only_it}

-- the state of an order as it is entered
entered_in_range : (order : Order) → order.fault ≤ last_fault → fault_in_range (entered_state order) ≡ true
entered_in_range order known =
    let fault = order.fault in
    cond_either (λ (state : State). fault_in_range state ≡ true) (eqb fault 0) Open (Faulty fault true true) (λ none. refl)
    (λ some. both_yes (leb 1 fault) (leb fault last_fault) (le-leb 1 fault (omega (arith, eqb-false fault 0 some))) (le-leb fault last_fault known))

-- its row
module _ (terms : Terms) (order : Order) (k : ℕ) (m : List ℕ) (there : k < most_rows) (enough : size ≤ length m) where
  abbrev grosze : ℕ
  grosze = order.amount.0

  abbrev code : ℕ
  code = code_of (entered_state order)

  pub order_entered : Enterable terms order → OrderEntered terms order k m (with_row m k grosze (fee_of terms grosze) (remainder_of terms grosze) code)
  order_entered fits =
      let state = state_is_read_back (entered_state order) (entered_in_range order fits.fault_known) in
      let fee_fits = fits.fee_fits_holds in
      let back =
      read_back m k grosze (fee_of terms grosze) (remainder_of terms grosze) code there enough (omega (arith, fits.amount_fits_holds)) (omega (arith, fee_fits)) (omega arith) in
      record {
        row = back ∙ (λ i. record { amount = amount grosze; fee = fee (fee_of terms grosze); remainder = remainder_of terms grosze; state = state i });
        only = only_it m k grosze (fee_of terms grosze) (remainder_of terms grosze) code there;
      }

-- bytes pasted, one more of them each time: j of them, and the rest as it was
one_more : (a b : List ℕ) (j : ℕ) → j < length a → j < length b → set (take j a ++ drop j b) j (get_or a j 0) ≡ take (j + 1) a ++ drop (j + 1) b
one_more a b j more room = rw (add-one j) (rw (zero-add j, zero-add (suc j)) at (paste-suc b 0 a j 0 (omega arith) more))

record Storing (head : List ℕ) (j i : ℕ) (m m' : List ℕ) : Type 0 where
  within : j ≤ head_size
  bytes : head_bytes m' i ≡ take j head ++ drop j (head_bytes m i)
  only : OnlyHead i m m'

module _ (head : List ℕ) (i : ℕ) (m : List ℕ) where
  storing_none : Storing head 0 i m m
  storing_none = record { within = omega arith; bytes = refl; only = only_none }

  module _ (whole : IsHead head) (few : i < most_shipments) (enough : size ≤ length m) where
    as_long_as : IsHead (head_bytes m i)
    unfolding head_bytes
    as_long_as = part_long m (head_at i) head_size (omega arith)

    storing_one_more : (j : ℕ) (m' : List ℕ) → j < head_size → Storing head j i m m' → Storing head (j + 1) i m (set m' (head_at i + j) (get_or head j 0))
    storing_one_more j m' more so_far = record {
      within = omega arith;
      bytes =
          head_byte m' i j (get_or head j 0) more
          ∙ ap (λ bytes. set bytes j (get_or head j 0)) so_far.bytes
          ∙ one_more head (head_bytes m i) j (omega arith) (omega (arith, as_long_as));
      only = only_again so_far.only (head_byte_only m' i j (get_or head j 0) more few);
    }

    all_stored : (m' : List ℕ) → Storing head head_size i m m' → HeadStored head i m m'
    all_stored m' so_far =
        let none : drop head_size (head_bytes m i) ≡ [] = rw as_long_as at (drop-length (head_bytes m i)) in
        record { bytes = so_far.bytes ∙ ap (λ rest. take head_size head ++ rest) none ∙ append-nil (take head_size head) ∙ take_all head_size head (omega arith); only = so_far.only }

    storing : (j : ℕ) → j ≤ head_size → Storing head j i m (paste m (head_at i) head j)
    storing zero few_bytes = subst (Storing head 0 i m) (paste-zero m (head_at i) head) storing_none
    storing (suc j) few_bytes =
        subst (λ n. Storing head n i m (paste m (head_at i) head (suc j))) (add-one j)
        (subst (Storing head (j + 1) i m) (paste-suc m (head_at i) head j 0 (omega arith) (omega arith))
        (storing_one_more j (paste m (head_at i) head j) (omega arith) (storing j (omega arith))))

    pub head_stored : (part : List ℕ) → part ≡ head → HeadStored head i m (put_mid (head_at i) (head_at i + head_size - head_at i) m part)
    head_stored part is =
        rw (put_mid-paste (head_at i) (head_at i + head_size - head_at i) m part head head_size is (omega arith) (omega arith))
        (all_stored (paste m (head_at i) head head_size) (storing head_size (omega arith)))

-- a number behind a list
number_behind : (width : ℕ) (a b : List ℕ) (q : ℕ) → number_at width (a ++ b) (length a + q) ≡ number_at width b q
unfolding number_at
number_behind zero a b q = refl
number_behind (suc width) a b q =
    let next : length a + suc q ≡ suc (length a + q) = omega arith in
    omega (arith, get_or-append-add a b q 0, rw next at (number_behind width a b (suc q)))

-- the fields of a name in form fit their bytes
pub record Fits (name : Name) : Type 0 where
  pub len : name.ident.len ≤ 17
  pub date : name.date.0 < 2 ^ 32
  pub kind : name.kind ≤ 4

pub name_fits : (name : Name) → name_in_form name ≡ true → Fits name
unfolding name_in_form ident_in_form
name_fits name h = record {
  len = leb-true name.ident.len 17 (search halves);
  date = omega (arith, (parts_of_lem name.date.0 (search halves)).to_2099);
  kind = leb-true name.kind 4 (search halves);
}

-- a head as it is entered, read back
module _ (name : Name) (terms : Terms) (n : ℕ) (long : length name.ident.bytes ≡ 17) where
  abbrev head : List ℕ
  head = name.ident.bytes ++ fields_of name terms n

  byte_there : (q : ℕ) → get_or head (17 + q) 0 ≡ get_or (fields_of name terms n) q 0
  byte_there q = rw long at (get_or-append-add name.ident.bytes (fields_of name terms n) q 0)

  number_there : (width q : ℕ) → number_at width head (17 + q) ≡ number_at width (fields_of name terms n) q
  number_there width q = rw long at (number_behind width name.ident.bytes (fields_of name terms n) q)

  shipment_there : Fits name → TermsFit terms → (rows : List Row) → shipment_in head rows ≡ new_shipment name terms rows
  unfolding shipment_in number_at stage_of fields_of
  shipment_there fits terms_fit_holds rows =
      let date : number_at 4 head 18 ≡ name.date.0 = number_there 4 1 ∙ omega (arith, fits.date) in
      let flat_there : number_at 4 head 24 ≡ terms.flat.0 = number_there 4 7 ∙ omega (arith, terms_fit_holds.0) in
      let rate_there : number_at 2 head 64 ≡ terms.rate.0 = number_there 2 47 ∙ omega (arith, terms_fit_holds.1) in
      λ i. record {
        agreed = record {
          name = record {
            ident = record { bytes = take_at name.ident.bytes (fields_of name terms n) 17 long i; len = byte_there 0 i };
            date = record { 0 = date i };
            payment = byte_there 5 i;
            kind = byte_there 6 i;
          };
          terms = record { flat = record { 0 = flat_there i }; rate = record { 0 = rate_there i } };
        };
        stage = stage_of (byte_there 11 i);
        go_ahead = eqb (byte_there 12 i) 1;
        accepted_sums = record { k = number_there 8 15 i; o = number_there 8 23 i };
        returned_sums = record { k = number_there 8 31 i; o = number_there 8 39 i };
        rows = rows;
      }

  pub head_entered : (i : ℕ) (m m' : List ℕ) → name_in_form name ≡ true → TermsFit terms → n < 2 ^ 16 → HeadStored head i m m'
      → HeadEntered name terms n i m m'
  unfolding number_at fields_of
  head_entered i m m' in_form terms_fit_holds n_fits stored =
      let orders : order_count_in head ≡ n = number_there 2 13 ∙ omega arith in
      record {
        shipment = λ rows. ap (λ bytes. shipment_in bytes rows) stored.bytes ∙ shipment_there (name_fits name in_form) terms_fit_holds rows;
        orders = ap order_count_in stored.bytes ∙ orders;
        flags = ap flags_in_form stored.bytes ∙ (λ j. leb (byte_there 11 j) 2 && leb (byte_there 12 j) 1);
        only = stored.only;
      }
