-- What loading answers, by what the bytes were unpacked to.
-- Assumes nothing.
use mathlib.Core.Path.{◌≡◌, refl, sym, ◌∙◌, ap}
use mathlib.Core.Bool.{Bool, true, false, false≢true}
use mathlib.Core.List.{List}
use mathlib.Core.Option.{some}
use Prim.Native.Nat.{ℕ, ◌+◌, ◌*◌, ◌≤◌, ◌<◌, ◌-◌}
use native.Mathlib.Omega.{arith}
use borrow.Author.Tests.{leb-true, le-leb}
use lib.Dec.{leb, eqb}
use lib.ListN.{length, get_or, drop, length-append, length-drop}
use lib.Seq.{get_or-append-add, get_or-drop}
use Rattle.text.proofs.Branches.{and_left, and_right, both_yes}
use Rattle.model.specs.Shipment.{most_shipments}
use Rattle.model.specs.Book.{Book}
use Rattle.model.specs.Sound.{sound}
use Rattle.memory.specs.Layout.{size}
use Rattle.memory.specs.Read.{book_in, flags_from, shipments_in, sound_in, read_book}
use Rattle.write.specs.Written.{written}
use Rattle.store.specs.Stored.{form, stored}
use Rattle.store.specs.Unstored.{Stores, Loads}
use Rattle.std.specs.Prelude.{Result, Ok, Err}
use Rattle.store.specs.Inner.Walk.{is_whole, book_of, flags_of}
use Rattle.store.specs.Inner.Unpack.{has_contents, BodiesUnpacked, Unpacked}
use Rattle.store.proofs.Walks.{whole_is_stored}
use Rattle.store.proofs.Backs.{unstored, stored_apart}
use Rattle.store.proofs.SoundMemory.{sound_storable, flags_in_form_lem, book_sound, read_before}
use Rattle.store.proofs.Unpacking.{four_no, four_yes}

-- the contents table, and then the bodies
module _ (bytes : List ℕ) where
  abbrev n : ℕ
  n = get_or bytes 1 0

  pub contents_room : has_contents bytes ≡ true → (n ≤ most_shipments) × (2 + 8 * n ≤ length bytes)
  contents_room has =
      let formed = and_right (leb 2 (length bytes)) _ has in
      let counted = and_right (eqb (get_or bytes 0 0) form) _ formed in (
        leb-true n most_shipments (and_left (leb n most_shipments) _ counted),
        leb-true (2 + 8 * n) (length bytes) (and_right (leb n most_shipments) _ counted),
      )

  pub no_contents : (m : List ℕ) → has_contents bytes ≡ false → Unpacked bytes false m m
  unfolding is_whole
  no_contents m none = record {
    answer = sym (four_no (leb 2 (length bytes)) (eqb (get_or bytes 0 0) form) (leb n most_shipments) (leb (2 + 8 * n) (length bytes)) _ none);
    as_long = refl;
    book = λ yes. absurd (false≢true yes);
    flags = λ yes. absurd (false≢true yes);
  }

  pub with_contents : {whole : Bool} {m m' : List ℕ} → has_contents bytes ≡ true → BodiesUnpacked bytes n whole m m' → Unpacked bytes whole m m'
  unfolding is_whole
  with_contents {whole} {m} {m'} has bodies = record {
    answer =
        bodies.answer ∙ sym (four_yes (leb 2 (length bytes)) (eqb (get_or bytes 0 0) form) (leb n most_shipments) (leb (2 + 8 * n) (length bytes)) _ has);
    as_long = bodies.as_long;
    book = bodies.book;
    flags = λ all. ap (λ (j : ℕ). flags_from m' 0 j) (bodies.number all) ∙ bodies.flags all;
  }

-- the bytes of a sound book are whole, and what is whole and sound is unpacked to the book whose bytes they are
module _ {bytes : List ℕ} where
  pub stored_whole : (book : Book) → Stores bytes book → is_whole bytes ≡ true
  stored_whole book is = ap is_whole (sym is.is_stored) ∙ (unstored book is.storable).whole

  module _ {whole : Bool} {m m' : List ℕ} (unpacked : Unpacked bytes whole m m') (all : whole ≡ true) where
    pub unpacked_stores : ((j : ℕ) → get_or bytes j 0 < 256) → sound_in m' ≡ true → Stores bytes (book_in m')
    unpacked_stores small is_sound =
        let same = unpacked.book all in
        record {
          storable = sound_storable m' is_sound;
          is_stored = ap stored same
              ∙ whole_is_stored bytes small (sym unpacked.answer ∙ all) (sym (unpacked.flags all) ∙ flags_in_form_lem m' is_sound) (ap sound (sym same) ∙ book_sound m' is_sound);
        }

    pub stored_sound : (book : Book) → Stores bytes book → size ≤ length m' → sound_in m' ≡ true
    unfolding sound_in
    stored_sound book is enough =
        let back = unstored book is.storable in
        let flags = unpacked.flags all ∙ ap flags_of (sym is.is_stored) ∙ back.flags in
        let same = unpacked.book all ∙ ap book_of (sym is.is_stored) ∙ back.same in
        both_yes (leb size (length m')) _ (le-leb size (length m') enough)
        (both_yes (flags_from m' 0 (shipments_in m')) _ flags (ap sound same ∙ is.storable.is_sound))

-- the answers
module _ (bytes lent : List ℕ) where
  refuses_others : ((book : Book) → Stores bytes book → ⊥) → Loads lent bytes (Err 32) lent
  refuses_others none = record {
    loaded = λ book is room. absurd (none book is);
    too_short = λ book is short. absurd (none book is);
    not_stored = λ others. refl;
    refused = λ number same. refl;
    behind = λ j from. refl;
    as_long = refl;
  }

  pub refuses_broken : {whole : Bool} {m m' : List ℕ} → Unpacked bytes whole m m' → whole ≡ false → Loads lent bytes (Err 32) lent
  refuses_broken unpacked broken = refuses_others (λ book is. false≢true (sym broken ∙ unpacked.answer ∙ stored_whole book is))

  module _ {whole : Bool} {m m' : List ℕ} (unpacked : Unpacked bytes whole m m') (all : whole ≡ true) where
    pub refuses_unsound : size ≤ length m' → sound_in m' ≡ false → Loads lent bytes (Err 32) lent
    refuses_unsound enough unsound = refuses_others (λ book is. false≢true (sym unsound ∙ stored_sound unpacked all book is enough))

    pub refuses_short : ((j : ℕ) → get_or bytes j 0 < 256) → sound_in m' ≡ true → length lent < size → Loads lent bytes (Err 30) lent
    refuses_short small is_sound short = record {
      loaded = λ book is room. absurd (omega arith);
      too_short = λ book is less. refl;
      not_stored = λ none. absurd (none (book_in m') (unpacked_stores unpacked all small is_sound));
      refused = λ number same. refl;
      behind = λ j from. refl;
      as_long = refl;
    }

    pub loads : {after : List ℕ} → ((j : ℕ) → get_or bytes j 0 < 256) → sound_in m' ≡ true → length m' ≡ size → size ≤ length lent → after ≡ written m' lent → Loads lent bytes (Ok tt) after
    loads {after} small is_sound long room put =
        let holds = ap read_book put ∙ read_before m' is_sound (drop (length m') lent) in
        record {
          loaded = λ book is enough. (refl, holds ∙ ap some (same book is));
          too_short = λ book is short. absurd (omega arith);
          not_stored = λ none. absurd (none (book_in m') stores);
          refused = λ number told. absurd (otherwise told);
          behind = λ j from. ap (λ (l : List ℕ). get_or l j 0) put ∙ kept j from;
          as_long = ap length put ∙ omega (arith, length-append m' (drop (length m') lent), length-drop (length m') lent);
        }
      where
        stores : Stores bytes (book_in m')
        stores = unpacked_stores unpacked all small is_sound

        same : (book : Book) → Stores bytes book → book_in m' ≡ book
        same book is = stored_apart (book_in m') book stores.storable is.storable (stores.is_stored ∙ sym is.is_stored)

        otherwise : {number : ℕ} → ◌≡◌ {A = Result (Unit {0}) ℕ} (Ok tt) (Err number) → ⊥
        otherwise h = let never : ◌≡◌ {A = ℕ} 0 1 = cc in absurd (omega arith)

        kept : (j : ℕ) → size ≤ j → get_or (written m' lent) j 0 ≡ get_or lent j 0
        kept j from =
            let place : j ≡ length m' + (j - length m') = omega arith in
            ap (λ (i : ℕ). get_or (written m' lent) i 0) place ∙ get_or-append-add m' (drop (length m') lent) (j - length m') 0
            ∙ get_or-drop (length m') lent (j - length m') 0 ∙ ap (λ (i : ℕ). get_or lent i 0) (sym place)

-- by which loading answers
pub ruleset loading = (refuses_broken, refuses_unsound, refuses_short, loads)

-- and by which unpacking goes on
pub ruleset by_contents = (contents_room, no_contents, with_contents)
