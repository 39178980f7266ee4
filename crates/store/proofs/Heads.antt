-- A head that was stored is read back as its shipment, and a head in form is stored as it lies in memory.
-- Assumes nothing.
use mathlib.Core.Path.{◌≡◌, refl, sym, ◌∙◌, ap}
use mathlib.Core.Bool.{Bool, true, false, ◌&&◌}
use mathlib.Core.List.{List, [], ◌∷◌, ◌++◌}
use Prim.Native.Nat.{ℕ, ◌^◌, ◌≤◌, ◌<◌}
use native.Mathlib.Omega.{arith}
use borrow.Author.Tests.{leb-true, eqb-true, eqb-false}
use lib.Dec.{eqb, leb}
use lib.ListN.{length, get_or, take, drop, take-append-drop, length-append}
use lib.Seq.{take_at, drop_at, drop-length}
use Rattle.text.proofs.Branches.{and_left, and_right, either_way}
use Rattle.money.specs.declared.Money.TheVariants.{K, O}
use Rattle.model.specs.Shipment.{Shipment, accepted, returned}
use Rattle.model.specs.declared.Row.{Row}
use Rattle.model.specs.declared.Stage.{Stage}
use Rattle.model.specs.declared.Stage.TheVariants.{Waiting, Paired, Closed}
use Rattle.memory.specs.Number.{number_at}
use Rattle.memory.specs.Layout.{head_size, IsHead}
use Rattle.memory.specs.Heads.{stage_of, flags_in_form, order_count_in, shipment_in}
use Rattle.memory.specs.Inner.Enter.{bytes_of}
use Rattle.memory.specs.Inner.Stored.{stage_byte}
use Rattle.store.specs.Stored.{flag_byte, head_of}
use Rattle.store.proofs.Fields.{behind_field, number_there, byte_there, number_then, byte_then}

-- a stage and a go-ahead, as bytes and back
stage_back : (stage : Stage) → stage_of (stage_byte stage) ≡ stage
unfolding stage_of
stage_back Waiting = refl
stage_back Paired = refl
stage_back Closed = refl

flag_back : (flag : Bool) → eqb (flag_byte flag) 1 ≡ flag
flag_back true = refl
flag_back false = refl

stage_byte_lem : (b : ℕ) → b ≤ 2 → stage_byte (stage_of b) ≡ b
unfolding stage_of
stage_byte_lem b h =
    either_way (eqb b 0)
    (λ none. rw none (sym (eqb-true b 0 none)))
    (λ some.
    let above = eqb-false b 0 some in
    either_way (eqb b 1)
    (λ one. rw (some, one) (sym (eqb-true b 1 one)))
    (λ two. let other = eqb-false b 1 two in rw (some, two) (omega arith)))

flag_byte_lem : (b : ℕ) → b ≤ 1 → flag_byte (eqb b 1) ≡ b
flag_byte_lem b h =
    either_way (eqb b 1)
    (λ one. rw one (sym (eqb-true b 1 one)))
    (λ none. let other = eqb-false b 1 none in rw none (omega arith))

-- numbers that have room in their fields
pub record HasRoom (s : Shipment) : Type 0 where
  pub ident : length s.agreed.name.ident.bytes ≡ 17
  pub date : s.agreed.name.date.0 < 2 ^ 32
  pub flat : s.agreed.terms.flat.0 < 2 ^ 32
  pub rate : s.agreed.terms.rate.0 < 2 ^ 16
  pub orders : length s.rows < 2 ^ 16
  pub accepted_k : accepted K s < 2 ^ 64
  pub accepted_o : accepted O s < 2 ^ 64
  pub returned_k : returned K s < 2 ^ 64
  pub returned_o : returned O s < 2 ^ 64

-- what stands in a stored head from each field on
module _ (s : Shipment) (room : HasRoom s) where
  abbrev m : List ℕ
  m = head_of s

  abbrev last : List ℕ
  last = bytes_of 2 s.agreed.terms.rate.0

  abbrev from_56 : List ℕ
  from_56 = bytes_of 8 (returned O s) ++ last

  abbrev from_48 : List ℕ
  from_48 = bytes_of 8 (returned K s) ++ from_56

  abbrev from_40 : List ℕ
  from_40 = bytes_of 8 (accepted O s) ++ from_48

  abbrev from_32 : List ℕ
  from_32 = bytes_of 8 (accepted K s) ++ from_40

  abbrev from_30 : List ℕ
  from_30 = bytes_of 2 (length s.rows) ++ from_32

  abbrev from_28 : List ℕ
  from_28 = stage_byte s.stage ∷ flag_byte s.go_ahead ∷ from_30

  abbrev from_24 : List ℕ
  from_24 = bytes_of 4 s.agreed.terms.flat.0 ++ from_28

  abbrev from_22 : List ℕ
  from_22 = s.agreed.name.payment ∷ s.agreed.name.kind ∷ from_24

  abbrev from_18 : List ℕ
  from_18 = bytes_of 4 s.agreed.name.date.0 ++ from_22

  abbrev from_17 : List ℕ
  from_17 = s.agreed.name.ident.len ∷ from_18

  at_17 : drop 17 m ≡ from_17
  unfolding head_of
  at_17 = drop_at s.agreed.name.ident.bytes from_17 17 room.ident

  at_18 : drop 18 m ≡ from_18
  at_18 = behind_field m 17 (s.agreed.name.ident.len ∷ []) from_18 1 refl at_17

  at_22 : drop 22 m ≡ from_22
  at_22 = behind_field m 18 (bytes_of 4 s.agreed.name.date.0) from_22 4 refl at_18

  at_23 : drop 23 m ≡ s.agreed.name.kind ∷ from_24
  at_23 = behind_field m 22 (s.agreed.name.payment ∷ []) (s.agreed.name.kind ∷ from_24) 1 refl at_22

  at_24 : drop 24 m ≡ from_24
  at_24 = behind_field m 23 (s.agreed.name.kind ∷ []) from_24 1 refl at_23

  at_28 : drop 28 m ≡ from_28
  at_28 = behind_field m 24 (bytes_of 4 s.agreed.terms.flat.0) from_28 4 refl at_24

  at_29 : drop 29 m ≡ flag_byte s.go_ahead ∷ from_30
  at_29 = behind_field m 28 (stage_byte s.stage ∷ []) (flag_byte s.go_ahead ∷ from_30) 1 refl at_28

  at_30 : drop 30 m ≡ from_30
  at_30 = behind_field m 29 (flag_byte s.go_ahead ∷ []) from_30 1 refl at_29

  at_32 : drop 32 m ≡ from_32
  at_32 = behind_field m 30 (bytes_of 2 (length s.rows)) from_32 2 refl at_30

  at_40 : drop 40 m ≡ from_40
  at_40 = behind_field m 32 (bytes_of 8 (accepted K s)) from_40 8 refl at_32

  at_48 : drop 48 m ≡ from_48
  at_48 = behind_field m 40 (bytes_of 8 (accepted O s)) from_48 8 refl at_40

  at_56 : drop 56 m ≡ from_56
  at_56 = behind_field m 48 (bytes_of 8 (returned K s)) from_56 8 refl at_48

  at_64 : drop 64 m ≡ last
  at_64 = behind_field m 56 (bytes_of 8 (returned O s)) last 8 refl at_56

  -- each field, and the whole
  ident_back : take 17 m ≡ s.agreed.name.ident.bytes
  unfolding head_of
  ident_back = take_at s.agreed.name.ident.bytes from_17 17 room.ident

  pub orders_back : order_count_in (head_of s) ≡ length s.rows
  orders_back = number_there m 30 2 (length s.rows) from_32 room.orders at_30

  pub head_back : shipment_in (head_of s) s.rows ≡ s
  unfolding shipment_in
  head_back =
      let len = byte_there m 17 s.agreed.name.ident.len from_18 at_17 in
      let date = number_there m 18 4 s.agreed.name.date.0 from_22 room.date at_18 in
      let payment = byte_there m 22 s.agreed.name.payment (s.agreed.name.kind ∷ from_24) at_22 in
      let kind = byte_there m 23 s.agreed.name.kind from_24 at_23 in
      let flat = number_there m 24 4 s.agreed.terms.flat.0 from_28 room.flat at_24 in
      let stage = ap stage_of (byte_there m 28 (stage_byte s.stage) (flag_byte s.go_ahead ∷ from_30) at_28) ∙ stage_back s.stage in
      let go_ahead = ap (λ (b : ℕ). eqb b 1) (byte_there m 29 (flag_byte s.go_ahead) from_30 at_29) ∙ flag_back s.go_ahead in
      let accepted_k = number_there m 32 8 (accepted K s) from_40 room.accepted_k at_32 in
      let accepted_o = number_there m 40 8 (accepted O s) from_48 room.accepted_o at_40 in
      let returned_k = number_there m 48 8 (returned K s) from_56 room.returned_k at_48 in
      let returned_o = number_there m 56 8 (returned O s) last room.returned_o at_56 in
      let rate = number_there m 64 2 s.agreed.terms.rate.0 [] room.rate at_64 in
      λ i. record {
        agreed = record {
          name = record { ident = record { bytes = ident_back i; len = len i }; date = record { 0 = date i }; payment = payment i; kind = kind i };
          terms = record { flat = record { 0 = flat i }; rate = record { 0 = rate i } };
        };
        stage = stage i;
        go_ahead = go_ahead i;
        accepted_sums = record { k = accepted_k i; o = accepted_o i };
        returned_sums = record { k = returned_k i; o = returned_o i };
        rows = s.rows;
      }

  pub head_long : length (head_of s) ≡ head_size
  unfolding head_of
  head_long =
      let a = length-append s.agreed.name.ident.bytes from_17 in
      let b = room.ident in
      omega arith

  pub flags_back : flags_in_form (head_of s) ≡ true
  flags_back =
      let stage = byte_there m 28 (stage_byte s.stage) (flag_byte s.go_ahead ∷ from_30) at_28 in
      let go_ahead = byte_there m 29 (flag_byte s.go_ahead) from_30 at_29 in
      rw (stage, go_ahead) (in_form s.stage s.go_ahead)
    where
      in_form : (stage : Stage) (flag : Bool) → (leb (stage_byte stage) 2 && leb (flag_byte flag) 1) ≡ true
      in_form Waiting true = refl
      in_form Waiting false = refl
      in_form Paired true = refl
      in_form Paired false = refl
      in_form Closed true = refl
      in_form Closed false = refl

-- a head as it lies in memory, of bytes and in form
module _ (head : List ℕ) (is_head : IsHead head) (bytes : (j : ℕ) → get_or head j 0 < 256) (flags : flags_in_form head ≡ true) where
  pub head_forth : (rows : List Row) → order_count_in head ≡ length rows → head_of (shipment_in head rows) ≡ head
  unfolding head_of shipment_in
  head_forth rows count =
      let end : [] ≡ drop head_size head = sym (ap (λ (j : ℕ). drop j head) (sym is_head) ∙ drop-length head) in
      let f64 = number_then head bytes 2 64 (omega arith) end in
      let f56 = number_then head bytes 8 56 (omega arith) f64 in
      let f48 = number_then head bytes 8 48 (omega arith) f56 in
      let f40 = number_then head bytes 8 40 (omega arith) f48 in
      let f32 = number_then head bytes 8 32 (omega arith) f40 in
      let f30 = number_then head bytes 2 30 (omega arith) f32 in
      let f29 = byte_then head bytes 29 (omega arith) f30 in
      let f28 = byte_then head bytes 28 (omega arith) f29 in
      let f24 = number_then head bytes 4 24 (omega arith) f28 in
      let f23 = byte_then head bytes 23 (omega arith) f24 in
      let f22 = byte_then head bytes 22 (omega arith) f23 in
      let f18 = number_then head bytes 4 18 (omega arith) f22 in
      let f17 = byte_then head bytes 17 (omega arith) f18 in
      let stage = stage_byte_lem (get_or head 28 0) (leb-true (get_or head 28 0) 2 (and_left (leb (get_or head 28 0) 2) _ flags)) in
      let flag = flag_byte_lem (get_or head 29 0) (leb-true (get_or head 29 0) 1 (and_right (leb (get_or head 28 0) 2) _ flags)) in
      let rate = bytes_of 2 (number_at 2 head 64) in
      let sums = bytes_of 8 (number_at 8 head 32) ++ (bytes_of 8 (number_at 8 head 40) ++ (bytes_of 8 (number_at 8 head 48) ++ (bytes_of 8 (number_at 8 head 56) ++ rate))) in
      let many = sym count in
      (λ i. take 17 head ++ (get_or head 17 0 ∷ (bytes_of 4 (number_at 4 head 18) ++ (get_or head 22 0 ∷ get_or head 23 0 ∷ (bytes_of 4 (number_at 4 head 24) ++ (stage i ∷ flag i ∷ (bytes_of 2 (many i) ++ sums)))))))
      ∙ (ap (λ (l : List ℕ). take 17 head ++ l) f17 ∙ take-append-drop 17 head)
