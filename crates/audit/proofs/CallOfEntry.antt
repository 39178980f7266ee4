-- One entry played: its call is the one that its first byte says.
-- Assumes nothing.
use mathlib.Core.Path.{◌≡◌, refl}
use mathlib.Core.Bool.{Bool, true, false, ◌&&◌}
use mathlib.Core.List.{List}
use Prim.Native.Nat.{ℕ, ◌≤◌}
use native.Mathlib.Omega.{arith}
use borrow.Author.Tests.{leb-true, eqb-true, ne_eqb}
use lib.Dec.{leb, eqb}
use lib.ListN.{length}
use Rattle.text.specs.Bytes.{between}
use Rattle.text.proofs.Branches.{and_right, either_way}
use Rattle.calendar.specs.Calendar.{real}
use Rattle.money.specs.declared.Money.{Money}
use Rattle.epe.specs.Ident.{ident_of}
use Rattle.epe.specs.Questions.{Refused, first_no}
use Rattle.epe.specs.Profile.{fees_fit, profile_fits, profile_questions}
use Rattle.epe.specs.declared.profile.Profile.{Profile}
use Rattle.epe.proofs.QuestionLaws.{asked_no}
use Rattle.model.specs.Calls.{GoAhead, Pair, Close, OnOrder, Return, Intake, Transfer, On}
use Rattle.model.specs.declared.Deed.TheVariants.{Post, Pay, MarkUndelivered, Withdraw}
use Rattle.model.specs.declared.Route.{Route}
use Rattle.book.proofs.Telling.{plays_same}
use Rattle.book.specs.Numbers.{route_of, money_of}
use Rattle.audit.specs.Journal.{call_byte, entry_number, entry_text, profile_in, act_in, call_in, entry_length, is_call, has_no_more, call_known, entry_fits}

-- flat parts that are no fees spoil a profile, before its rates are asked about
pub unfit : (profile : Profile) → fees_fit profile.flat ≡ false → first_no (profile_questions profile) ≡ Refused 905
unfolding profile_questions profile_fits
unfit profile h =
    asked_no 905 _ _ _ (by (real profile.today.0) (eqb (length profile.flat) 5) (fees_fit profile.flat) (between 19 32 profile.fields) h)
  where
    by : (today five flat fields : Bool) → flat ≡ false → (today && ((five && flat) && fields)) ≡ false
    by true true flat fields h = rw h
    by true false flat fields h = refl
    by false five flat fields h = refl

-- a whole entry has one of the calls
pub call_known_lem : (entry : List ℕ) → entry_fits entry ≡ true → call_byte entry ≤ 9
unfolding entry_fits call_known is_call
call_known_lem entry fits =
    let known = and_right (has_no_more entry) (is_call entry) (and_right (leb (entry_length entry) (length entry)) (call_known entry) fits) in
    either_way (eqb (call_byte entry) 9)
    (λ return. omega (arith, eqb-true (call_byte entry) 9 return))
    (λ other. omega (arith, leb-true (call_byte entry) 8 (rw other at known)))

-- an act that is none of the others is one on an order
pub on_an_order : (call : ℕ) → 2 ≤ call → call ≤ 9 → (call ≡ 2 → ⊥) → (call ≡ 3 → ⊥) → (call ≡ 4 → ⊥) → (call ≡ 9 → ⊥) → (5 ≤ call) × (call ≤ 8)
on_an_order call above below not_go_ahead not_pair not_close not_return = (omega arith, omega arith)

-- the call that the first byte says
module _ (entry : List ℕ) where
  pub is_intake_lem : call_byte entry ≡ 0 → Intake (profile_in entry) (entry_text entry 0) (entry_text entry 1) ≡ call_in entry
  unfolding call_in
  is_intake_lem first = rw first

  pub is_transfer_lem : call_byte entry ≡ 1 → Transfer (entry_text entry 0) (entry_number entry 0) ≡ call_in entry
  unfolding call_in
  is_transfer_lem first = rw first

  pub is_act : 2 ≤ call_byte entry → On (ident_of (entry_text entry 0)) (act_in entry) ≡ call_in entry
  unfolding call_in
  is_act more = rw (ne_eqb (call_byte entry) 0 (omega arith), ne_eqb (call_byte entry) 1 (omega arith))

  module _ {id : List ℕ} (id_is : id ≡ entry_text entry 0) where
    pub on_go_ahead : call_byte entry ≡ 2 → On (ident_of id) GoAhead ≡ On (ident_of (entry_text entry 0)) (act_in entry)
    unfolding act_in
    on_go_ahead first = rw (id_is, first)

    pub on_pair : call_byte entry ≡ 3 → On (ident_of id) Pair ≡ On (ident_of (entry_text entry 0)) (act_in entry)
    unfolding act_in
    on_pair first = rw (id_is, first)

    pub on_close : call_byte entry ≡ 4 → On (ident_of id) Close ≡ On (ident_of (entry_text entry 0)) (act_in entry)
    unfolding act_in
    on_close first = rw (id_is, first)

    pub on_return : {route : Route} {money : Money} → route ≡ route_of (entry_number entry 0) → money ≡ money_of (entry_number entry 1) → call_byte entry ≡ 9
        → On (ident_of id) (Return route money) ≡ On (ident_of (entry_text entry 0)) (act_in entry)
    unfolding act_in
    on_return route_is money_is first = rw (id_is, route_is, money_is, first)

    module _ {number : ℕ} (number_is : number ≡ entry_number entry 0) where
      pub on_post : call_byte entry ≡ 5 → On (ident_of id) (OnOrder Post number) ≡ On (ident_of (entry_text entry 0)) (act_in entry)
      unfolding act_in
      on_post first = rw (id_is, number_is, first)

      pub on_pay : call_byte entry ≡ 6 → On (ident_of id) (OnOrder Pay number) ≡ On (ident_of (entry_text entry 0)) (act_in entry)
      unfolding act_in
      on_pay first = rw (id_is, number_is, first)

      pub on_undelivered : call_byte entry ≡ 7 → On (ident_of id) (OnOrder MarkUndelivered number) ≡ On (ident_of (entry_text entry 0)) (act_in entry)
      unfolding act_in
      on_undelivered first = rw (id_is, number_is, first)

      pub on_withdraw : 5 ≤ call_byte entry → call_byte entry ≤ 8 → (call_byte entry ≡ 5 → ⊥) → (call_byte entry ≡ 6 → ⊥) → (call_byte entry ≡ 7 → ⊥)
          → On (ident_of id) (OnOrder Withdraw number) ≡ On (ident_of (entry_text entry 0)) (act_in entry)
      unfolding act_in
      on_withdraw above below not_post not_pay not_undelivered =
          let first : call_byte entry ≡ 8 = omega arith in
          rw (id_is, number_is, first)

-- by which an entry is played, and one on an order
pub ruleset calls = (plays_same, is_intake_lem, is_transfer_lem, is_act)

pub ruleset on_orders = (plays_same, on_post, on_pay, on_undelivered, on_withdraw)

-- and one on a shipment
pub ruleset acts = (plays_same, call_known_lem, on_an_order, on_go_ahead, on_pair, on_close, on_return)
