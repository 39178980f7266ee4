-- A transfer, a go-ahead, pairing and closing, at the place of a shipment.
-- Assumes nothing.
use mathlib.Core.Path.{◌≡◌, refl, sym, ap, ◌∙◌}
use mathlib.Core.Bool.{Bool, true, false}
use mathlib.Core.List.{List}
use Prim.Native.Nat.{ℕ, ◌+◌}
use native.Mathlib.Omega.{arith}
use borrow.Author.Tests.{leb-true}
use Rattle.money.specs.Money.{sum_cap, is_sum}
use Rattle.money.specs.declared.Money.{Money}
use Rattle.epe.proofs.QuestionLaws.{asked_no, asked_yes, asked_none}
use Rattle.model.specs.Shipment.{Shipment, accepted, is_waiting}
use Rattle.model.specs.Calls.{Refused, Done, transferred, closed}
use Rattle.model.specs.declared.Stage.TheVariants.{Closed}
use Rattle.memory.specs.Read.{shipment_at, Sits}
use Rattle.memory.specs.Inner.Stored.{with_stage_at, with_transfers_at}
use Rattle.acts.specs.Inner.Place.{ActAt}
use Rattle.acts.proofs.ShipmentChanged.{refused_at}
use Rattle.acts.proofs.HeadActs.{stage_changed, accepted_changed}

module _ (m : List ℕ) (i k : ℕ) (sits : Sits m i k) (t : Shipment) (is : t ≡ shipment_at m i k) where
  abbrev s : Shipment
  s = shipment_at m i k

  -- "Total accepted for that money still at most 9,999,999,999,999? 14"
  module _ (money : Money) (amount : ℕ) {before : ℕ} (is_before : before ≡ accepted money t) where
    before_is : before ≡ accepted money s
    before_is = is_before ∙ ap (accepted money) is

    total_is : is_sum (accepted money s + amount) ≡ is_sum (before + amount)
    total_is = ap (λ n. is_sum (n + amount)) (sym before_is)

    pub too_much_at : is_sum (before + amount) ≡ false → ActAt m i k (transferred money amount) (Refused 14) m
    unfolding transferred
    too_much_at over = refused_at (asked_no 14 _ _ _ (total_is ∙ over))

    pub transferred_at : is_sum (before + amount) ≡ true
        → ActAt m i k (transferred money amount) Done (with_transfers_at m i money (before + amount))
    unfolding transferred
    transferred_at within =
        let low = leb-true (before + amount) sum_cap within in
        rw before_is (accepted_changed sits refl money amount (omega (arith, before_is)) (asked_yes 14 _ _ _ (total_is ∙ within) ∙ asked_none _ _))

  -- "Waiting? 15"
  module _ {waiting : Bool} (is-waiting : waiting ≡ is_waiting t.stage) where
    waiting_test : is_waiting s.stage ≡ waiting
    waiting_test = sym (is-waiting ∙ ap (λ (s : Shipment). is_waiting s.stage) is)

    pub not_closed_at : waiting ≡ false → ActAt m i k closed (Refused 15) m
    unfolding closed
    not_closed_at other = refused_at (asked_no 15 _ _ _ (waiting_test ∙ other))

    pub closed_at : {m' : List ℕ} → m' ≡ with_stage_at m i Closed → waiting ≡ true → ActAt m i k closed Done m'
    unfolding closed
    closed_at stored held = rw stored (stage_changed sits refl Closed (asked_yes 15 _ _ _ (waiting_test ∙ held) ∙ asked_none _ _))

pub ruleset closes = (not_closed_at, closed_at)
