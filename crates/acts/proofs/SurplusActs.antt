-- The free money of the shipment at a place, and its return by ZWR.
-- Assumes nothing.
use mathlib.Core.Path.{◌≡◌, refl, sym, ap, ◌∙◌}
use mathlib.Core.Bool.{Bool, true, false, not}
use mathlib.Core.List.{List}
use Prim.Native.Nat.{ℕ, ◌+◌, ◌-◌, ◌≤◌, ◌<◌}
use native.Mathlib.Omega.{arith}
use borrow.Author.Tests.{lt-ltb}
use lib.Dec.{ltb}
use Rattle.money.specs.Money.{amount, fee, sum_of, WithinSum}
use Rattle.money.specs.declared.Amount.{Amount}
use Rattle.money.specs.declared.Fee.{Fee}
use Rattle.money.specs.declared.Money.{Money}
use Rattle.money.specs.declared.Money.TheVariants.{K, O}
use Rattle.money.specs.declared.Sum.TheVariants.{Amounts, Fees}
use Rattle.epe.proofs.QuestionLaws.{asked_no, asked_yes, asked_none}
use Rattle.model.specs.Shipment.{Shipment, accepted, returned, is_waiting, is_paired, only_if, sum_over, worth, need, need_once_paired, free}
use Rattle.model.specs.Calls.{Refused, Returned, surplus_returned}
use Rattle.model.proofs.SoundParts.{in_order}
use Rattle.model.specs.Sound.{shipment_sound}
use Rattle.model.specs.declared.Row.{Row}
use Rattle.memory.specs.Read.{shipment_at, Sits}
use Rattle.memory.specs.Inner.Stored.{with_surplus_at}
use Rattle.acts.specs.Inner.Place.{ActAt}
use Rattle.acts.proofs.ShipmentChanged.{refused_at}
use Rattle.acts.proofs.HeadActs.{returned_changed}

-- "less the need once Paired"
module _ (t : Shipment) where
  module _ {paired : Bool} (is-paired : paired ≡ is_paired t.stage) where
    pub none_needed : (money : Money) → paired ≡ false → sum_of money 0 ≡ sum_of money (need_once_paired money t)
    none_needed money other = ap (λ held. sum_of money (only_if held (need money t))) (sym other ∙ is-paired)

    needed : (money : Money) → paired ≡ true → need money t ≡ need_once_paired money t
    needed money held = ap (λ held. only_if held (need money t)) (sym held ∙ is-paired)

    pub needed_amounts : (rows : List Row) → rows ≡ t.rows → {amounts : Amount} → paired ≡ true → amounts ≡ amount (sum_over (worth K) rows) → Amounts amounts ≡ sum_of K (need_once_paired K t)
    unfolding sum_of need
    needed_amounts rows same held are = ap Amounts (are ∙ ap amount (ap (sum_over (worth K)) same ∙ needed K held))

    pub needed_fees : (rows : List Row) → rows ≡ t.rows → {fees : Fee} → paired ≡ true → fees ≡ fee (sum_over (worth O) rows) → Fees fees ≡ sum_of O (need_once_paired O t)
    unfolding sum_of need
    needed_fees rows same held are = ap Fees (are ∙ ap fee (ap (sum_over (worth O)) same ∙ needed O held))

  -- of a sound shipment what was accepted covers both
  module _ (sound : shipment_sound t ≡ true) (money : Money) where
    pub needed_within : need_once_paired money t ≤ accepted money t
    needed_within = omega (arith, ((in_order t sound).moneys money).covered)

    pub gone_within : returned money t ≤ accepted money t - need_once_paired money t
    gone_within = omega (arith, ((in_order t sound).moneys money).covered)

module _ (m : List ℕ) (i k : ℕ) (sits : Sits m i k) (t : Shipment) (is : t ≡ shipment_at m i k) where
  abbrev s : Shipment
  s = shipment_at m i k

  -- "For ZWR: not Waiting? 24. Anything above zero to return? 23."
  module _ (money : Money) {waiting : Bool} (is-waiting : waiting ≡ is_waiting t.stage) where
    waiting_test : is_waiting s.stage ≡ waiting
    waiting_test = sym (is-waiting ∙ ap (λ (s : Shipment). is_waiting s.stage) is)

    pub still_waiting_at : waiting ≡ true → ActAt m i k (surplus_returned money) (Refused 24) m
    unfolding surplus_returned
    still_waiting_at held = refused_at (asked_no 24 _ _ _ (ap not (waiting_test ∙ held)))

    module _ (other : waiting ≡ false) {surplus : ℕ} (is_free : surplus ≡ free money t) where
      is_surplus : surplus ≡ free money s
      is_surplus = is_free ∙ ap (free money) is

      pub no_surplus_at : surplus ≡ 0 → ActAt m i k (surplus_returned money) (Refused 23) m
      unfolding surplus_returned
      no_surplus_at nothing =
          refused_at (asked_yes 24 _ _ _ (ap not (waiting_test ∙ other)) ∙ asked_no 23 _ _ _ (ap (ltb 0) (sym is_surplus ∙ nothing)))

      module _ {gone : ℕ} (is_gone : gone ≡ returned money t) where
        before_is : gone ≡ returned money s
        before_is = is_gone ∙ ap (returned money) is

        pub fits_at : WithinSum (gone + surplus)
        unfolding free
        fits_at =
            let moneys = (in_order s sits.sound).moneys money in
            omega (arith, before_is, is_surplus, moneys.accepted_fits, moneys.covered)

        pub surplus-at : 0 < surplus → ActAt m i k (surplus_returned money) (Returned surplus 0) (with_surplus_at m i money (gone + surplus))
        unfolding surplus_returned
        surplus-at some =
            rw (before_is, is_surplus)
            (returned_changed sits refl money (free money s) (omega (arith, fits_at, before_is, is_surplus))
            (asked_yes 24 _ _ _ (ap not (waiting_test ∙ other)) ∙ asked_yes 23 _ _ _ (lt-ltb 0 (free money s) (omega (arith, is_surplus))) ∙ asked_none _ _))
