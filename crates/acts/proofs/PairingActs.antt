-- A go-ahead and pairing, at the place of a shipment.
-- Assumes nothing.
use mathlib.Core.Path.{◌≡◌, refl, sym, ap, ◌∙◌}
use mathlib.Core.Bool.{Bool, true, false, not, cond, ◌&&◌, ◌||◌, or_comm}
use mathlib.Core.List.{List}
use Prim.Native.Nat.{ℕ, ◌-◌}
use lib.Dec.{leb, ltb}
use Rattle.money.specs.declared.Money.TheVariants.{K, O}
use Rattle.money.specs.Money.{amount, fee}
use Rattle.money.specs.declared.Amount.{Amount}
use Rattle.money.specs.declared.Fee.{Fee}
use Rattle.epe.proofs.QuestionLaws.{asked_no, asked_yes, asked_none}
use Rattle.model.specs.Shipment.{Shipment, accepted, is_waiting, sum_over, worth, need, any_faulty}
use Rattle.model.specs.Calls.{Refused, Done, IsPaired, Short, Outcome, leave, gone_ahead, paired}
use Rattle.model.specs.declared.Stage.TheVariants.{Paired}
use Rattle.model.specs.declared.Row.{Row}
use Rattle.memory.specs.Read.{shipment_at, Sits}
use Rattle.memory.specs.Inner.Stored.{with_stage_at, with_go_ahead_at}
use Rattle.acts.specs.Inner.Place.{ActAt}
use Rattle.acts.proofs.ShipmentChanged.{left_at, refused_at}
use Rattle.acts.proofs.HeadActs.{stage_changed, go_ahead_changed}
use Rattle.acts.proofs.Needs.{rows_waiting, covered_is, neither, need_is, faulty_is}

first_chosen : (t : Bool) (a b : Outcome) → t ≡ true → cond t a b ≡ a
first_chosen t a b h = rw h

second_chosen : (t : Bool) (a b : Outcome) → t ≡ false → cond t a b ≡ b
second_chosen t a b h = rw h

module _ (m : List ℕ) (i k : ℕ) (sits : Sits m i k) (t : Shipment) (is : t ≡ shipment_at m i k) where
  abbrev s : Shipment
  s = shipment_at m i k

  -- "Waiting? 15"
  module _ {waiting : Bool} (is-waiting : waiting ≡ is_waiting t.stage) where
    waiting_test : is_waiting s.stage ≡ waiting
    waiting_test = sym (is-waiting ∙ ap (λ (s : Shipment). is_waiting s.stage) is)

    pub no_go_ahead_at : waiting ≡ false → ActAt m i k gone_ahead (Refused 15) m
    unfolding gone_ahead
    no_go_ahead_at other = refused_at (asked_no 15 _ _ _ (waiting_test ∙ other))

    pub no_pairing_at : waiting ≡ false → ActAt m i k paired (Refused 15) m
    unfolding paired
    no_pairing_at other = refused_at (asked_no 15 _ _ _ (waiting_test ∙ other))

    module _ (held : waiting ≡ true) where
      -- "Any faulty order? 16. None came before? 17."
      module _ (rows : List Row) (rows_are : rows ≡ t.rows) {faulty : Bool} (is_faulty : faulty ≡ any_faulty rows) where
        faulty_test : faulty ≡ any_faulty s.rows
        faulty_test = is_faulty ∙ faulty_is m i k sits t is rows rows_are

        pub no_faults_at : faulty ≡ false → ActAt m i k gone_ahead (Refused 16) m
        unfolding gone_ahead
        no_faults_at none = refused_at (asked_yes 15 _ _ _ (waiting_test ∙ held) ∙ asked_no 16 _ _ _ (sym faulty_test ∙ none))

        module _ (faults : faulty ≡ true) {came : Bool} (is_came : came ≡ t.go_ahead) where
          came_test : came ≡ s.go_ahead
          came_test = is_came ∙ ap (λ (s : Shipment). s.go_ahead) is

          pub second_at : came ≡ true → ActAt m i k gone_ahead (Refused 17) m
          unfolding gone_ahead
          second_at again =
              refused_at
              (asked_yes 15 _ _ _ (waiting_test ∙ held)
              ∙ asked_yes 16 _ _ _ (sym faulty_test ∙ faults)
              ∙ asked_no 17 _ _ _ (ap not (sym came_test ∙ again)))

          pub gone_ahead_at : {m' : List ℕ} → came ≡ false → m' ≡ with_go_ahead_at m i → ActAt m i k gone_ahead Done m'
          unfolding gone_ahead
          gone_ahead_at first stored =
              rw stored
              (go_ahead_changed sits refl
              (asked_yes 15 _ _ _ (waiting_test ∙ held)
              ∙ asked_yes 16 _ _ _ (sym faulty_test ∙ faults)
              ∙ asked_yes 17 _ _ _ (ap not (sym came_test ∙ first))
              ∙ asked_none _ _))

      -- "No faults, or go-ahead given? 18. Paired when both needs are covered; Short changes nothing."
      module _ {may : Bool} (is_may : may ≡ (t.go_ahead || not (any_faulty t.rows))) where
        may_test : (not (any_faulty s.rows) || s.go_ahead) ≡ may
        may_test =
            or_comm (not (any_faulty s.rows)) s.go_ahead
            ∙ sym (is_may ∙ ap (λ (s : Shipment). s.go_ahead || not (any_faulty s.rows)) is)

        pub faults_at : may ≡ false → ActAt m i k paired (Refused 18) m
        unfolding paired
        faults_at barred = refused_at (asked_yes 15 _ _ _ (waiting_test ∙ held) ∙ asked_no 18 _ _ _ (may_test ∙ barred))

        module _ (free : may ≡ true) (rows : List Row) (rows_are : rows ≡ t.rows) {missing_k amounts k_in : Amount} {missing_o fees o_in : Fee}
            (is_missing_k : missing_k ≡ amount (amounts.0 - k_in.0)) (is_missing_o : missing_o ≡ fee (fees.0 - o_in.0))
            (are_amounts : amounts ≡ amount (sum_over (worth K) rows)) (are_fees : fees ≡ fee (sum_over (worth O) rows))
            (is_k_in : k_in ≡ amount (accepted K t)) (is_o_in : o_in ≡ fee (accepted O t))
            {short : Bool} (is_short : short ≡ (ltb 0 missing_k.0 || ltb 0 missing_o.0)) where
          amount_is : missing_k.0 ≡ need K s - accepted K s
          amount_is =
              ap (λ (a : Amount). a.0) is_missing_k
              ∙ (λ u. (ap (λ (a : Amount). a.0) are_amounts ∙ need_is m i k sits t is rows rows_are K) u - (ap (λ (a : Amount). a.0) is_k_in ∙ ap (accepted K) is) u)

          fee_is : missing_o.0 ≡ need O s - accepted O s
          fee_is =
              ap (λ (a : Fee). a.0) is_missing_o
              ∙ (λ u. (ap (λ (a : Fee). a.0) are_fees ∙ need_is m i k sits t is rows rows_are O) u - (ap (λ (a : Fee). a.0) is_o_in ∙ ap (accepted O) is) u)

          covered_test : (leb (need K s) (accepted K s) && leb (need O s) (accepted O s)) ≡ not short
          covered_test =
              (λ t. covered_is (need K s) (accepted K s) t && covered_is (need O s) (accepted O s) t)
              ∙ neither (ltb 0 (need K s - accepted K s)) (ltb 0 (need O s - accepted O s))
              ∙ ap not (sym (is_short ∙ (λ t. ltb 0 (amount_is t) || ltb 0 (fee_is t))))

          pub short_at : short ≡ true → ActAt m i k paired (Short missing_k.0 missing_o.0) m
          unfolding paired
          short_at some =
              left_at
              (asked_yes 15 _ _ _ (waiting_test ∙ held)
              ∙ asked_yes 18 _ _ _ (may_test ∙ free)
              ∙ asked_none _ _
              ∙ second_chosen _ _ _ (covered_test ∙ ap not some)
              ∙ (λ t. leave (Short (sym amount_is t) (sym fee_is t)) s))

          pub paired_at : {m' : List ℕ} → short ≡ false → m' ≡ with_stage_at m i Paired → ActAt m i k paired IsPaired m'
          unfolding paired
          paired_at none stored =
              rw stored
              (stage_changed sits refl Paired
              (asked_yes 15 _ _ _ (waiting_test ∙ held)
              ∙ asked_yes 18 _ _ _ (may_test ∙ free)
              ∙ asked_none _ _
              ∙ first_chosen _ _ _ (covered_test ∙ ap not none)))

pub ruleset goes_ahead = (rows_waiting, no_go_ahead_at, no_faults_at, second_at, gone_ahead_at)

pub ruleset pairs = (rows_waiting, no_pairing_at, faults_at, short_at, paired_at)
