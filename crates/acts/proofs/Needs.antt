-- A shipment's needs and faults, by its rows in memory.
-- Assumes nothing.
use mathlib.Core.Path.{◌≡◌, refl, sym, ap, ◌∙◌}
use mathlib.Core.Bool.{Bool, true, false, not, ◌&&◌, ◌||◌, false≢true}
use mathlib.Core.List.{List}
use Prim.Native.Nat.{ℕ, ◌-◌}
use native.Mathlib.Omega.{arith}
use borrow.Author.Tests.{leb-true, leb-false, lt-ltb, le-ltb}
use lib.Dec.{leb, ltb}
use Rattle.text.proofs.Branches.{either_way}
use Rattle.money.specs.declared.Money.{Money}
use Rattle.model.specs.Shipment.{Shipment, is_waiting, sum_over, worth, need, any_faulty}
use Rattle.model.specs.Sound.{rows_sound}
use Rattle.model.specs.declared.Row.{Row}
use Rattle.model.specs.declared.Stage.{Stage}
use Rattle.model.specs.declared.Stage.TheVariants.{Waiting, Paired, Closed}
use Rattle.model.proofs.SoundParts.{in_order}
use Rattle.memory.specs.Read.{shipment_at, Sits}
use Rattle.acts.specs.Inner.Waiting.{SoundInWaiting}

-- nothing is missing of a need that is covered
pub covered_is : (needed accepted : ℕ) → leb needed accepted ≡ not (ltb 0 (needed - accepted))
covered_is needed accepted =
    either_way (leb needed accepted)
    (λ within. rw (within, le-ltb 0 (needed - accepted) (omega (arith, leb-true needed accepted within))))
    (λ over. rw (over, lt-ltb 0 (needed - accepted) (omega (arith, leb-false needed accepted over))))

stage_is : (stage : Stage) → is_waiting stage ≡ true → stage ≡ Waiting
stage_is Waiting h = refl
stage_is Paired h = absurd (false≢true h)
stage_is Closed h = absurd (false≢true h)

pub neither : (t u : Bool) → (not t && not u) ≡ not (t || u)
neither true u = refl
neither false u = refl

module _ (m : List ℕ) (i k : ℕ) (sits : Sits m i k) (t : Shipment) (is : t ≡ shipment_at m i k) (rows : List Row) (rows_are : rows ≡ t.rows) where
  abbrev s : Shipment
  s = shipment_at m i k

  all : rows ≡ s.rows
  all = rows_are ∙ ap (λ (s : Shipment). s.rows) is

  pub need_is : (money : Money) → sum_over (worth money) rows ≡ need money s
  unfolding need
  need_is money = ap (sum_over (worth money)) all

  pub faulty_is : any_faulty rows ≡ any_faulty s.rows
  faulty_is = ap any_faulty all

  pub rows_waiting : {waiting : Bool} → waiting ≡ is_waiting t.stage → waiting ≡ true → SoundInWaiting rows
  rows_waiting is-waiting held =
      let here = sym (is-waiting ∙ ap (λ (s : Shipment). is_waiting s.stage) is) ∙ held in
      let terms = s.agreed.terms in
      record {
        terms = terms;
        is = (λ u. rows_sound terms (sym (stage_is s.stage here) u) (all u)) ∙ (in_order s sits.sound).rows_sound;
      }
