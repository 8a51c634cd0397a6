-- Before the oldest timer is due, a notice that brings no frame of RELCAN leads to nothing.
use Rattle.std.specs.Prelude.{nat_lt, min}
use Rattle.std.proofs.Common.{◌≡◌, ℕ, ◌+◌, ◌-◌, ◌<◌, ◌≤◌, ◌&&◌, ◌||◌, Bool, true, false, not, if◌then◌else◌, inl, inr, List, [], ◌∷◌, length, Option, None, refl, ap, subst, sym, arith}
use Rattle.std.proofs.lemmas.Bool.{cases_lt, ne_eqb, lt-ltb, le-ltb}
use Rattle.std.proofs.lemmas.Bool.Decides.{nat_tests}
use Rattle.cany_base.specs.declared.class.Class.TheVariants as class
use Rattle.cany_base.specs.declared.format.Format.{Format}
use Rattle.cany_base.specs.declared.notice.NoticeKind.{NoticeKind}
use Rattle.cany_base.specs.declared.notice.NoticeKind.TheVariants.{Idle, Got, Sent, Bad}
use Rattle.cany_base.specs.Frame.{FrameParts}
use Rattle.cany_base.specs.Scenario.{ScenarioParts}
use Rattle.cany_message.proofs.DeliveryFacts.{no_actions}
use Rattle.cany_message.proofs.TableFacts.{IsOther}
use Rattle.cany_model.specs.Bus.Frames.{same_class}
use Rattle.cany_model.specs.Rules.Actions.{actions_of}
use Rattle.cany_model.specs.Rules.Effect.{Effect}
use Rattle.cany_model.specs.Rules.Relcan.{relcan_at, relcan_effects}
use Rattle.cany_relcan.specs.declared.timers.Timer.{Timer}
use Rattle.cany_relcan.specs.Relcan.{HasRead, IsRelcanOf, RelcanParts, Rests, brings_no_relcan, of_none, of_own}
use Rattle.cany_relcan.specs.RelcanSteps.{AreMarksAfter, due_frame, timer_actions, without_due}
use Rattle.cany_relcan.specs.Timers.{oldest_from, oldest_start, without_from}
use Rattle.cany_relcan.proofs.ActionFacts.{none_at}
use Rattle.cany_relcan.proofs.EndFacts.{ended_stands, turn_actions}
use Rattle.cany_relcan.proofs.MarkFacts.{marked_none}
use Rattle.cany_relcan.proofs.ReadFacts.{read_other}

-- none of these timers is due in the turn of a slot
record IsNoneDue (slot confirm : ℕ) (timers : List Timer) : Type 0 where
  due : (if nat_lt slot confirm then None else oldest_from (slot - confirm) timers) ≡ None
  rest : (if nat_lt slot confirm then timers else without_from (slot - confirm) timers) ≡ timers

either : (A : Type 0) (b : Bool) (a : A) → (if b then a else a) ≡ a
either A true a = refl
either A false a = refl

no_timers : (slot confirm : ℕ) → IsNoneDue slot confirm []
no_timers slot confirm = record { due = either (Option FrameParts) (nat_lt slot confirm) None; rest = either (List Timer) (nat_lt slot confirm) [] }

before_oldest : (slot confirm : ℕ) (timer : Timer) (timers : List Timer) → slot < timer.first + confirm → IsNoneDue slot confirm (timer ∷ timers)
before_oldest slot confirm timer timers before = elim (cases_lt slot confirm) [
  | inl early ↦ record { due = rw (lt-ltb slot confirm early) refl; rest = rw (lt-ltb slot confirm early) refl }
  | inr late ↦
      let apart : timer.first ≡ slot - confirm → ⊥ = λ at. omega (arith, at, before, late) in
      record {
        due = rw (le-ltb slot confirm late, ne_eqb timer.first (slot - confirm) apart) refl;
        rest = rw (le-ltb slot confirm late, ne_eqb timer.first (slot - confirm) apart) refl;
      }
]

-- a sum that stands still at the end of its type is no more than the sum
pub saturated : (a b most sum : ℕ) → sum ≡ min (a + b) most → sum ≤ a + b
saturated a b most sum is = grind (arith, nat_tests, is)

no_effects : (format : Format) (effects : List Effect) → [] ≡ actions_of format effects → effects ≡ []
no_effects format [] is = refl
no_effects format (effect ∷ effects) is = absurd (cc)

-- ---- what is no frame of RELCAN

neither : (a b : Bool) → not (a || b) ≡ true → (a ≡ false) × (b ≡ false)
neither true b none = absurd (cc)
neither false true none = absurd (cc)
neither false false none = (refl, refl)

none_and : (a b : Bool) → a ≡ false → (a && b) ≡ false
none_and a b none = ap (λ x. x && b) none

and_none : (a : Bool) → (a && false) ≡ false
and_none true = refl
and_none false = refl

no_data : (i : ℕ) (notice : NoticeKind) → brings_no_relcan notice ≡ true → IsOther class.Rel (of_own i) notice
no_data i Idle none = tt
no_data i Bad none = tt
no_data i (Got f) none = (neither (same_class f.class class.Rel) (same_class f.class class.Confirm) none).0
no_data i (Sent f) none =
    none_and (same_class f.class class.Rel) (of_own i f.node) (neither (same_class f.class class.Rel) (same_class f.class class.Confirm) none).0

no_confirmation : (notice : NoticeKind) → brings_no_relcan notice ≡ true → IsOther class.Confirm of_none notice
no_confirmation Idle none = tt
no_confirmation Bad none = tt
no_confirmation (Got f) none = (neither (same_class f.class class.Rel) (same_class f.class class.Confirm) none).1
no_confirmation (Sent f) none = and_none (same_class f.class class.Confirm)

module _ (scenario : ScenarioParts) (i : ℕ) (notice : NoticeKind) (other : brings_no_relcan notice ≡ true) (past : List NoticeKind) (v : RelcanParts)
    (h : IsRelcanOf scenario i past v) where
  rests : IsNoneDue (length past) v.confirm v.timers.running → Rests scenario i notice past v
  rests none =
      let read : HasRead scenario i notice past v = read_other scenario i notice past v (no_data i notice other) (no_confirmation notice other) h in
      let due : due_frame (length past) v ≡ None = none.due in
      let same : v ≡ record (without_due (length past) v) { fallen = v.fallen } = rw none.rest refl in
      let marks : AreMarksAfter (due_frame (length past) v) v.confirms v.fallen v.fallen = rw due (marked_none v.confirms v.fallen) in
      let nothing : [] ≡ timer_actions (due_frame (length past) v) v = rw due refl in
      record {
        stands = ended_stands scenario i (length past) notice past v v read refl (rw due tt) same marks;
        effects =
            no_effects scenario.params.format (relcan_effects scenario i (notice ∷ past))
            (turn_actions scenario i (length past) notice past v [] [] [] read refl (rw due tt)
            (no_actions scenario.params.format [] (relcan_at scenario.params i notice past) (none_at scenario.params i notice past (no_data i notice other))) nothing);
      }

  pub rests_before : (wake : ℕ) → wake ≤ oldest_start v.timers.running + v.confirm → length past < wake → Rests scenario i notice past v
  rests_before wake bound before = go v.timers.running refl
    where
      go : (timers : List Timer) → v.timers.running ≡ timers → Rests scenario i notice past v
      go [] is = rests (subst (IsNoneDue (length past) v.confirm) (sym is) (no_timers (length past) v.confirm))
      go (timer ∷ timers) is =
          let due : wake ≤ timer.first + v.confirm = subst (λ ts. wake ≤ oldest_start ts + v.confirm) is bound in
          rests (subst (IsNoneDue (length past) v.confirm) (sym is)
          (before_oldest (length past) v.confirm timer timers (omega (arith, due, before))))
