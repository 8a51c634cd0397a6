-- A notice that brings no frame of EDCAN, or none of RELCAN, is nothing to it.
use Rattle.std.proofs.Common.{◌≡◌, ◌<◌, ◌||◌, ℕ, true, false, not, List, [], ◌∷◌, refl, ap, sym, subst, arith}
use Rattle.cany_base.specs.declared.class.Class.{Class}
use Rattle.cany_base.specs.declared.class.Class.TheVariants as class
use Rattle.cany_base.specs.declared.notice.Notice.{Notice}
use Rattle.cany_base.specs.declared.notice.NoticeKind.{NoticeKind}
use Rattle.cany_base.specs.declared.notice.NoticeKind.TheVariants.{Idle, Got, Sent, Bad}
use Rattle.cany_base.specs.Scenario.{ScenarioParts}
use Rattle.cany_edcan.specs.Edcan.{EdcanParts, IsEdcanOf, of_all}
use Rattle.cany_edcan.proofs.EdcanFacts.{other_acts, other_stands}
use Rattle.cany_message.proofs.TableFacts.{IsOther}
use Rattle.cany_model.specs.Bus.Frames.{same_class}
use Rattle.cany_model.specs.Rules.Actions.{actions_of}
use Rattle.cany_model.specs.Rules.Edcan.{edcan_effects}
use Rattle.cany_model.specs.Rules.Notices.{IsNextNotice}
use Rattle.cany_model.specs.Rules.Relcan.{relcan_effects}
use Rattle.cany_model.proofs.Bus.Identities.{same_class-true}
use Rattle.cany_relcan.specs.Relcan as relcan
use Rattle.cany_relcan.specs.Relcan.{IsRelcanOf, RelcanParts, brings_no_relcan}
use Rattle.cany_node.specs.Resting.{RelcanRestsUntil, is_for_edcan, is_for_relays}

-- ---- EDCAN

no_edcan : (e : NoticeKind) → is_for_edcan e ≡ false → IsOther class.Ed of_all e
no_edcan Idle other = tt
no_edcan (Got f) other = other
no_edcan (Sent f) other = rw other refl
no_edcan Bad other = tt

module _ (notice : Notice) (v : EdcanParts) (other : is_for_edcan notice.kind ≡ false) (scenario : ScenarioParts) (past : List NoticeKind)
    (h : IsEdcanOf scenario v.node past v) where
  pub edcan_none : [] ≡ actions_of scenario.params.format (edcan_effects scenario v.node (notice.kind ∷ past))
  edcan_none = other_acts scenario v.node past notice.kind notice.kind refl (no_edcan notice.kind other) []

  pub edcan_still : IsEdcanOf scenario v.node (notice.kind ∷ past) v
  edcan_still = other_stands scenario v.node past notice.kind notice.kind refl (no_edcan notice.kind other) v h

-- ---- RELCAN

edcan_apart : (c : Class) → same_class c class.Ed ≡ true → not (same_class c class.Rel || same_class c class.Confirm) ≡ true
unfolding same_class
edcan_apart c is = subst (λ d. not (same_class d class.Rel || same_class d class.Confirm) ≡ true) (sym (same_class-true c class.Ed is)) refl

pub edcan_is_for_relays : (e : NoticeKind) → is_for_edcan e ≡ true → is_for_relays e ≡ true
edcan_is_for_relays Idle is = refl
edcan_is_for_relays (Got f) is = ap (λ b. b || (same_class f.class class.Rel || same_class f.class class.Confirm)) is
edcan_is_for_relays (Sent f) is = ap (λ b. b || (same_class f.class class.Rel || same_class f.class class.Confirm)) is
edcan_is_for_relays Bad is = refl

pub edcan_is_no_relcan : (e : NoticeKind) → is_for_edcan e ≡ true → brings_no_relcan e ≡ true
edcan_is_no_relcan Idle is = refl
edcan_is_no_relcan (Got f) is = edcan_apart f.class is
edcan_is_no_relcan (Sent f) is = edcan_apart f.class is
edcan_is_no_relcan Bad is = refl

module _ (notice : Notice) (v : RelcanParts) (wake : ℕ) (rests : RelcanRestsUntil wake v) (before : notice.slot < wake)
    (other : brings_no_relcan notice.kind ≡ true) (scenario : ScenarioParts) (past : List NoticeKind) (h : IsRelcanOf scenario v.node past v)
    (next : IsNextNotice scenario past notice) where
  in_turn : relcan.Rests scenario v.node notice.kind past v
  in_turn = rests scenario past notice.kind h (omega (arith, before, next.slot)) other

  pub relcan_none : [] ≡ actions_of scenario.params.format (relcan_effects scenario v.node (notice.kind ∷ past))
  relcan_none = ap (actions_of scenario.params.format) (sym in_turn.effects)

  pub relcan_still : IsRelcanOf scenario v.node (notice.kind ∷ past) v
  relcan_still = in_turn.stands
