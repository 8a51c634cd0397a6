-- The actions that RELCAN takes for a notice, from what it has.
use Rattle.std.specs.Prelude.{nat_lt}
use Rattle.std.specs.List.{list_any}
use Rattle.std.proofs.Common.{◌≡◌, ℕ, ◌<◌, ◌==◌, ◌&&◌, ◌||◌, Bool, true, false, if◌then◌else◌, not, List, [], ◌∷◌, ◌++◌, length, refl, ap, ◌∙◌, eq-eqb}
use Rattle.cany_base.specs.declared.actions.Action.{Action}
use Rattle.cany_base.specs.declared.actions.Action.TheVariants as action
use Rattle.cany_base.specs.declared.class.Class.TheVariants as class
use Rattle.cany_base.specs.declared.format.Format.{Format}
use Rattle.cany_base.specs.declared.message.Service.TheVariants as service
use Rattle.cany_base.specs.declared.notice.NoticeKind.{NoticeKind}
use Rattle.cany_base.specs.declared.notice.NoticeKind.TheVariants.{Idle, Got, Sent, Bad}
use Rattle.cany_base.specs.Frame.{FrameParts}
use Rattle.cany_base.specs.Params.{Parameters}
use Rattle.cany_base.specs.Scenario.{ScenarioParts}
use Rattle.cany_diffuse.specs.Eager.{copies_of, is_enough, is_owned, learnt_of}
use Rattle.cany_diffuse.proofs.LearntFacts.{enough_is}
use Rattle.cany_message.specs.Actions.{delivery_actions, withdraw_actions}
use Rattle.cany_base.specs.Limits.{most_nodes}
use Rattle.cany_message.specs.Numbers.{frame_number}
use Rattle.cany_message.proofs.DeliveryFacts.{both_actions, delivery_got, delivery_sent}
use Rattle.cany_message.proofs.HistoryFacts.{brought, identity_is}
use Rattle.cany_message.proofs.TableFacts.{IsOther}
use Rattle.cany_model.specs.Rules.Actions.{actions_of}
use Rattle.cany_model.specs.Rules.Delivery.{brings, delivery_effects}
use Rattle.cany_model.specs.Rules.Eager.{has_enough}
use Rattle.cany_model.specs.Rules.Effect.{Withdraw}
use Rattle.cany_model.specs.Bus.Frames.{identity_of, same_class}
use Rattle.cany_model.specs.Bus.History.{copies, has_own}
use Rattle.cany_model.specs.Rules.Relcan.{confirm_effects, confirm_frame, fell_back, late_copy_effects, relcan_at}
use Rattle.cany_relcan.specs.Relcan.{RelcanParts, HasRead, IsRelcanOf, of_own}
use Rattle.cany_relcan.specs.RelcanSteps.{is_fallen, was_delivered}

late_if : (format : Format) (fell many : Bool) (f : FrameParts)
    → actions_of format (if fell && many then Withdraw (identity_of f) ∷ [] else []) ≡ withdraw_actions format (many && fell) f
late_if format true true f = refl
late_if format true false f = refl
late_if format false true f = refl
late_if format false false f = refl

module _ (scenario : ScenarioParts) (i slot : ℕ) (past : List NoticeKind) (v w : RelcanParts) (f : FrameParts) (before : List Action)
    (h : IsRelcanOf scenario i past v) (rel : f.class ≡ class.Rel) (is : same_class f.class class.Rel ≡ true) (small : f.node < most_nodes) (at : slot ≡ length past) where
  -- the value knows which messages were delivered
  delivered_is : list_any (brings i (identity_of f)) past ≡ was_delivered v f
  delivered_is =
      brought i (identity_of f) past
      ∙ ap (λ x. nat_lt 0 (copies x past) || (x.node == i && has_own x past)) (identity_is class.Rel f rel)
      ∙ (rw (h.tables.data_frames.copies f.number f.node small, h.tables.data_frames.owned f.number f.node small) refl)

  pub got_actions : HasRead scenario i (Got f) past w
      → (before ++ delivery_actions service.Rel slot (not (was_delivered v f)) f)
      ++ withdraw_actions v.format (is_enough (learnt_of v.copies.omit (copies_of w.copies (frame_number f)) (is_owned v.copies (frame_number f))) && is_fallen v f) f
      ≡ before ++ actions_of scenario.params.format (relcan_at scenario.params i (Got f) past)
  unfolding relcan_at
  got_actions after =
      let late : actions_of scenario.params.format (late_copy_effects scenario.params i f past)
      ≡ withdraw_actions scenario.params.format (is_enough (learnt_of v.copies.omit (copies_of w.copies (frame_number f)) (is_owned v.copies (frame_number f))) && is_fallen v f) f =
      late_if scenario.params.format (fell_back scenario.params.confirm i (identity_of f) past) (has_enough scenario.params.omit (identity_of f) (Got f ∷ past)) f
      ∙ ap (λ x. withdraw_actions scenario.params.format (has_enough scenario.params.omit x (Got f ∷ past) && fell_back scenario.params.confirm i x past) f) (identity_is class.Rel f rel)
      ∙ (rw (enough_is v.copies.omit (copies_of w.copies (frame_number f)) (is_owned v.copies (frame_number f)), after.tables.data_frames.copies f.number f.node small, h.tables.data_frames.omit, h.fallen.held f.number f.node small) refl) in
      rw (is, at, h.limits.format)
      (both_actions scenario.params.format before (delivery_effects service.Rel i f (Got f) past) (late_copy_effects scenario.params i f past) _ _
      (delivery_got scenario.params.format service.Rel i past f (was_delivered v f) delivered_is) late)

  pub sent_actions : f.node ≡ i
      → (before ++ delivery_actions service.Rel slot (not (was_delivered v f)) f) ++ action.Ask (confirm_frame f) ∷ [] ≡ before ++ actions_of scenario.params.format (relcan_at scenario.params i (Sent f) past)
  unfolding relcan_at
  sent_actions own =
      let delivers : actions_of scenario.params.format (delivery_effects service.Rel i f (Sent f) past) ≡ delivery_actions service.Rel (length past) (not (was_delivered v f)) f =
      delivery_sent scenario.params.format service.Rel i past f (was_delivered v f) delivered_is ∙ ap (λ b. delivery_actions service.Rel (length past) (b && not (was_delivered v f)) f) (eq-eqb f.node i own) in
      let confirms : actions_of scenario.params.format (confirm_effects i f) ≡ action.Ask (confirm_frame f) ∷ [] = rw (eq-eqb f.node i own) refl in
      rw (is, at) (both_actions scenario.params.format before (delivery_effects service.Rel i f (Sent f) past) (confirm_effects i f) _ _ delivers confirms)

-- ---- notices that call for nothing

sent_none : (i : ℕ) (f : FrameParts) (past : List NoticeKind) (rel own : Bool) → (f.node == i) ≡ own → (rel && own) ≡ false
    → (if rel then delivery_effects service.Rel i f (Sent f) past ++ confirm_effects i f else []) ≡ []
unfolding delivery_effects
sent_none i f past true true is none = absurd (cc)
sent_none i f past true false is none = rw is refl
sent_none i f past false own is none = refl

pub none_at : (p : Parameters) (i : ℕ) (notice : NoticeKind) (past : List NoticeKind) → IsOther class.Rel (of_own i) notice → relcan_at p i notice past ≡ []
unfolding relcan_at
none_at p i Idle past other = refl
none_at p i Bad past other = refl
none_at p i (Got f) past other = rw other refl
none_at p i (Sent f) past other = sent_none i f past (same_class f.class class.Rel) (f.node == i) refl other
