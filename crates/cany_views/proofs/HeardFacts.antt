-- What a value of views stands for after an ask to join or to leave is heard.
use Rattle.std.proofs.Common.{◌≡◌, ℕ, ◌<◌, inl, inr, true, false, ap, subst, ◌∙◌}
use Rattle.std.proofs.lemmas.Bool.{cases_Bool}
use Rattle.cany_base.specs.declared.class.Class.{Class}
use Rattle.cany_base.specs.declared.class.Class.TheVariants as class
use Rattle.cany_base.specs.declared.notice.NoticeKind.{NoticeKind}
use Rattle.cany_base.specs.declared.notice.NoticeKind.TheVariants.{Idle, Got, Sent, Bad}
use Rattle.cany_base.specs.Frame.{FrameParts}
use Rattle.cany_base.specs.Nodes.{has, with_node}
use Rattle.cany_base.specs.Scenario.{ScenarioParts}
use Rattle.cany_model.specs.Bus.Frames.{same_class}
use Rattle.cany_model.specs.Rules.Notices.{BelongsTo}
use Rattle.cany_model.specs.Rules.Knowledge.{Knowledge}
use Rattle.cany_model.specs.Rules.Views.{after_ask, with_joiner, with_leaver}
use Rattle.cany_model.proofs.Bus.Identities.{same_class-true}
use Rattle.cany_views.specs.Views.{IsViewsOf, ViewsParts}
use Rattle.cany_views.specs.ViewsSteps.{heard_join, heard_leave}
use Rattle.cany_base.proofs.SetFacts.{below_with}
use Rattle.cany_views.proofs.ViewFacts.{stands_with}

-- who asks by a frame of the class is a node of the bus, if such a frame names one
asker_of_bus : (scenario : ScenarioParts) (slot : ℕ) (f : FrameParts) (class : Class) → BelongsTo scenario slot f.class f
    → same_class f.class class ≡ true → (BelongsTo scenario slot class f → f.node < scenario.params.nodes) → f.node < scenario.params.nodes
asker_of_bus scenario slot f class of is near = near (subst (λ c. BelongsTo scenario slot c f) (same_class-true f.class class is) of)

module _ (scenario : ScenarioParts) (i : ℕ) (knowledge : Knowledge) (v : ViewsParts) (h : IsViewsOf scenario i knowledge v) where
  -- ---- node r asks

  same_member : (r : ℕ) → has v.members r ≡ has knowledge.members r
  same_member r = ap (λ members. has members r) h.members

  join_stands : (r : ℕ) → r < v.params.nodes → IsViewsOf scenario i (with_joiner r knowledge) (heard_join r v)
  join_stands r near = elim (cases_Bool (has knowledge.members r)) [
    | inl inside ↦ rw (same_member r ∙ inside, inside) h
    | inr outside ↦
        let after : Knowledge = record knowledge { joiners = with_node r knowledge.joiners } in
        rw (same_member r ∙ outside, outside)
        (stands_with scenario i knowledge after v v.members (with_node r v.joiners) v.leavers h
        (record {
          members = h.below.members;
          joiners = below_with v.params.nodes r v.joiners near h.below.joiners;
          leavers = h.below.leavers;
        })
        h.members (ap (with_node r) h.joiners) h.leavers)
  ]

  leave_stands : (r : ℕ) → r < v.params.nodes → IsViewsOf scenario i (with_leaver r knowledge) (heard_leave r v)
  leave_stands r near = elim (cases_Bool (has knowledge.members r)) [
    | inl inside ↦
        let after : Knowledge = record knowledge { leavers = with_node r knowledge.leavers } in
        rw (same_member r ∙ inside, inside)
        (stands_with scenario i knowledge after v v.members v.joiners (with_node r v.leavers) h
        (record {
          members = h.below.members;
          joiners = h.below.joiners;
          leavers = below_with v.params.nodes r v.leavers near h.below.leavers;
        })
        h.members h.joiners (ap (with_node r) h.leavers))
    | inr outside ↦ rw (same_member r ∙ outside, outside) h
  ]

  -- ---- a frame asks for it

  module _ (slot : ℕ) (f : FrameParts) (of : BelongsTo scenario slot f.class f) where
    pub joiner_near : same_class f.class class.Join ≡ true → f.node < v.params.nodes
    joiner_near join = rw h.limits.are_params (asker_of_bus scenario slot f class.Join of join (λ names. names.node))

    pub leaver_near : same_class f.class class.Leave ≡ true → f.node < v.params.nodes
    leaver_near leave = rw h.limits.are_params (asker_of_bus scenario slot f class.Leave of leave (λ names. names.node))

    module _ (kind : NoticeKind) (w : ViewsParts) where
      pub got_join : kind ≡ Got f → same_class f.class class.Join ≡ true → w ≡ heard_join f.node v
          → IsViewsOf scenario i (after_ask kind knowledge) w
      unfolding after_ask
      got_join at join hears = rw (at, hears, join) (join_stands f.node (joiner_near join))

      pub got_leave : kind ≡ Got f → same_class f.class class.Join ≡ false → same_class f.class class.Leave ≡ true
          → w ≡ heard_leave f.node v → IsViewsOf scenario i (after_ask kind knowledge) w
      unfolding after_ask
      got_leave at other leave hears = rw (at, hears, other, leave) (leave_stands f.node (leaver_near leave))

      pub sent_leave : kind ≡ Sent f → same_class f.class class.Leave ≡ true → w ≡ heard_leave f.node v
          → IsViewsOf scenario i (after_ask kind knowledge) w
      unfolding after_ask
      sent_leave at leave hears = rw (at, hears, leave) (leave_stands f.node (leaver_near leave))

  -- ---- any other notice asks for nothing

  module _ (kind : NoticeKind) where
    pub got_other : (f : FrameParts) → kind ≡ Got f → same_class f.class class.Join ≡ false → same_class f.class class.Leave ≡ false
        → IsViewsOf scenario i (after_ask kind knowledge) v
    unfolding after_ask
    got_other f at join leave = rw (at, join, leave) h

    pub sent_other : (f : FrameParts) → kind ≡ Sent f → same_class f.class class.Leave ≡ false
        → IsViewsOf scenario i (after_ask kind knowledge) v
    unfolding after_ask
    sent_other f at leave = rw (at, leave) h

    pub idle_asks : kind ≡ Idle → IsViewsOf scenario i (after_ask kind knowledge) v
    unfolding after_ask
    idle_asks at = rw at h

    pub bad_asks : kind ≡ Bad → IsViewsOf scenario i (after_ask kind knowledge) v
    unfolding after_ask
    bad_asks at = rw at h
