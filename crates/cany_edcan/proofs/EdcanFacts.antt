-- What EDCAN does at a notice, and that the value then stands for one notice more.
use Rattle.std.specs.Prelude.{nat_lt}
use Rattle.std.specs.List.{list_any}
use Rattle.std.proofs.Common.{◌≡◌, ℕ, ◌<◌, ◌==◌, ◌&&◌, ◌||◌, Bool, true, false, if◌then◌else◌, not, List, [], ◌∷◌, ◌++◌, refl, ap, sym, ◌∙◌, subst, arith}
use Rattle.cany_base.specs.declared.actions.Action.{Action}
use Rattle.cany_base.specs.declared.class.Class.TheVariants as class
use Rattle.cany_base.specs.declared.message.Service.TheVariants as service
use Rattle.cany_base.specs.declared.notice.Notice.{Notice}
use Rattle.cany_base.specs.declared.notice.NoticeKind.{NoticeKind}
use Rattle.cany_base.specs.declared.notice.NoticeKind.TheVariants.{Idle, Got, Sent, Bad}
use Rattle.cany_base.specs.Frame.{FrameParts}
use Rattle.cany_base.specs.Scenario.{ScenarioParts}
use Rattle.cany_base.proofs.ParamsFacts.{few_slots}
use Rattle.cany_diffuse.specs.Eager.{copies_of, is_owned, learnt_of, IsLearnt, IsOwned}
use Rattle.cany_message.specs.Actions.{delivery_actions, relay_actions}
use Rattle.cany_base.specs.Limits.{most_nodes}
use Rattle.can_frame.specs.Identifier.{HasSmallNumbers}
use Rattle.cany_message.specs.Numbers.{frame_number}
use Rattle.cany_message.specs.Table.{CanTake, frame_identity}
use Rattle.cany_message.proofs.DeliveryFacts.{both_actions, delivery_got, delivery_sent, no_actions}
use Rattle.cany_message.proofs.FollowedFacts.{legal_for, table_for}
use Rattle.cany_message.proofs.HistoryFacts.{brought, has_own-more, identity_is}
use Rattle.cany_message.proofs.NoticeFacts.{got_names, got_small, sent_names}
use Rattle.cany_message.proofs.RelayFacts.{eager_is}
use Rattle.cany_message.proofs.TableFacts.{IsOther, can_take, table_got, table_other, table_sent}
use Rattle.cany_model.specs.Bus.Frames.{identity_of, same_class}
use Rattle.cany_model.specs.Bus.History.{copies, has_own}
use Rattle.cany_model.specs.Bus.State.{Incarnation}
use Rattle.cany_model.specs.Rules.Actions.{actions_of}
use Rattle.cany_model.specs.Rules.Delivery.{brings, delivery_effects}
use Rattle.cany_model.specs.Rules.Eager.{eager_effects}
use Rattle.cany_model.specs.Rules.Edcan.{edcan_at, edcan_effects}
use Rattle.cany_model.specs.Rules.Notices.{IsNextNotice}
use Rattle.cany_model.specs.Rules.Turn.{scenario_for}
use Rattle.cany_model.proofs.Bus.Identities.{same_class-true}
use Rattle.cany_edcan.specs.Edcan.{EdcanParts, IsEdcanOf, CanRead, Rests, of_all}
use Rattle.cany_edcan.specs.EdcanSteps.{was_delivered}

-- ---- what a caller meets

-- a value stands for a history of its own node
pub at_own_node : (scenario : ScenarioParts) (i : ℕ) (past : List NoticeKind) (v : EdcanParts) → IsEdcanOf scenario i past v → IsEdcanOf scenario v.node past v
at_own_node scenario i past v h = subst (λ n. IsEdcanOf scenario n past v) (sym h.node) h

-- a value that stands for a history can read the next notice
pub can_read : (scenario : ScenarioParts) (i : ℕ) (past : List NoticeKind) (v : EdcanParts) (notice : Notice) → IsEdcanOf scenario i past v
    → IsNextNotice scenario past notice → CanRead v notice
can_read scenario i past v notice stands next = record { scenario = scenario; past = past; stands = at_own_node scenario i past v stands; next = next }

-- a value stands for the same as an incarnation follows the scenario
pub edcan_for : (scenario : ScenarioParts) (inc : Incarnation) (i : ℕ) (past : List NoticeKind) (v : EdcanParts) → IsEdcanOf scenario i past v
    → IsEdcanOf (scenario_for scenario inc) i past v
edcan_for scenario inc i past v h = record {
  legal = legal_for scenario inc h.legal;
  node = h.node;
  format = h.format;
  copies = table_for scenario inc service.Ed class.Ed of_all past v.copies h.copies;
}

-- ---- a data frame

pub takes_got : (v : EdcanParts) (notice : Notice) (f : FrameParts) → CanRead v notice → notice.kind ≡ Got f → same_class f.class class.Ed ≡ true → CanTake (frame_number f) v.copies
takes_got v notice f reads kind is =
    can_take reads.scenario service.Ed class.Ed of_all reads.past v.copies f reads.stands.copies
    (got_names reads.scenario reads.past notice f reads.next service.Ed kind (same_class-true f.class class.Ed is))

pub takes_sent : (v : EdcanParts) (notice : Notice) (f : FrameParts) → CanRead v notice → notice.kind ≡ Sent f → same_class f.class class.Ed ≡ true → CanTake (frame_number f) v.copies
takes_sent v notice f reads kind is =
    can_take reads.scenario service.Ed class.Ed of_all reads.past v.copies f reads.stands.copies
    (sent_names reads.scenario reads.past notice f reads.next service.Ed kind (same_class-true f.class class.Ed is))

-- a copy that is read has small numbers
pub small_copy : (v : EdcanParts) (notice : Notice) (f : FrameParts) → CanRead v notice → notice.kind ≡ Got f → HasSmallNumbers v.format f
small_copy v notice f reads kind = rw reads.stands.format (got_small reads.scenario reads.past notice f reads.next reads.stands.legal kind)

held : (before own more : Bool) → (before || (own && more)) ≡ (before || (own && (before || (true && more))))
held true own more = refl
held false own more = refl

module _ (scenario : ScenarioParts) (past : List NoticeKind) (v w : EdcanParts) (notice : Notice) (f : FrameParts) (h : IsEdcanOf scenario v.node past v)
    (next : IsNextNotice scenario past notice) (is : same_class f.class class.Ed ≡ true) (small : f.node < most_nodes) where
  ed : f.class ≡ class.Ed
  ed = same_class-true f.class class.Ed is

  -- the value knows which messages were delivered
  delivered_is : list_any (brings v.node (identity_of f)) past ≡ was_delivered v f
  delivered_is =
      brought v.node (identity_of f) past
      ∙ ap (λ x. nat_lt 0 (copies x past) || (x.node == v.node && has_own x past)) (identity_is class.Ed f ed)
      ∙ (rw (h.copies.copies f.number f.node small, h.copies.owned f.number f.node small)
      (held (nat_lt 0 (copies (frame_identity class.Ed f.number f.node) past)) (f.node == v.node) (has_own (frame_identity class.Ed f.number f.node) past)))

  pub got_stands : notice.kind ≡ Got f → IsLearnt (frame_number f) v.copies w.copies → w ≡ record v { copies = w.copies } → IsEdcanOf scenario v.node (notice.kind ∷ past) w
  got_stands kind learnt state = rw kind (record {
    legal = h.legal;
    node = ap (λ (x : EdcanParts). x.node) state;
    format = ap (λ (x : EdcanParts). x.format) state ∙ h.format;
    copies = table_got scenario service.Ed class.Ed of_all f ed small (got_names scenario past notice f next service.Ed kind ed) past v.copies w.copies h.copies
        (omega (arith, next.slot, next.within, few_slots scenario.params h.legal.in_range)) learnt;
  })

  pub sent_stands : notice.kind ≡ Sent f → IsOwned (frame_number f) v.copies w.copies → w ≡ record v { copies = w.copies } → IsEdcanOf scenario v.node (notice.kind ∷ past) w
  sent_stands kind owned state = rw kind (record {
    legal = h.legal;
    node = ap (λ (x : EdcanParts). x.node) state;
    format = ap (λ (x : EdcanParts). x.format) state ∙ h.format;
    copies = table_sent scenario service.Ed class.Ed of_all f ed small (sent_names scenario past notice f next service.Ed kind ed) past v.copies w.copies h.copies refl owned;
  })

  relay_is : IsEdcanOf scenario v.node (Got f ∷ past) w → actions_of scenario.params.format (eager_effects scenario.params.omit f (Got f ∷ past))
      ≡ relay_actions scenario.params.format (learnt_of v.copies.omit (copies_of w.copies (frame_number f)) (is_owned v.copies (frame_number f))) f
  relay_is after =
      eager_is scenario.params.format scenario.params.omit f (Got f ∷ past)
      ∙ ap (λ x. relay_actions scenario.params.format (learnt_of scenario.params.omit (copies x (Got f ∷ past)) (has_own x (Got f ∷ past))) f) (identity_is class.Ed f ed)
      ∙ (rw (has_own-more (frame_identity class.Ed f.number f.node) (Got f) past, after.copies.copies f.number f.node small, h.copies.owned f.number f.node small, h.copies.omit) refl)

  pub got_acts : (before after : List Action) → notice.kind ≡ Got f → IsEdcanOf scenario v.node (notice.kind ∷ past) w
      → after ≡ (before ++ delivery_actions service.Ed notice.slot (not (was_delivered v f)) f) ++ relay_actions v.format (learnt_of v.copies.omit (copies_of w.copies (frame_number f)) (is_owned v.copies (frame_number f))) f
      → after ≡ before ++ actions_of scenario.params.format (edcan_effects scenario v.node (notice.kind ∷ past))
  unfolding edcan_effects edcan_at
  got_acts before after kind stands acts =
      let stood : IsEdcanOf scenario v.node (Got f ∷ past) w = rw kind at stands in
      rw (kind, is)
      ((rw (next.slot, h.format) at acts)
      ∙ both_actions scenario.params.format before (delivery_effects service.Ed v.node f (Got f) past) (eager_effects scenario.params.omit f (Got f ∷ past)) _ _
      (delivery_got scenario.params.format service.Ed v.node past f (was_delivered v f) delivered_is) (relay_is stood))

  pub sent_acts : (before after : List Action) → notice.kind ≡ Sent f → after ≡ before ++ delivery_actions service.Ed notice.slot (f.node == v.node && not (was_delivered v f)) f
      → after ≡ before ++ actions_of scenario.params.format (edcan_effects scenario v.node (notice.kind ∷ past))
  unfolding edcan_effects edcan_at
  sent_acts before after kind acts =
      rw (kind, is)
      ((rw next.slot at acts) ∙ ap (λ actions. before ++ actions) (sym (delivery_sent scenario.params.format service.Ed v.node past f (was_delivered v f) delivered_is)))

-- ---- notices that are nothing to EDCAN

none_at : (omit i : ℕ) (notice : NoticeKind) (past : List NoticeKind) → IsOther class.Ed of_all notice → edcan_at omit i notice past ≡ []
unfolding edcan_at
none_at omit i Idle past other = refl
none_at omit i Bad past other = refl
none_at omit i (Got f) past other = rw other refl
none_at omit i (Sent f) past other = both (same_class f.class class.Ed) other
  where
    both : (b : Bool) → (b && true) ≡ false → (if b then delivery_effects service.Ed i f (Sent f) past else []) ≡ []
    both true h = absurd (cc)
    both false h = refl

module _ (scenario : ScenarioParts) (i : ℕ) (past : List NoticeKind) (notice kind : NoticeKind) (is : notice ≡ kind) (other : IsOther class.Ed of_all kind) where
  pub other_acts : (before : List Action) → before ≡ before ++ actions_of scenario.params.format (edcan_effects scenario i (notice ∷ past))
  unfolding edcan_effects
  other_acts before = rw is (no_actions scenario.params.format before (edcan_at scenario.params.omit i kind past) (none_at scenario.params.omit i kind past other))

  pub other_stands : (v : EdcanParts) → IsEdcanOf scenario i past v → IsEdcanOf scenario i (notice ∷ past) v
  other_stands v h = rw is (record { legal = h.legal; node = h.node; format = h.format; copies = table_other scenario service.Ed class.Ed of_all kind past v.copies other h.copies })

-- an idle notice
pub rests : (scenario : ScenarioParts) (i : ℕ) (past : List NoticeKind) (v : EdcanParts) → IsEdcanOf scenario i past v → Rests scenario i past v
unfolding edcan_effects edcan_at
rests scenario i past v h = record { stands = other_stands scenario i past Idle Idle refl tt v h; effects = refl }

-- a transmission of another class
pub sent_other : (f : FrameParts) → same_class f.class class.Ed ≡ false → IsOther class.Ed of_all (Sent f)
sent_other f is = rw is refl
