-- A turn from what it reads.
use Rattle.std.proofs.Common.{◌≡◌, ℕ, ◌+◌, ◌<◌, ◌≤◌, min, List, ◌∷◌, count_by, drop, Some, ap, sym, subst, ◌∙◌, arith}
use Rattle.std.specs.Prelude.{None, slice_get}
use Rattle.cany_base.specs.declared.actions.Action.{Action}
use Rattle.cany_base.specs.declared.notice.Notice.{Notice}
use Rattle.cany_base.specs.declared.notice.NoticeKind.{NoticeKind}
use Rattle.cany_base.specs.Bounded.{Bounded}
use Rattle.cany_base.specs.Frame.{FrameParts}
use Rattle.cany_base.specs.Params.{Parameters}
use Rattle.cany_base.specs.Scenario.{ScenarioParts}
use Rattle.cany_model.specs.Rules.Effect.{waiting_after}
use Rattle.cany_model.specs.Rules.Turn.{turn_effects}
use Rattle.can_controller.specs.Controller.{ControllerState}
use Rattle.cany_node.specs.Apply.{AreAskable, is_sign}
use Rattle.cany_node.specs.Node.{CanAct, CanTurn, NodeParts, IsNodeOf, Reads, IsTurnOf, heard_by, turned}
use Rattle.cany_node.specs.Stamping.{AreStamped}
use Rattle.cany_node.specs.Membership.{IsNextOf}

-- the controller once the notice is read
abbrev pub notice_read : ℕ → ControllerState → ControllerState
notice_read most ctl = record ctl { unread = drop 1 ctl.unread; read = min (ctl.read + 1) most }

-- the controller once the actions are done too
abbrev pub acted : ScenarioParts → List NoticeKind → ℕ → Notice → ControllerState → ControllerState
acted scenario past i notice ctl = record ctl { waiting = waiting_after (turn_effects scenario i (notice.kind ∷ past)) ctl.waiting }

-- `given` is what the controller gives, and `told` is what the node hears of it
pub whole_turn : (scenario : ScenarioParts) (past : List NoticeKind) (notice given told : Notice) (v v' : NodeParts) (ctl mid ctl' : ControllerState) (most : ℕ)
    → Reads scenario past notice v ctl → Some given ≡ slice_get ctl.unread 0 → told ≡ heard_by v given → mid ≡ notice_read most ctl → ctl.read < most
    → ((s : ScenarioParts) (p : List NoticeKind) → IsNodeOf s p v → IsNextOf s v.node p told → ctl' ≡ acted s p v.node told mid)
    → ((s : ScenarioParts) (p : List NoticeKind) → IsNodeOf s p v → IsNextOf s v.node p told → IsNodeOf s (told.kind ∷ p) v')
    → IsTurnOf scenario past notice v v' ctl ctl'
whole_turn scenario past notice given told v v' ctl mid ctl' most reads oldest hears is few controls stands =
    let one : Some given ≡ Some notice = oldest ∙ reads.oldest in
    let same : notice ≡ given = cc in
    let heard : heard_by v notice ≡ told = ap (heard_by v) same ∙ sym hears in
    let next : IsNextOf scenario v.node past told = subst (IsNextOf scenario v.node past) heard (record { next = reads.next; few = reads.few; vector = reads.vector }) in
    let read : min (ctl.read + 1) most ≡ ctl.read + 1 = omega arith in
    let kind : NoticeKind = (heard_by v notice).kind in
    let after : ctl' ≡ turned (turn_effects scenario v.node (kind ∷ past)) ctl =
    controls scenario past reads.stands next ∙ ap (acted scenario past v.node told) is
    ∙ ap (λ (n : Notice). acted scenario past v.node n (notice_read most ctl)) (sym heard)
    ∙ ap (λ n. record ctl { unread = drop 1 ctl.unread; read = n; waiting = waiting_after (turn_effects scenario v.node (kind ∷ past)) ctl.waiting }) read in
    record {
      controller = after;
      stands = subst (λ (n : Notice). IsNodeOf scenario (n.kind ∷ past) v') (sym heard) (stands scenario past reads.stands next);
    }

-- what it leads to can be done
pub may_act : (given told : Notice) (v : NodeParts) (ctl mid : ControllerState) (out : Bounded Action) (most : ℕ) → CanTurn v ctl out → ctl.stopped ≡ None
    → Some given ≡ slice_get ctl.unread 0 → told ≡ heard_by v given → mid ≡ notice_read most ctl → CanAct v told mid out
may_act given told v ctl mid out most can running oldest hears is =
    let waiting : mid.waiting ≡ ctl.waiting = ap (λ (s : ControllerState). s.waiting) is in
    record {
      scenario = can.scenario;
      past = can.past;
      stands = can.stands;
      next = subst (IsNextOf can.scenario v.node can.past) (sym hears)
          (record { next = can.next given (sym oldest); few = can.few running given (sym oldest); vector = can.vector running given (sym oldest) });
      format = ap (λ (s : ControllerState). s.params.format) is ∙ ap (λ (p : Parameters). p.format) can.params;
      room = ap (λ (s : ControllerState). s.room) is ∙ can.room;
      askable = subst (AreAskable can.scenario v.node) (sym waiting) (can.askable running);
      stamped = subst (AreStamped v.inc) (sym waiting) (can.stamped running);
      signs = subst (λ (w : List FrameParts). count_by is_sign w ≤ 2) (sym waiting) (can.signs running);
      free = can.free;
      actions = can.actions;
    }
