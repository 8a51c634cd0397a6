use Rattle.std.proofs.Common.{◌++◌, refl, arith}
use Rattle.cany_base.specs.declared.message.Service.TheVariants as service
use Rattle.cany_base.proofs.ParamsFacts.{few_slots}
use Rattle.cany_message.specs.Calls.{actions_called}
use Rattle.cany_node.proofs.ActSteps.{acted_cleared, listed_acted}
use Rattle.cany_node.proofs.AppliedParts.{both_applied, can_back, can_front}
use Rattle.cany_node.proofs.Idle.IdleFacts.{idle_after}
use Rattle.cany_node.proofs.RelayTurn.{relcan_apply, relcan_turn}
use Rattle.cany_node.proofs.node.Node.follow_relcan.Goals as goal

pub overflow_add-self : goal.overflow_add-self
overflow_add-self c =
    let acts = c.requires.acts in
    omega (arith, acts.next.next.within, few_slots acts.scenario.params acts.stands.legal.in_range)

pub invariant_of-self : goal.invariant_of-self
invariant_of-self c = record { few = c.self.invariant.few; idle_until = idle_after _ c.args.notice.now _ _ _ _ c.self.view_is c.requires.acts c.self.invariant.idle_until _ _ _ _ }

pub apply_called-requires : goal.apply_called-requires
apply_called-requires c =
    can_front c.self.inside.inc (actions_called service.Rel c.args.notice.now c.hear-heard.result) c.hear-heard.new.out.items _ _
    (relcan_apply c.args.notice.now _ _ c.self.view_is c.requires.brings c.requires.idle c.requires.other c.hear-heard.new.self _
    c.hear-heard.ensures.actions c.hear-heard.ensures.stands c.args.ctl.now c.args.out.now c.requires.acts c.self.invariant.few)

pub apply_all-requires : goal.apply_all-requires
apply_all-requires c =
    can_back c.self.inside.inc (actions_called service.Rel c.args.notice.now c.hear-heard.result) c.hear-heard.new.out.items _ _
    (relcan_apply c.args.notice.now _ _ c.self.view_is c.requires.brings c.requires.idle c.requires.other c.hear-heard.new.self _
    c.hear-heard.ensures.actions c.hear-heard.ensures.stands c.args.ctl.now c.args.out.now c.requires.acts c.self.invariant.few)
    _ _ c.apply_called.ensures

pub returns : goal.returns
returns c =
    let rel = actions_called service.Rel c.args.notice.now c.hear-heard.result ++ c.hear-heard.new.out.items in
    acted_cleared c.args.notice.now _ _ _ _ _ c.hear-heard.new.out _
    (listed_acted c.args.notice.now _ _ _ c.self.view_is _ rel c.args.ctl.now c.args.out.now c.requires.acts
    (relcan_turn c.args.notice.now _ _ c.self.view_is c.requires.brings c.requires.idle c.requires.other c.hear-heard.new.self rel
    c.hear-heard.ensures.actions c.hear-heard.ensures.stands)
    c.apply_all.new.ctl c.self.inside.log c.apply_all.new.log refl refl
    (both_applied c.self.inside.inc (actions_called service.Rel c.args.notice.now c.hear-heard.result) c.hear-heard.new.out.items _ _ _ _ _ _
    c.apply_called.ensures c.apply_all.ensures))
    c.clear.ensures c.hear-heard.ensures.room c.requires.acts.free
