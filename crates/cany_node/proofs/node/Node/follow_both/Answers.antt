use Rattle.std.proofs.Common.{◌++◌, refl, arith}
use Rattle.cany_base.specs.declared.message.Service.TheVariants as service
use Rattle.cany_base.proofs.ParamsFacts.{few_slots}
use Rattle.cany_message.specs.Calls.{actions_called}
use Rattle.cany_node.proofs.ActSteps.{acted_cleared, listed_acted}
use Rattle.cany_node.proofs.AppliedParts.{both_applied, can_back, can_front}
use Rattle.cany_node.proofs.Idle.IdleFacts.{idle_after}
use Rattle.cany_node.proofs.RelayTurn.{relay_apply, relay_rest, relay_turn}
use Rattle.cany_node.proofs.node.Node.follow_both.Goals as goal

pub invariant_of-self : goal.invariant_of-self
invariant_of-self c = record { few = c.self.invariant.few; idle_until = idle_after _ c.args.notice.now _ _ _ _ c.self.view_is c.requires.acts c.self.invariant.idle_until _ _ _ _ }

pub apply_called-requires : goal.apply_called-requires
apply_called-requires c =
    can_front c.self.inside.inc (actions_called service.Ed c.args.notice.now c.hear-calls.result) _ _ _
    (relay_apply c.args.notice.now _ _ c.self.view_is c.requires.brings c.requires.idle c.hear-calls.new.self c.hear-heard.new.self
    (actions_called service.Ed c.args.notice.now c.hear-calls.result) (actions_called service.Rel c.args.notice.now c.hear-heard.result ++ c.hear-heard.new.out.items) c.hear-calls.ensures.actions
    c.hear-calls.ensures.stands c.hear-heard.ensures.actions c.hear-heard.ensures.stands c.args.ctl.now c.args.out.now c.requires.acts c.self.invariant.few)

pub apply_called-requires-2 : goal.apply_called-requires-2
apply_called-requires-2 c =
    can_front c.self.inside.inc (actions_called service.Rel c.args.notice.now c.hear-heard.result) c.hear-heard.new.out.items _ _
    (relay_rest c.args.notice.now _ _ c.self.view_is c.requires.brings c.requires.idle c.hear-calls.new.self c.hear-heard.new.self _ _ c.hear-calls.ensures.actions c.hear-calls.ensures.stands
    c.hear-heard.ensures.actions c.hear-heard.ensures.stands c.args.ctl.now c.args.out.now c.requires.acts c.self.invariant.few _ _ c.apply_called.ensures)

pub apply_all-requires : goal.apply_all-requires
apply_all-requires c =
    can_back c.self.inside.inc (actions_called service.Rel c.args.notice.now c.hear-heard.result) c.hear-heard.new.out.items _ _
    (relay_rest c.args.notice.now _ _ c.self.view_is c.requires.brings c.requires.idle c.hear-calls.new.self c.hear-heard.new.self _ _ c.hear-calls.ensures.actions c.hear-calls.ensures.stands
    c.hear-heard.ensures.actions c.hear-heard.ensures.stands c.args.ctl.now c.args.out.now c.requires.acts c.self.invariant.few _ _ c.apply_called.ensures)
    _ _ c.apply_called-2.ensures

pub overflow_add-self : goal.overflow_add-self
overflow_add-self c =
    let acts = c.requires.acts in
    omega (arith, acts.next.next.within, few_slots acts.scenario.params acts.stands.legal.in_range)

pub returns : goal.returns
returns c =
    let ed = actions_called service.Ed c.args.notice.now c.hear-calls.result in
    let rel = actions_called service.Rel c.args.notice.now c.hear-heard.result ++ c.hear-heard.new.out.items in
    acted_cleared c.args.notice.now _ _ _ _ _ c.hear-heard.new.out _
    (listed_acted c.args.notice.now _ _ _ c.self.view_is _ (ed ++ rel) c.args.ctl.now c.args.out.now c.requires.acts
    (relay_turn c.args.notice.now _ _ c.self.view_is c.requires.brings c.requires.idle c.hear-calls.new.self c.hear-heard.new.self ed rel
    c.hear-calls.ensures.actions c.hear-calls.ensures.stands c.hear-heard.ensures.actions c.hear-heard.ensures.stands)
    c.apply_all.new.ctl c.self.inside.log c.apply_all.new.log refl refl
    (both_applied c.self.inside.inc ed rel _ _ _ _ _ _ c.apply_called.ensures
    (both_applied c.self.inside.inc (actions_called service.Rel c.args.notice.now c.hear-heard.result) c.hear-heard.new.out.items _ _ _ _ _ _ c.apply_called-2.ensures c.apply_all.ensures)))
    c.clear.ensures c.hear-heard.ensures.room c.requires.acts.free
