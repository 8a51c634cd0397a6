use Rattle.std.proofs.Common.{[], ◌++◌, refl}
use Rattle.cany_base.specs.declared.message.Service.TheVariants as service
use Rattle.cany_message.specs.Calls.{actions_called}
use Rattle.cany_node.proofs.ActSteps.{listed_acted}
use Rattle.cany_node.proofs.AppliedParts.{both_applied, can_front, none_applied}
use Rattle.cany_node.proofs.Idle.IdleFacts.{idle_after}
use Rattle.cany_node.proofs.RelayTurn.{relay_apply, relay_turn}
use Rattle.cany_node.proofs.TellsNothingToRelays.{edcan_is_for_relays, edcan_is_no_relcan, relcan_none, relcan_still}
use Rattle.cany_node.proofs.node.Node.follow_edcan.Goals as goal

pub follow_both-requires-clause-brings : goal.follow_both-requires-clause-brings
follow_both-requires-clause-brings c = edcan_is_for_relays c.args.notice.now.kind c.requires.brings

-- before RELCAN's next timer is due

pub apply_called-requires : goal.apply_called-requires
apply_called-requires c =
    let notice = c.args.notice.now in
    let other = edcan_is_no_relcan notice.kind c.requires.brings in
    can_front c.self.inside.inc (actions_called service.Ed notice c.hear-calls.result) [] _ _
    (relay_apply notice _ _ c.self.view_is (edcan_is_for_relays notice.kind c.requires.brings) c.requires.idle c.hear-calls.new.self c.self.inside.relcan _ []
    c.hear-calls.ensures.actions c.hear-calls.ensures.stands
    (relcan_none notice c.self.inside.relcan c.wake.result c.wake.ensures.rests c.if-notice-wake.false other)
    (relcan_still notice c.self.inside.relcan c.wake.result c.wake.ensures.rests c.if-notice-wake.false other)
    c.args.ctl.now c.args.out.now c.requires.acts c.self.invariant.few)

pub invariant_of-self : goal.invariant_of-self
invariant_of-self c = record { few = c.self.invariant.few; idle_until = idle_after _ c.args.notice.now _ _ _ _ c.self.view_is c.requires.acts c.self.invariant.idle_until _ _ _ _ }

pub returns-else-notice-wake : goal.returns-else-notice-wake
returns-else-notice-wake c =
    let notice = c.args.notice.now in
    let other = edcan_is_no_relcan notice.kind c.requires.brings in
    let ed = actions_called service.Ed notice c.hear-calls.result in
    listed_acted notice _ _ _ c.self.view_is _ (ed ++ []) c.args.ctl.now c.args.out.now c.requires.acts
    (relay_turn notice _ _ c.self.view_is (edcan_is_for_relays notice.kind c.requires.brings) c.requires.idle c.hear-calls.new.self c.self.inside.relcan ed []
    c.hear-calls.ensures.actions c.hear-calls.ensures.stands
    (relcan_none notice c.self.inside.relcan c.wake.result c.wake.ensures.rests c.if-notice-wake.false other)
    (relcan_still notice c.self.inside.relcan c.wake.result c.wake.ensures.rests c.if-notice-wake.false other))
    c.apply_called.new.ctl c.self.inside.log c.apply_called.new.log refl refl
    (both_applied c.self.inside.inc ed [] _ _ _ _ _ _ c.apply_called.ensures (none_applied c.self.inside.inc c.apply_called.new.ctl c.apply_called.new.log))
