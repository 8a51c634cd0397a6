use Rattle.cany_message.specs.Actions.{delivery_actions}
use Rattle.cany_message.specs.Calls.{replied}
use Rattle.cany_node.proofs.AppliedParts.{both_applied, can_back, can_front}
use Rattle.cany_node.proofs.apply.apply_frame.Goals as goal

pub apply_delivery-requires : goal.apply_delivery-requires
apply_delivery-requires c =
    can_front c.args.inc (delivery_actions c.args.by c.args.slot c.args.calls.now.delivers c.args.frame.now) (replied c.args.calls.now.reply c.args.frame.now) _ _ c.requires

pub apply_reply-requires : goal.apply_reply-requires
apply_reply-requires c =
    can_back c.args.inc (delivery_actions c.args.by c.args.slot c.args.calls.now.delivers c.args.frame.now) (replied c.args.calls.now.reply c.args.frame.now) _ _ c.requires
    _ _ c.apply_delivery.ensures

pub returns : goal.returns
returns c =
    both_applied c.args.inc (delivery_actions c.args.by c.args.slot c.args.calls.now.delivers c.args.frame.now) (replied c.args.calls.now.reply c.args.frame.now) _ _ _ _ _ _
    c.apply_delivery.ensures c.apply_reply.ensures
