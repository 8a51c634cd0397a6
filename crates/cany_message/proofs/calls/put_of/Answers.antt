use Rattle.std.proofs.Common.{◌++◌, ap, ◌∙◌, append_assoc}
use Rattle.cany_message.specs.Actions.{delivery_actions}
use Rattle.cany_message.specs.Calls.{replied}
use Rattle.cany_message.proofs.calls.put_of.Goals as goal

pub returns-clause-actions : goal.returns-clause-actions
returns-clause-actions c =
    let delivered = delivery_actions c.args.service c.args.slot c.args.calls.now.delivers c.args.frame.now in
    let reply = replied c.args.calls.now.reply c.args.frame.now in
    c.put_reply.ensures.actions ∙ ap (λ actions. actions ++ reply) c.deliver.ensures.actions
    ∙ append_assoc c.args.out.now.items delivered reply
