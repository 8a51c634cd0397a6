use Rattle.std.proofs.Common.{ap, ◌∙◌}
use Rattle.std.specs.List.{list_any}
use Rattle.cany_totcan.specs.Acceptances.{RingParts}
use Rattle.cany_totcan.specs.Queue.{is_at}
use Rattle.cany_totcan.proofs.queue.OpenMessages.has.Goals as goal

pub returns : goal.returns
returns c =
    c.has.ensures
    ∙ c.self.invariant.is_set c.args.msg.now.seq c.args.msg.now.origin
    ∙ ap (λ (v : RingParts). list_any (is_at c.args.msg.now) v.messages.items) c.self.view_is
