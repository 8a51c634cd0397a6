use Rattle.std.proofs.Common.{◌||◌, Bool, take}
use Rattle.cany_base.specs.declared.message.NodeAsk.{NodeAsk}
use Rattle.cany_model.specs.Bus.Frames.{Identity}
use Rattle.cany_check.specs.Idle.Attempts.{asked_frame, is_asked}
use Rattle.cany_check.proofs.Idle.AttemptFacts.{asks_next, entered}
use Rattle.cany_check.proofs.unused_entries.attempts.enter_asks.Goals as goal

pub loop-i-preserved : goal.loop-i-preserved
loop-i-preserved c =
    λ named zero.
    let p = c.args.params.now in
    let asks = c.args.asks.now in
    let i = c.loop-i.i in
    let ask : NodeAsk = c.index-asks-i.result in
    let before : Identity → Bool = λ x. named x || is_asked p c.args.class (take i asks) x in
    asks_next named p c.args.class asks i ask c.insert.new.self.entries c.loop-i-test.true c.index-asks-i.is
    (entered before (asked_frame p c.args.class ask) c.loop-i.counts c.insert.new.self (c.loop-i.invariant named zero)
    (λ q. rw c.asked_identity.ensures at (c.in_ok-insert.ensures.updates.0 q)))
