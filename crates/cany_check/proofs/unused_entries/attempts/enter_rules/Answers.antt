use Rattle.std.proofs.Common.{◌||◌, take}
use Rattle.cany_check.specs.Idle.Attempts.{is_ruled}
use Rattle.cany_check.proofs.Idle.AttemptFacts.{rules_next}
use Rattle.cany_check.proofs.unused_entries.attempts.enter_rules.Goals as goal

pub loop-i-preserved : goal.loop-i-preserved
loop-i-preserved c =
    λ named zero.
    rules_next named c.args.rules.now c.loop-i.i c.index-rules-i.result c.enter_rule.new.counts.entries c.loop-i-test.true c.index-rules-i.is
    (c.in_ok-enter_rule.ensures (λ x. named x || is_ruled (take c.loop-i.i c.args.rules.now) x) (c.loop-i.invariant named zero))
