use Rattle.cany_check.proofs.Idle.AttemptFacts.{all_entered}
use Rattle.cany_check.proofs.unused_entries.attempts.named_counts.Goals as goal

pub returns : goal.returns
returns c =
    all_entered c.args.scenario.now c.params-params.result.now c.rules.result.now c.joins.result.now c.leaves.result.now c.new-counts.result.entries c.enter_rules.new.counts.entries
    c.enter_asks.new.counts.entries c.enter_asks-2.new.counts.entries c.params-params.ensures.params c.rules.ensures c.joins.ensures c.leaves.ensures
    c.in_ok-enter_rules.ensures c.in_ok-enter_asks.ensures c.in_ok-enter_asks-2.ensures
