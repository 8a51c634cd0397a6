use Rattle.std.proofs.Common.{sym, ◌∙◌}
use Rattle.cany_check.proofs.Texts.CountFacts.{lengths-next, lengths-none}
use Rattle.cany_check.proofs.text.counts.shortest_and_longest.Goals as goal

pub loop-i-preserved : goal.loop-i-preserved
loop-i-preserved c =
    lengths-next c.args.logs.now c.loop-i.i c.index-logs-i.result c.loop-i.lengths c.with_log-lengths.result c.loop-i.invariant c.loop-i-test.true c.index-logs-i.is
    c.with_log-lengths.ensures

pub returns-in-None : goal.returns-in-None
returns-in-None c = lengths-none c.args.logs.now c.loop-i.i c.loop-i-test.false (sym c.in-None.is ∙ c.loop-i.invariant)
