use Rattle.std.proofs.Common.{◌<◌, ◌≤◌, ◌∙◌, ap, length, refl, arith}
use Rattle.cany_model.specs.Runs.Run.{run}
use Rattle.cany_log.proofs.SummaryFacts.{one_at_most, settled_all, settled_next}
use Rattle.cany_log.proofs.summary.settled_count.Goals as goal

pub loop-i-init : goal.loop-i-init
loop-i-init c = record { settled = refl; few = omega arith }

pub loop-i-preserved : goal.loop-i-preserved
loop-i-preserved c =
    let sends = c.sends-i-end.ensures ∙ ap (λ s. s.sends) c.scenario.ensures in
    let inside : c.loop-i.i < length c.args.world.now.scenario.sends = omega (arith, c.loop-i-test.true, ap length sends) in
    record {
      settled = settled_next c.args.world.now.scenario (run c.args.world.now.scenario c.args.world.now.journal) c.loop-i.i c.loop-i.settled
          c.from-settled.result c.settled_by.result inside c.loop-i.invariant.settled c.settled_by.ensures c.from-settled.ensures;
      few = omega (arith, c.loop-i.invariant.few, one_at_most c.settled_by.result c.from-settled.result c.from-settled.ensures);
    }

pub returns-clause-count : goal.returns-clause-count
returns-clause-count c =
    let sends = c.sends-i-end.ensures ∙ ap (λ s. s.sends) c.scenario.ensures in
    let past : length c.args.world.now.scenario.sends ≤ c.loop-i.i = omega (arith, c.loop-i-test.false, ap length sends) in
    settled_all c.args.world.now.scenario (run c.args.world.now.scenario c.args.world.now.journal) c.loop-i.i c.loop-i.settled past c.loop-i.invariant.settled
