use Rattle.std.proofs.Common.{ap, sym, ◌∙◌, arith, cond}
use Rattle.cany_base.specs.Nodes.{has}
use Rattle.cany_base.proofs.EmptyFacts.{is_nobody-true}
use Rattle.cany_base.proofs.NodesFacts.{has_none}
use Rattle.can_controller.specs.Controller.{stopped_at}
use Rattle.can_bus.specs.Contest.{stopped_by}
use Rattle.can_bus.proofs.EachFacts.{changed_more, changed_all, each_stays}
use Rattle.can_bus.proofs.seeing.stop_all.Goals as goal

pub loop-i-preserved : goal.loop-i-preserved
loop-i-preserved c =
    changed_more (stopped_by c.args.slot c.args.stops) c.loop-i.i c.loop-i.controllers c.args.controllers.now c.index-controllers-i.result c.stop_one.new.controller c.loop-i.invariant (omega arith)
    c.index-controllers-i.is (c.stop_one.ensures ∙ ap (stopped_by c.args.slot c.args.stops c.loop-i.i) (sym c.index-controllers-i.is))

pub returns : goal.returns
returns c = changed_all (stopped_by c.args.slot c.args.stops) c.loop-i.i c.loop-i.controllers c.args.controllers.now c.loop-i.invariant (omega arith)

pub returns-then-is_empty : goal.returns-then-is_empty
returns-then-is_empty c =
    let nobody_stops = is_nobody-true c.args.stops (sym c.is_empty.ensures.nobody ∙ c.if-is_empty.true) in
    each_stays (stopped_by c.args.slot c.args.stops) 0 c.args.controllers.now
    (λ k x. ap (λ b. cond b (stopped_at c.args.slot x) x) (ap (λ set. has set k) nobody_stops ∙ has_none k))
