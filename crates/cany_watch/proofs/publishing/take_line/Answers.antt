use Rattle.std.proofs.Common.{◌≡◌, suc, ◌≤◌, ap, ◌∙◌, arith}
use Rattle.cany_model.specs.Bus.State.{RunState, node_at}
use Rattle.cany_world.specs.World.{state_of}
use Rattle.cany_watch.specs.Lines.{line_of}
use Rattle.cany_watch.proofs.LineFacts.{line_by_numbers, logs_below}
use Rattle.cany_watch.proofs.PublishFacts.{log_left, log_taken, took_up_all, took_up_none}
use Rattle.cany_watch.proofs.publishing.take_line.Goals as goal

pub loop-inc-init : goal.loop-inc-init
loop-inc-init c = record {
  left = omega (arith, c.len-known.ensures);
  taken = took_up_none (line_of c.args.world.now c.args.node) c.args.publisher.now c.requires.taken;
}

pub returns-then-not-take_all : goal.returns-then-not-take_all
returns-then-not-take_all c =
    log_taken c.args.world.now.scenario (state_of c.args.world.now) c.args.node c.loop-inc.inc c.loop-inc.known c.min-skipped.result c.log_of-log.result.now
    c.args.publisher.now c.loop-inc.publisher c.take_all.new.publisher c.take_all.result (omega (arith, c.loop-inc-test.true, c.incarnation.ensures, c.from-inc-end.ensures)) c.log_of-log.ensures
    c.loop-inc.invariant.left c.min-skipped.ensures c.loop-inc.invariant.taken c.take_all.ensures

pub loop-inc-preserved : goal.loop-inc-preserved
loop-inc-preserved c =
    let within : c.loop-inc.inc ≤ (node_at (state_of c.args.world.now).nodes c.args.node).present.number = omega (arith, c.loop-inc-test.true, c.incarnation.ensures, c.from-inc-end.ensures) in
    record {
      left = log_left c.args.world.now.scenario (state_of c.args.world.now) c.args.node c.loop-inc.inc c.loop-inc.known c.min-skipped.result c.log_of-log.result.now
          c.args.publisher.now c.loop-inc.publisher c.take_all.new.publisher c.take_all.result within c.log_of-log.ensures
          c.loop-inc.invariant.left c.min-skipped.ensures c.loop-inc.invariant.taken c.take_all.ensures c.if-not-take_all.false;
      taken = log_taken c.args.world.now.scenario (state_of c.args.world.now) c.args.node c.loop-inc.inc c.loop-inc.known c.min-skipped.result c.log_of-log.result.now
          c.args.publisher.now c.loop-inc.publisher c.take_all.new.publisher c.take_all.result within c.log_of-log.ensures
          c.loop-inc.invariant.left c.min-skipped.ensures c.loop-inc.invariant.taken c.take_all.ensures;
    }

pub returns : goal.returns
returns c =
    let s : RunState = state_of c.args.world.now in
    let last : c.loop-inc.inc ≡ suc (node_at s.nodes c.args.node).present.number = omega (arith, c.loop-inc-test.false, c.loop-inc.auto.inc-end, c.incarnation.ensures, c.from-inc-end.ensures) in
    let below = logs_below c.args.world.now.scenario s c.args.node c.loop-inc.inc in
    took_up_all (line_of c.args.world.now c.args.node) below c.args.publisher.now c.loop-inc.publisher
    (ap (logs_below c.args.world.now.scenario s c.args.node) last ∙ line_by_numbers c.args.world.now.scenario s c.args.node)
    (omega (arith, c.loop-inc.invariant.left)) c.loop-inc.invariant.taken
