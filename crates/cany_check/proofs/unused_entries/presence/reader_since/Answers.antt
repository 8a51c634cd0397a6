use Rattle.std.proofs.Common.{ap, arith}
use Rattle.std.specs.Prelude.{option_map}
use Rattle.cany_model.specs.Bus.State.{EndedIncarnation}
use Rattle.cany_model.specs.Runs.Incarnations.{incarnations}
use Rattle.cany_world.specs.World.{state_of}
use Rattle.cany_check.specs.Idle.Unused.{read_notice}
use Rattle.cany_check.proofs.Idle.PresenceFacts.{find_done, found_since, incarnations_count, next_of_find}
use Rattle.cany_check.proofs.unused_entries.presence.reader_since.Goals as goal

pub returns-then-read_notice : goal.returns-then-read_notice
returns-then-read_notice c =
    found_since (read_notice c.args.slot) (incarnations (state_of c.args.world.now) c.args.node) c.loop-back.back c.stay_at-stay.result c.read_notice.result c.stay_at-stay.ensures c.read_notice.ensures
    c.if-read_notice.true c.loop-back.invariant

pub loop-back-preserved : goal.loop-back-preserved
loop-back-preserved c =
    next_of_find (read_notice c.args.slot) (incarnations (state_of c.args.world.now) c.args.node) c.loop-back.back c.stay_at-stay.result c.read_notice.result c.stay_at-stay.ensures c.read_notice.ensures
    c.if-read_notice.false c.loop-back.invariant

pub returns : goal.returns
returns c =
    ap (option_map (λ (e : EndedIncarnation). e.incarnation.from)) (find_done (read_notice c.args.slot) (incarnations (state_of c.args.world.now) c.args.node) c.loop-back.back
    (omega (arith, c.loop-back-test.false, c.incarnation.ensures, c.from-back-end.ensures, incarnations_count c.args.world.now.scenario c.args.world.now.journal c.args.node))
    c.loop-back.invariant)
