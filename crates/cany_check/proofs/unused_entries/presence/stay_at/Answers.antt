use Rattle.std.proofs.Common.{arith}
use Rattle.cany_check.proofs.Idle.PresenceFacts.{stay_is}
use Rattle.cany_check.proofs.unused_entries.presence.stay_at.Goals as goal

pub returns : goal.returns
returns c =
    stay_is c.args.world.now.scenario c.args.world.now.journal c.args.node (record { span = c.span.result; from = c.takes_part_since.result }) c.args.back _
    (omega (arith, c.incarnation.ensures, c.from.ensures, c.requires.back)) c.span.ensures c.takes_part_since.ensures
