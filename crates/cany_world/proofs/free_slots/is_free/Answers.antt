use Rattle.cany_world.proofs.Idle.FreeFacts.{free_by}
use Rattle.cany_world.proofs.free_slots.is_free.Goals as goal

pub returns-then-not-has_rule : goal.returns-then-not-has_rule
returns-then-not-has_rule c scenario same also free =
    free_by scenario c.args.script.now c.args.restarts.now c.args.slot c.has_rule.result c.has_restart.result same also c.has_rule.ensures c.has_restart.ensures
    c.if-not-has_rule.true free
