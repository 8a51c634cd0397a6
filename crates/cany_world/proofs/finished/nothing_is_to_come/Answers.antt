use Rattle.cany_world.proofs.SettledFacts.{settled_where_nothing_to_do}
use Rattle.cany_world.proofs.finished.nothing_is_to_come.Goals as goal

pub returns-then-none_has_anything_to_do : goal.returns-then-none_has_anything_to_do
returns-then-none_has_anything_to_do c none scenario journal m key about by =
    settled_where_nothing_to_do scenario journal m c.args.service key c.args.controllers.now c.args.nodes.now about by (c.none_has_anything_to_do.ensures c.if-none_has_anything_to_do.true)
    (c.nothing_is_ahead.ensures none scenario journal m key about by)
