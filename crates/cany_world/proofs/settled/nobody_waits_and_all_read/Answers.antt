use Rattle.std.proofs.Common.{◌∙◌, sym}
use Rattle.cany_model.specs.Rules.Messages.{frames_named}
use Rattle.cany_world.proofs.NothingToDo.{nobody_waits_where_nothing_to_do}
use Rattle.cany_world.proofs.settled.nobody_waits_and_all_read.Goals as goal

pub returns-then-none_has_anything_to_do : goal.returns-then-none_has_anything_to_do
returns-then-none_has_anything_to_do c =
    c.if-none_has_anything_to_do.true
    ∙ sym (nobody_waits_where_nothing_to_do (frames_named c.args.service c.args.key.now) c.args.controllers.now (c.none_has_anything_to_do.ensures c.if-none_has_anything_to_do.true))
