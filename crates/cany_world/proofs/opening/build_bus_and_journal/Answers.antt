use Rattle.std.proofs.Common.{◌+◌, ◌*◌, [], ap, ◌∙◌}
use Rattle.cany_base.specs.Params.{Parameters}
use Rattle.cany_world.proofs.opening.build_bus_and_journal.Goals as goal

pub returns-clause-journal : goal.returns-clause-journal
returns-clause-journal c =
    c.in_ok-journal.ensures
    ∙ ap (λ r. record { items = []; room = r }) (c.journal_room.ensures ∙ ap (λ (p : Parameters). p.slots * (p.nodes + 1)) c.params-params.ensures.params)
