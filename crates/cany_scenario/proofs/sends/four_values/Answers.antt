use Rattle.std.proofs.Common.{ap, sym, ◌∙◌}
use Rattle.toml.specs.View.{members_view}
use Rattle.cany_scenario.proofs.SendsFacts.{all_members}
use Rattle.cany_scenario.proofs.sends.four_values.Goals as goal

pub returns-in-None : goal.returns-in-None
returns-in-None c =
    ap members_view (sym c.iter-entries.ensures.rest)
    ∙ all_members (record { payload = c.in_ok-payload.payload; node = c.in_ok-node.node; service = c.in_ok-service.service; slot = c.in_ok-slot.slot }) _ _ _ _ c.next_value-4.new.entries
    c.in_ok-payload.ensures c.in_ok-node.ensures c.in_ok-service.ensures c.in_ok-slot.ensures c.in-None.ensures.steps.0
