use Rattle.cany_text.specs.TextNames.{key_name}
use Rattle.std.proofs.Common.{sym, ◌∙◌}
use Rattle.cany_scenario.proofs.SendsFacts.{first_member}
use Rattle.cany_scenario.proofs.sends.next_value.Goals as goal

pub returns-then-eq : goal.returns-then-eq
returns-then-eq c =
    first_member c.args.entries.now c.next.new.self c.in_ok-key.key.now c.in_ok-key.value.now c.as_str.result.now c.key_name.result.now (key_name c.args.name)
    c.in_ok-key.ensures.steps c.as_str.ensures.value (sym c.eq.ensures ∙ c.if-eq.true) c.key_name.ensures.name
