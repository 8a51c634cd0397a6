use Rattle.std.proofs.Common.{ap, subst, ◌∙◌, List}
use Rattle.std.specs.Prelude.{Err}
use Rattle.cany_base.specs.declared.rule.Rule.{Rule}
use Rattle.can_fault.specs.Rules.{IsFirstRepeated}
use Rattle.can_fault.proofs.RepeatedFacts.{no_repeated}
use Rattle.can_fault.proofs.script.Script.of_scenario.Goals as goal

pub unreachable-requires : goal.unreachable-requires
unreachable-requires c =
    no_repeated c.args.scenario.now.rules c.in-Err-Repeated.field-0-0 c.params-legal.ensures.legal.places
    (subst (λ (rules : List Rule). IsFirstRepeated rules c.in-Err-Repeated.field-0-0) c.rules.ensures
    (c.build.ensures.repeated c.in-Err-Repeated.field-0-0 (c.in-Err-Repeated.is ∙ ap Err c.in-Err-Repeated.field-0-is)))
