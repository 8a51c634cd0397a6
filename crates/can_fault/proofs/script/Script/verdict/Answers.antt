-- The rule that is used rules as the script of the model does.
use Rattle.std.proofs.Common.{◌≡◌, ap, sym, ◌∙◌}
use Rattle.cany_base.specs.declared.rule.Verdict.TheVariants.{Clean}
use Rattle.cany_base.proofs.NodesFacts.{has_none, same_nodes}
use Rattle.cany_model.specs.Bus.Slot.{Ruling, ruling_of}
use Rattle.cany_base.specs.Nodes.{nobody}
use Rattle.can_fault.proofs.TableFacts.{script_from}
use Rattle.can_fault.proofs.script.Script.verdict.Goals as goal

abbrev clean_with : goal.After-empty → Ruling
clean_with c = record { verdict = Clean; stop = c.empty.result }

nobody_stops : (c : goal.After-empty) → clean_with c ≡ record { verdict = Clean; stop = nobody }
nobody_stops c =
    ap (λ s. record { verdict = Clean; stop = s }) (same_nodes c.empty.result nobody (λ i. c.empty.ensures.has i ∙ sym (has_none i)))

pub returns-in-Some-clause-script : goal.returns-in-Some-clause-script
returns-in-Some-clause-script c =
    λ trace at counted. ap ruling_of (sym c.in-Some.is) ∙ script_from c.args.self.now c.args.slot c.args.carried c.rule.result c.rule.ensures trace at counted

pub returns-in-None-clause-ruling : goal.returns-in-None-clause-ruling
returns-in-None-clause-ruling c = nobody_stops c ∙ ap ruling_of (sym c.in-None.is ∙ c.rule.ensures)

pub returns-in-None-clause-script : goal.returns-in-None-clause-script
returns-in-None-clause-script c =
    λ trace at counted. nobody_stops c ∙ ap ruling_of (sym c.in-None.is) ∙ script_from c.args.self.now c.args.slot c.args.carried c.rule.result c.rule.ensures trace at counted
