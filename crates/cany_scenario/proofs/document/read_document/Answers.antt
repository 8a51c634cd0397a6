use Rattle.std.proofs.Common.{◌≡◌, ◌∙◌, Some, None, ap, sym}
use Rattle.std.proofs.lemmas.Bool.{false≢true}
use Rattle.toml.specs.Parse.{parse_document}
use Rattle.toml.specs.View.{table_view}
use Rattle.cany_text.specs.declared.scenario_fault.ScenarioFault.TheVariants.{NotToml}
use Rattle.cany_text.specs.TomlKeys.{or_fault}
use Rattle.cany_scenario.proofs.DocumentFacts.{document_of-text, document_of-other}
use Rattle.cany_scenario.proofs.document.read_document.Goals as goal

pub returns-in_default-clause-fault : goal.returns-in_default-clause-fault
returns-in_default-clause-fault c = λ other. document_of-other c.args.bytes.now c.in_default.ensures.cases.0

pub returns-in-Ok-table_from_str-clause-ok : goal.returns-in-Ok-table_from_str-clause-ok
returns-in-Ok-table_from_str-clause-ok c =
    let parsed : parse_document c.args.bytes.now ≡ Some (table_view c.in-Ok-table_from_str.table) = rw (← c.in-Ok.ensures.cases.0) c.in-Ok-table_from_str.ensures.ok in
    document_of-text c.args.bytes.now c.in-Ok.ensures.cases.1 ∙ ap (or_fault NotToml) parsed

pub returns-in-Err-2-clause-fault : goal.returns-in-Err-2-clause-fault
returns-in-Err-2-clause-fault c = λ other.
    let refused = c.in-Err.ensures.refused (λ memory. false≢true (sym c.if-is_memory.false ∙ c.is_memory.ensures.1 memory)) in
    let parsed : parse_document c.args.bytes.now ≡ None = rw (← c.in-Ok.ensures.cases.0) refused in
    document_of-text c.args.bytes.now c.in-Ok.ensures.cases.1 ∙ ap (or_fault NotToml) parsed
