use Rattle.std.proofs.Common.{◌≡◌, ◌∙◌, sym, Ok, Err, rules}
use Rattle.std.proofs.lemmas.Result.{err_from_is_err_and}
use Rattle.toml.specs.View.{view}
use Rattle.cany_text.specs.TomlKeys.{number_from}
use Rattle.cany_scenario.specs.Entries.{entry_of}
use Rattle.cany_scenario.proofs.EntryFacts.{required_value, required-fault, required-value}
use Rattle.cany_scenario.proofs.entry.Entry.number.Goals as goal

pub returns-in_err-required-clause-value : goal.returns-in_err-required-clause-value
returns-in_err-required-clause-value c =
    let p = err_from_is_err_and c.from_residual.result c.from_residual.ensures.1 in
    let bad : required_value c.args.name (entry_of c.args.self.now) ≡ Err c.in_err-required.field-0.0 = search rules in
    rw (p.1, p.2) (sym (required-fault (number_from c.args.low c.args.high) c.args.name (entry_of c.args.self.now) c.in_err-required.field-0.0 bad))

pub returns-clause-value : goal.returns-clause-value
returns-clause-value c =
    let there : required_value c.args.name (entry_of c.args.self.now) ≡ Ok (view c.in_ok-required.field-0.now) = search rules in
    (rw c.position.ensures at c.number_from.ensures.value)
    ∙ sym (required-value (number_from c.args.low c.args.high) c.args.name (entry_of c.args.self.now) (view c.in_ok-required.field-0.now) there)
