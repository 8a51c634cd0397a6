use Rattle.std.proofs.Common.{◌∙◌}
use Rattle.cany_scenario.specs.Entries.{entry_of}
use Rattle.cany_scenario.proofs.SendsFacts.{send_from-four}
use Rattle.cany_scenario.proofs.sends.SendAskFromEntry.from_entry.Goals as goal

pub returns-in-Some : goal.returns-in-Some
returns-in-Some c = c.send_of_values.ensures ∙ send_from-four c.args.params.now (entry_of c.args.entry.now) c.in-Some.values c.in-Some.ensures
