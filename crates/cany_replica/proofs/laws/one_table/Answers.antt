use Rattle.cany_model.specs.Runs.Run.{run}
use Rattle.cany_replica.proofs.AgreementFacts.{one_table}
use Rattle.cany_replica.proofs.laws.one_table.Goals as goal

pub returns : goal.returns
returns c scenario journal legal within = one_table scenario (run scenario journal) (c.safety.ensures scenario journal legal within)
