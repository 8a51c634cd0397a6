use Rattle.cany_check.proofs.Deciding.PartingFacts.{parting_found}
use Rattle.cany_check.proofs.laws.a_parting_is_found.Goals as goal

pub returns : goal.returns
returns c a = parting_found a
