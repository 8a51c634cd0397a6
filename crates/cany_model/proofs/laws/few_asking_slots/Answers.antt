use Rattle.cany_model.proofs.Timed.Guarantees.{asking_slots_are_few}
use Rattle.cany_model.proofs.laws.few_asking_slots.Goals as goal

pub returns : goal.returns
returns c scenario journal few formulas members within = asking_slots_are_few scenario journal few formulas members within
