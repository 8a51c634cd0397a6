use Rattle.cany_model.proofs.Timed.Guarantees.{slots_are_quiet}
use Rattle.cany_model.proofs.laws.quiet_slots.Goals as goal

pub returns : goal.returns
returns c scenario journal few formulas members within = slots_are_quiet scenario journal few formulas members within
