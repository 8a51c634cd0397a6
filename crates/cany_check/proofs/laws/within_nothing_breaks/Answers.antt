use Rattle.std.specs.Prelude.{nat_le}
use Rattle.std.proofs.lemmas.Bool.{and_parts}
use Rattle.cany_base.proofs.ParamsFacts.{few_nodes}
use Rattle.cany_model.specs.Bus.State.{slots_run}
use Rattle.cany_model.specs.Runs.Run.{all_read, run}
use Rattle.cany_model.proofs.Timed.Safety.{safe}
use Rattle.cany_check.proofs.Deciding.Accused.{runs_unaccused}
use Rattle.cany_check.proofs.Deciding.Within.{none_breaks, safe_keeps}
use Rattle.cany_check.proofs.laws.within_nothing_breaks.Goals as goal

pub returns : goal.returns
returns c scenario journal legal whole none within part broken =
    none_breaks scenario journal (few_nodes scenario.params legal.in_range)
    (and_parts (nat_le scenario.params.slots (slots_run (run scenario journal))) (all_read (run scenario journal)) whole).1 (safe_keeps scenario journal (few_nodes scenario.params legal.in_range) (safe scenario legal journal within))
    (λ r c. runs_unaccused scenario legal none journal within r c.correct) part broken
