use Rattle.std.proofs.lemmas.Bool.{and_parts}
use Rattle.std.specs.Prelude.{nat_le}
use Rattle.cany_base.proofs.ParamsFacts.{few_nodes}
use Rattle.cany_model.specs.Bus.State.{slots_run}
use Rattle.cany_model.specs.Runs.Run.{all_read, run}
use Rattle.cany_check.proofs.Deciding.FatesOfRun.{apart_where, open_where}
use Rattle.cany_check.proofs.laws.message_fates_are_promised.Goals as goal

pub returns-clause-open : goal.returns-clause-open
returns-clause-open c scenario journal legal whole m =
    open_where scenario journal (few_nodes scenario.params legal.in_range)
    (and_parts (nat_le scenario.params.slots (slots_run (run scenario journal))) (all_read (run scenario journal)) whole).1 m

pub returns-clause-apart : goal.returns-clause-apart
returns-clause-apart c scenario journal legal whole m =
    apart_where scenario journal (few_nodes scenario.params legal.in_range)
    (and_parts (nat_le scenario.params.slots (slots_run (run scenario journal))) (all_read (run scenario journal)) whole).1 m
