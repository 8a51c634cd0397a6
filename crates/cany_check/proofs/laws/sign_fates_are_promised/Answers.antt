use Rattle.std.proofs.lemmas.Bool.{and_parts}
use Rattle.std.specs.Prelude.{nat_le}
use Rattle.cany_base.proofs.ParamsFacts.{few_nodes}
use Rattle.cany_model.specs.Bus.State.{slots_run}
use Rattle.cany_model.specs.Runs.Run.{all_read, run}
use Rattle.cany_check.proofs.Deciding.FatesOfRun.{sign_apart_where, unlisted_agreed}
use Rattle.cany_check.proofs.laws.sign_fates_are_promised.Goals as goal

pub returns-clause-apart : goal.returns-clause-apart
returns-clause-apart c scenario journal legal whole sign =
    sign_apart_where scenario journal (few_nodes scenario.params legal.in_range)
    (and_parts (nat_le scenario.params.slots (slots_run (run scenario journal))) (all_read (run scenario journal)) whole).1 sign

pub returns-clause-unlisted : goal.returns-clause-unlisted
returns-clause-unlisted c scenario journal legal whole sign unlisted =
    unlisted_agreed scenario journal (few_nodes scenario.params legal.in_range) sign unlisted
    (and_parts (nat_le scenario.params.slots (slots_run (run scenario journal))) (all_read (run scenario journal)) whole).1
