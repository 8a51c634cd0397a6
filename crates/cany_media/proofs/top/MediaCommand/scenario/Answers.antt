use Rattle.cany_media.proofs.TopFacts.{chosen_by, refused_chosen}
use Rattle.cany_media.proofs.top.MediaCommand.scenario.Goals as goal

pub returns-clause-chosen : goal.returns-clause-chosen
returns-clause-chosen c = chosen_by c.args.plan.now c.args.scenario c.chosen.result c.chosen.ensures.chosen

pub returns-clause-refused : goal.returns-clause-refused
returns-clause-refused c = refused_chosen c.args.plan.now c.args.scenario c.chosen.result c.chosen.ensures.refused
