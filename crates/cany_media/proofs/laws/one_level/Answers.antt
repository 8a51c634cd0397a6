use Rattle.cany_media.proofs.LevelFacts.{level_of_bus}
use Rattle.cany_media.proofs.laws.one_level.Goals as goal

pub returns : goal.returns
returns c = level_of_bus
