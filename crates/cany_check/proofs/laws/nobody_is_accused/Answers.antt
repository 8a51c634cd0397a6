use Rattle.cany_check.proofs.Deciding.Accused.{runs_unaccused}
use Rattle.cany_check.proofs.laws.nobody_is_accused.Goals as goal

pub returns : goal.returns
returns c scenario journal legal none within r correct i correct_i slot cycle stands =
    runs_unaccused scenario legal none journal within r correct i correct_i slot cycle stands
