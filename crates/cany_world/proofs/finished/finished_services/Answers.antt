use Rattle.cany_world.proofs.SettledFacts.{finished_by}
use Rattle.cany_world.proofs.finished.finished_services.Goals as goal

pub returns : goal.returns
returns c scenario journal m key about is =
    finished_by _ m.service is
    (λ by done. c.nothing_is_to_come.ensures done scenario journal m key about by)
    (λ by done. c.nothing_is_to_come-2.ensures done scenario journal m key about by)
    (λ by done. c.nothing_is_to_come-3.ensures done scenario journal m key about by)
