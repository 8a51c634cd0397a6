use Rattle.std.proofs.Common.{ap, ◌∙◌, ◌||◌}
use Rattle.std.specs.Prelude.{nat_lt}
use Rattle.cany_diffuse.specs.Counts.{noted_in}
use Rattle.cany_diffuse.specs.Eager.{copies_of, is_owned}
use Rattle.cany_diffuse.proofs.EagerFacts.{counted}
use Rattle.cany_diffuse.proofs.eager.Eager.holds.Goals as goal

pub returns-clause-held : goal.returns-clause-held
unfolding copies_of is_owned
returns-clause-held g c =
    let noted = c.noted.ensures.noted ∙ ap (noted_in c.self.inside.counts.items) c.key.ensures in
    rw (← c.self.view_is) (c.is_held.ensures ∙ ap (λ e. nat_lt 0 e.copies || e.owned) noted)

pub returns-clause-counted : goal.returns-clause-counted
returns-clause-counted g c = rw (← c.self.view_is) (counted c.self.inside.omit c.self.inside.counts c.noted.ensures.once c.noted.ensures.fits)
