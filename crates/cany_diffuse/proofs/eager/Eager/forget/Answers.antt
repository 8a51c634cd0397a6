use Rattle.cany_diffuse.proofs.EagerFacts.{IsForgotten-cleared}
use Rattle.cany_diffuse.proofs.eager.Eager.forget.Goals as goal

pub returns : goal.returns
returns g c =
    let cleared = rw c.key.ensures at c.forget.ensures in
    rw (← c.self.view_is) (IsForgotten-cleared c.self.inside.omit c.self.inside.counts c.forget.new.self (g.K.Diffused.key c.args.k.now) cleared)
