use Rattle.std.proofs.Common.{rules, sym, subst}
use Rattle.cany_life.specs.Life.{IsLifeOf}
use Rattle.cany_life.proofs.AdmitFacts.{admitted}
use Rattle.cany_life.proofs.life.Life.admit.Goals as goal

pub returns-then-has-clause-stands : goal.returns-then-has-clause-stands
returns-then-has-clause-stands c = λ scenario past knowledge h.
    admitted scenario c.args.self.now.node past knowledge _ c.args.newly c.args.now
    (subst (λ v. IsLifeOf scenario c.args.self.now.node past knowledge v) (sym c.self.view_is) h)
    c.minus-self-inside.result c.show.new.shown c.args.now c.minus-self-inside.ensures.set (search rules) (search rules) (search rules)

pub returns-else-has-clause-stands : goal.returns-else-has-clause-stands
returns-else-has-clause-stands c = λ scenario past knowledge h.
    admitted scenario c.args.self.now.node past knowledge _ c.args.newly c.args.now
    (subst (λ v. IsLifeOf scenario c.args.self.now.node past knowledge v) (sym c.self.view_is) h)
    c.minus-self-inside.result c.show.new.shown c.self.inside.last c.minus-self-inside.ensures.set (search rules) (search rules) (search rules)
