use Rattle.std.proofs.Common.{◌∙◌, sym, refl, arith}
use Rattle.cany_scenario.proofs.NamedFacts.{named-here, named-later, named-none}
use Rattle.cany_scenario.proofs.word.find_named.Goals as goal

pub loop-one-init : goal.loop-one-init
loop-one-init g c = refl

pub loop-one-preserved : goal.loop-one-preserved
loop-one-preserved g c =
    c.loop-one.invariant
    ∙ named-later g.T.Named.word c.args.these.now c.loop-one.one-index c.one-item.result c.args.name.now c.loop-one-test.true c.one-item.is
    (rw c.name.ensures at (sym c.eq.ensures ∙ c.if-eq.false))

pub returns-then-eq : goal.returns-then-eq
returns-then-eq g c =
    sym (c.loop-one.invariant
    ∙ named-here g.T.Named.word c.args.these.now c.loop-one.one-index c.one-item.result c.args.name.now c.loop-one-test.true c.one-item.is
    (rw c.name.ensures at (sym c.eq.ensures ∙ c.if-eq.true)))

pub returns : goal.returns
returns g c = sym (c.loop-one.invariant ∙ named-none g.T.Named.word c.args.these.now c.loop-one.one-index c.args.name.now (omega arith))
