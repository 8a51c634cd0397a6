use Rattle.std.proofs.Common.{map, slice_index_or, slice_set, sym, ◌∙◌, subst, arith}
use Rattle.cany_crew.specs.Gates.{NoneFell}
use Rattle.cany_io.specs.Faults.{HasRisen}
use Rattle.cany_crew.proofs.GateFacts.{IsAsked, asked, asked_fell, asked_held, asked_same}
use Rattle.cany_crew.proofs.gate.ask.Given as given
use Rattle.cany_crew.proofs.gate.ask.Goals as goal

is : (g : given.Over) (c : goal.After-pass g)
    → IsAsked g.G.Gate.refusals g.G.Gate.refused_at c.args.gates.now c.args.node (slice_index_or c.args.gates.now c.from.result c.index-gates-from.result) c.pass.new.self
    (slice_set c.args.gates.now c.from.result c.pass.new.self)
is g c =
    asked g.G.Gate.refusals g.G.Gate.refused_at c.args.gates.now c.args.node c.from.result c.index-gates-from.result c.pass.new.self (c.from.ensures ∙ c.get.ensures.value) c.requires

pub returns-clause-passed : goal.returns-clause-passed
returns-clause-passed g c = λ passed.
    let so = is g c in
    so.counts ∙ asked_same (map g.G.Gate.refusals c.args.gates.now) c.args.node (g.G.Gate.refusals c.pass.new.self) (c.pass.ensures.passed passed ∙ sym so.before)

pub returns-clause-refused : goal.returns-clause-refused
returns-clause-refused g c = λ refused.
    let so = is g c in
    let counts = map g.G.Gate.refusals c.args.gates.now in
    let new = g.G.Gate.refusals c.pass.new.self in
    asked_held c.args.node c.args.slot new counts _ _ so.within (subst (λ n. HasRisen n new) (sym so.before) (c.pass.ensures.refused refused)) so.counts
    (so.slot ∙ c.pass.ensures.slot refused)

pub returns-clause-count : goal.returns-clause-count
returns-clause-count g c =
    let so = is g c in
    let counts = map g.G.Gate.refusals c.args.gates.now in
    let le = c.pass.ensures.count in
    subst (NoneFell counts) (sym so.counts) (asked_fell counts c.args.node (g.G.Gate.refusals c.pass.new.self) so.within (omega (arith, so.before, le)))
