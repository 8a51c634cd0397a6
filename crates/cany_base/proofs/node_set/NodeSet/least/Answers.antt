-- The place of the lowest 1.
use Rattle.std.proofs.Common.{◌<◌, sym, ◌∙◌}
use Rattle.std.proofs.lemmas.Option.{IfSome_then}
use Rattle.cany_base.proofs.EmptyFacts.{is_nobody-true, some_bits}
use Rattle.cany_base.proofs.NodesFacts.{has_none, has_lowest, below_lowest}
use Rattle.cany_base.proofs.node_set.NodeSet.least.Goals as goal

pub returns-then-is_empty-clause-none : goal.returns-then-is_empty-clause-none
returns-then-is_empty-clause-none c i =
    rw (is_nobody-true c.args.self (sym c.is_empty.ensures.nobody ∙ c.if-is_empty.true)) (has_none i)

some : (c : goal.After-new) → 0 < c.self.inside.bits
some c = rw (← c.self.view_is) at (some_bits c.args.self (sym c.is_empty.ensures.nobody ∙ c.if-is_empty.false))

pub returns-clause-has : goal.returns-clause-has
returns-clause-has c =
    IfSome_then c.new.result c.new.ensures.value
    (λ node e. rw (← c.self.view_is, e) (has_lowest c.self.inside.bits (some c) c.self.invariant))

pub returns-clause-least : goal.returns-clause-least
returns-clause-least c =
    IfSome_then c.new.result c.new.ensures.value
    (λ node e i h. rw e (below_lowest c.self.inside.bits i (some c) c.self.invariant (rw (← c.self.view_is) at h)))
