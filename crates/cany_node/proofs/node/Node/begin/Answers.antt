use Rattle.std.proofs.Common.{◌+◌, ap, arith, subst, sym, ◌∙◌}
use Rattle.cany_node.specs.contracts.node.Node.{the_view}
use Rattle.cany_node.specs.Node.{IsWaiting, NodeParts}
use Rattle.cany_node.proofs.BeforeFirstTurn.{begins}
use Rattle.cany_node.proofs.node.Node.begin.Goals as goal

pub returns-clause-stands : goal.returns-clause-stands
returns-clause-stands c = λ scenario inc number from waits.
    let view = ap the_view c.self-inside.view_is ∙ c.self.view_is in
    begins scenario inc c.args.restart _ _ c.begin_outside.new.self _ c.pass_before-2.new.self
    (subst (IsWaiting scenario) (sym view) waits) (omega (arith, number, c.requires.later))
    (number ∙ sym (ap (λ (v : NodeParts). v.inc) view)) from (record {
      first = ap (λ n. c.args.restart + 1 + (c.self-inside.inside.0.1.1.0.bound + n)) c.from.ensures;
      outside = record {
        life = c.begin_outside.ensures.life;
        history = c.begin_outside.ensures.history;
        views = c.begin_outside.ensures.views;
        params = c.begin_outside.ensures.params;
      };
      passed = c.pass_before.inside.from;
      before = ap (λ (v : NodeParts). v.from) c.pass_before.view_is;
      agenda = c.pass_before-2.ensures.agenda;
      joins = c.pass_before-2.ensures.joins;
      leaves = c.pass_before-2.ensures.leaves;
      state = c.pass_before-2.ensures.state;
    })
