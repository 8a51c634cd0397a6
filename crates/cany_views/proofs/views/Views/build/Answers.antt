-- The value that is built has the parts that the scenario tells.
use Rattle.std.proofs.Common.{◌≡◌, ◌∙◌, subst, sym}
use Rattle.cany_model.specs.Rules.Knowledge.{knowledge_at_first}
use Rattle.cany_views.specs.Views.{IsInBounds, IsViewsOf, ViewsParts, asked_cycles}
use Rattle.cany_views.proofs.ViewFacts.{first_bounds, first_stands, first_views}
use Rattle.cany_views.proofs.views.Views.build.Goals as goal
use Rattle.cany_views.proofs.views.Views.build.Goals.{After-empty-2}

abbrev views : After-empty-2 → ViewsParts
views c = record {
  node = c.args.node;
  params = c.params.result.now;
  members = c.members.result;
  joiners = c.empty.result;
  leavers = c.empty-2.result;
  joins = c.in_ok-joins.joins.items;
  leaves = c.in_ok-leaves.leaves.items;
}

same : (c : After-empty-2) → views c ≡ first_views c.args.scenario.now c.args.node
same c =
    let joins : c.in_ok-joins.joins.items ≡ asked_cycles c.args.scenario.now.params c.args.node c.args.scenario.now.joins =
    c.in_ok-joins.ensures ∙ (λ k. asked_cycles (c.params.ensures.params k) c.args.node (c.joins.ensures k)) in
    let leaves : c.in_ok-leaves.leaves.items ≡ asked_cycles c.args.scenario.now.params c.args.node c.args.scenario.now.leaves =
    c.in_ok-leaves.ensures ∙ (λ k. asked_cycles (c.params.ensures.params k) c.args.node (c.leaves.ensures k)) in
    λ k. record {
      node = c.args.node;
      params = c.params.ensures.params k;
      members = c.members.ensures k;
      joiners = c.empty.ensures.set k;
      leavers = c.empty-2.ensures.set k;
      joins = joins k;
      leaves = leaves k;
    }

pub invariant_of-result : goal.invariant_of-result
invariant_of-result c =
    subst IsInBounds (sym (same c)) (first_bounds c.args.scenario.now c.args.node c.params.ensures.legal c.requires)

pub returns : goal.returns
returns c =
    subst (IsViewsOf c.args.scenario.now c.args.node (knowledge_at_first c.args.scenario.now.members)) (sym (same c))
    (first_stands c.args.scenario.now c.args.node c.params.ensures.legal)
