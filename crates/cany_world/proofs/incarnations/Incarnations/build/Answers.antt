use Rattle.std.proofs.Common.{◌≡◌, ◌+◌, List, length, refl, ap, subst, sym, ◌∙◌, arith}
use Rattle.std.specs.Prelude.{count_by, replicate}
use Rattle.std.proofs.lemmas.List.{length-replicate}
use Rattle.cany_base.specs.declared.message.NodeAsk.{NodeAsk}
use Rattle.cany_base.specs.Scenario.{is_ask_of_node}
use Rattle.cany_model.specs.declared.span.Span.{Span}
use Rattle.cany_world.specs.Incarnations.{AreBuilt}
use Rattle.cany_world.proofs.incarnations.Incarnations.build.Goals as goal

pub built-requires-clause-few : goal.built-requires-clause-few
built-requires-clause-few c =
    let count : c.restarts_of-count.result ≡ count_by (is_ask_of_node c.args.node) c.args.scenario.now.restarts =
    c.restarts_of-count.ensures ∙ ap (λ (l : List NodeAsk). count_by (is_ask_of_node c.args.node) l) c.restarts.ensures in
    omega (arith, count, c.params-legal.ensures.legal.few_of_node c.args.node)

pub invariant_of-result : goal.invariant_of-result
invariant_of-result c =
    let count : c.restarts_of-count.result ≡ count_by (is_ask_of_node c.args.node) c.args.scenario.now.restarts =
    c.restarts_of-count.ensures ∙ ap (λ (l : List NodeAsk). count_by (is_ask_of_node c.args.node) l) c.restarts.ensures in
    let spans : length c.in_ok-spans.spans.items ≡ c.restarts_of-count.result + 1 =
    ap (λ (l : List Span). length l) (c.in_ok-spans.ensures.items_if_clones_equal (λ y same. same)) ∙ length-replicate (c.restarts_of-count.result + 1) c.span_since.result in
    record {
      within = omega (arith, c.in_ok-nodes.ensures.whole);
      spans = spans ∙ sym c.in_ok-nodes.ensures.whole;
      few = omega (arith, c.in_ok-nodes.ensures.whole, count, c.params-legal.ensures.legal.few_of_node c.args.node);
    }

pub returns : goal.returns
returns c =
    let count : c.restarts_of-count.result ≡ count_by (is_ask_of_node c.args.node) c.args.scenario.now.restarts =
    c.restarts_of-count.ensures ∙ ap (λ (l : List NodeAsk). count_by (is_ask_of_node c.args.node) l) c.restarts.ensures in
    record {
      nodes = subst (λ n. AreBuilt c.args.scenario.now c.args.node (n + 1) c.in_ok-nodes.nodes.items) count c.in_ok-nodes.ensures;
      spans = c.in_ok-spans.ensures.items_if_clones_equal (λ y same. same) ∙ ap (λ n. replicate (n + 1) c.span_since.result) count
          ∙ ap (λ (x : Span). replicate (count_by (is_ask_of_node c.args.node) c.args.scenario.now.restarts + 1) x) c.span_since.ensures;
      present = refl;
    }
