-- At first nobody is known to have failed, nothing was counted, and no life was shown.
use Rattle.std.proofs.Common.{◌≡◌, ◌+◌, ◌*◌, ◌/◌, length, replicate, refl, ap, sym, ◌∙◌, arith}
use Rattle.std.proofs.lemmas.List.{get_or-replicate, length-replicate}
use Rattle.cany_base.specs.Limits.{most_nodes}
use Rattle.cany_base.specs.Nodes.{has, nobody}
use Rattle.cany_base.specs.Params.{Parameters}
use Rattle.cany_base.proofs.NodesFacts.{has_none}
use Rattle.cany_base.proofs.ParamsFacts.{few_nodes}
use Rattle.cany_model.specs.Rules.Rooms.{cycles}
use Rattle.cany_life.specs.Life.{known_in}
use Rattle.cany_life.proofs.CopyFacts.{copies_fresh}
use Rattle.cany_life.proofs.SentFacts.{few-idle, life_signs_sent-idle}
use Rattle.cany_life.proofs.life.Life.build.Goals as goal

pub returns : goal.returns
returns c = λ n members.
    let params = c.params.view_is ∙ c.params-params.ensures.params in
    let rooms : c.params.inside.slots / c.params.inside.cycle + 1 ≡ cycles c.args.scenario.now + 1 = ap (λ (p : Parameters). p.slots / p.cycle + 1) params in
    let known : c.in_ok-known.known.items ≡ replicate (cycles c.args.scenario.now + 1) nobody =
    c.in_ok-known.ensures ∙ ap (λ k. replicate k nobody) rooms in
    record {
      limits = record { legal = c.params-params.ensures.legal; is_node = refl; are_params = c.params-params.ensures.params };
      failed = λ r. c.empty.ensures.has r ∙ sym (has_none r);
      signs = record {
        cycles = ap length known ∙ length-replicate (cycles c.args.scenario.now + 1) nobody;
        known = λ sign of.
            ap (λ sets. has (known_in sets sign.cycle) sign.node) known
            ∙ ap (λ s. has s sign.node) (get_or-replicate (cycles c.args.scenario.now + 1) sign.cycle nobody nobody (omega (arith, of.cycle)))
            ∙ has_none sign.node;
      };
      copies =
          copies_fresh c.args.scenario.now n _ _ c.in_ok-copies.copies c.in_ok-copies.ensures (ap (λ (p : Parameters). p.omit) params)
          (ap (λ n. n * (c.params.inside.slots / c.params.inside.cycle + 1)) c.from.ensures ∙ ap (λ (p : Parameters). p.nodes * (p.slots / p.cycle + 1)) params);
      lives = record {
        nodes = refl;
        are_shown = λ r below. get_or-replicate most_nodes r 0 0 (omega (arith, below, few_nodes c.args.scenario.now.params c.params-params.ensures.legal.in_range));
        is_last = refl;
        are_sent = sym (life_signs_sent-idle c.args.node n);
        few = few-idle c.args.scenario.now c.args.node n;
      };
    }
