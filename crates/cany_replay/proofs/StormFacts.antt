-- The scenario of a storm is legal.
use Rattle.std.proofs.Common.{◌≡◌, ◌≢◌, ℕ, zero, suc, ◌*◌, ◌^◌, ◌<◌, Bool, true, false, List, [], ◌∷◌, ◌++◌, length, get_or, None, refl, sym, subst, ◌∙◌, arith, length-append}
use Rattle.std.specs.Prelude.{All, AllPairs, if◌then◌else◌}
use Rattle.std.proofs.lemmas.List.Elements.{All-append}
use Rattle.cany_base.specs.declared.message.NodeAsk.{NodeAsk}
use Rattle.cany_base.specs.declared.message.SendAsk.{SendAsk}
use Rattle.cany_base.specs.declared.rule.Place.TheVariants.{At, FrameNth}
use Rattle.cany_base.specs.declared.rule.Rule.{Rule}
use Rattle.cany_base.specs.declared.rule.Verdict.TheVariants.{Clean, Lost, Partial}
use Rattle.cany_base.specs.Frame.{data_class}
use Rattle.cany_base.specs.Nodes.{Nodes, those_where, bits_where}
use Rattle.cany_base.specs.Params.{Parameters}
use Rattle.cany_base.specs.Scenario.{IsLegalScenario, IsRuleOf, IsSendOf, IsVerdictOf}
use Rattle.cany_base.proofs.NodesFacts.{AllBelow-bits}
use Rattle.cany_model.specs.Rules.Messages.{Message, messages_of}
use Rattle.cany_text.specs.NodesText.{all_nodes}
use Rattle.cany_text.proofs.NodesTextLegal.{all_nodes-below}
use Rattle.cany_replay.specs.Storm.{fifth_rule_drawn, next_word, no_message, rule_drawn, send_drawn, stop_rule, storm_of, storm_params}
use Rattle.cany_replay.proofs.DrawFacts.{HaveDrawn, all_drawn, length-drawn, pairs_drawn, pairs_more}
use Rattle.cany_replay.proofs.MessagePlaces.{origins_below, seq_grows}
use Rattle.rand_pcg.specs.Lcg.{Lcg}

-- ---- sends

send_legal : (i : ℕ) → i < 200 → (g : Lcg) → IsSendOf storm_params (send_drawn i g).0
unfolding send_drawn
send_legal i few g = (omega (arith, few), omega arith)

sends_legal : (sends : List SendAsk) (g g' : Lcg) → HaveDrawn send_drawn 200 g sends g' → All (IsSendOf storm_params) sends
sends_legal sends g g' drawn =
    subst (λ (r : List SendAsk × Lcg). All (IsSendOf storm_params) r.0) (sym drawn) (all_drawn (IsSendOf storm_params) send_drawn 200 g send_legal)

-- ---- rules

verdict_legal : (b : Bool) (reject : ℕ) → reject < 2 ^ 8 → IsVerdictOf storm_params (if b then Lost else Partial (record { bits = reject }))
verdict_legal true reject small = tt
verdict_legal false reject small = AllBelow-bits 8 (record { bits = reject }) small

rule_legal : (m : Message) (g : Lcg) → m.origin < 8 → IsRuleOf storm_params (rule_drawn m g).0
unfolding rule_drawn next_word
rule_legal m g small = record {
  place = (small, omega arith, omega arith);
  verdict = verdict_legal _ _ (omega arith);
  stop = AllBelow-bits 8 _ (omega arith);
}

stop_legal : IsRuleOf storm_params stop_rule
unfolding those_where bits_where
stop_legal = record { place = omega arith; verdict = tt; stop = AllBelow-bits 8 _ (omega arith) }

-- where the rule of a message stands
rule_place : (m : Message) (g : Lcg) → (rule_drawn m g).0.place ≡ FrameNth (data_class m.service) m.seq m.origin 1
unfolding rule_drawn
rule_place m g = refl

not_at : (m : Message) (g : Lcg) → (rule_drawn m g).0.place ≢ stop_rule.place
not_at m g same = let e : FrameNth (data_class m.service) m.seq m.origin 1 ≡ At 10000 = sym (rule_place m g) ∙ same in absurd (cc)

apart : (k m : Message) (g h : Lcg) → (k.origin ≡ m.origin → k.seq < m.seq) → (rule_drawn k g).0.place ≢ (rule_drawn m h).0.place
apart k m g h later same =
    let e : FrameNth (data_class k.service) k.seq k.origin 1 ≡ FrameNth (data_class m.service) m.seq m.origin 1 = sym (rule_place k g) ∙ same ∙ rule_place m h in
    let origin : k.origin ≡ m.origin = cc in
    let seq : k.seq ≡ m.seq = cc in
    omega (arith, seq, later origin)

-- ---- the scenario

module _ (sends : List SendAsk) (rules : List Rule) (g g' g'' : Lcg) (sends_drawn : HaveDrawn send_drawn 200 g sends g')
    (rules_drawn : HaveDrawn (fifth_rule_drawn (messages_of sends)) 40 g' rules g'') where
  all_sends : All (IsSendOf storm_params) sends
  all_sends = sends_legal sends g g' sends_drawn

  count : length sends ≡ 200
  count = length-drawn send_drawn 200 g g' sends sends_drawn

  frame_rules : All (IsRuleOf storm_params) rules
  frame_rules =
      subst (λ (r : List Rule × Lcg). All (IsRuleOf storm_params) r.0) (sym rules_drawn)
      (all_drawn (IsRuleOf storm_params) (fifth_rule_drawn (messages_of sends)) 40 g' (λ q few h.
      rule_legal (get_or (messages_of sends) (5 * q) no_message) h (origins_below 8 [] sends (λ k d inside. (all_sends k d inside).1) (5 * q) no_message (omega arith))))

  frame_places : AllPairs (λ a b. a.place ≢ b.place) rules
  frame_places =
      subst (λ (r : List Rule × Lcg). AllPairs (λ (a b : Rule). a.place ≢ b.place) r.0) (sym rules_drawn)
      (pairs_drawn (λ (a b : Rule). a.place ≢ b.place) (fifth_rule_drawn (messages_of sends)) 40 g' (λ i j before few h h'.
      apart (get_or (messages_of sends) (5 * i) no_message) (get_or (messages_of sends) (5 * j) no_message) h h'
      (seq_grows [] sends (5 * i) (5 * j) no_message (omega (arith, before)) (omega (arith, few, count)))))

  not_the_stop : All (λ a. a.place ≢ stop_rule.place) rules
  not_the_stop =
      subst (λ (r : List Rule × Lcg). All (λ (a : Rule). a.place ≢ stop_rule.place) r.0) (sym rules_drawn)
      (all_drawn (λ (a : Rule). a.place ≢ stop_rule.place) (fifth_rule_drawn (messages_of sends)) 40 g' (λ q few h.
      not_at (get_or (messages_of sends) (5 * q) no_message) h))

  one_stop : All (IsRuleOf storm_params) (stop_rule ∷ [])
  one_stop zero d inside = stop_legal
  one_stop (suc k) d inside = absurd (omega (arith, inside))

  pub storm_legal : IsLegalScenario (storm_of sends rules)
  storm_legal = record {
    in_range = record {
      nodes = (omega arith, omega arith);
      lag = omega arith;
      omit = omega arith;
      errors = omega arith;
      bound = (omega arith, omega arith);
      cycle = (omega arith, omega arith);
      life = (omega arith, omega arith);
      silence = (omega arith, omega arith);
      confirm = (omega arith, omega arith);
      slots = (omega arith, omega arith);
    };
    formulas = record { bound = omega arith; cycle = omega arith; life = omega arith; silence = omega arith; confirm = omega arith };
    members = all_nodes-below storm_params;
    sends = all_sends;
    rules = All-append (IsRuleOf storm_params) rules (stop_rule ∷ []) frame_rules one_stop;
    joins = λ k d inside. absurd (omega (arith, inside));
    leaves = λ k d inside. absurd (omega (arith, inside));
    restarts = λ k d inside. absurd (omega (arith, inside));
    few_sends = omega (arith, count);
    few_rules = omega (arith, length-append rules (stop_rule ∷ []), length-drawn (fifth_rule_drawn (messages_of sends)) 40 g' g'' rules rules_drawn);
    few_joins = omega arith;
    few_leaves = omega arith;
    few_restarts = omega arith;
    few_of_node = λ node. omega arith;
    places = pairs_more (λ (a b : Rule). a.place ≢ b.place) rules stop_rule frame_places not_the_stop;
  }

-- the same of the parts that the code makes
pub parts_legal : (params : Parameters) (members : Nodes) (sends shown : List SendAsk) (rules all_rules : List Rule) (stop : Nodes) (joins leaves restarts : List NodeAsk)
    (g g' g'' : Lcg) → HaveDrawn send_drawn 200 g sends g' → shown ≡ sends → HaveDrawn (fifth_rule_drawn (messages_of shown)) 40 g' rules g''
    → params ≡ storm_params → members ≡ all_nodes storm_params → all_rules ≡ rules ++ record { place = At 10000; verdict = Clean; stop = stop } ∷ []
    → stop ≡ stop_rule.stop → joins ≡ [] → leaves ≡ [] → restarts ≡ []
    → IsLegalScenario (record {
      params = params;
      members = members;
      sends = sends;
      rules = all_rules;
      joins = joins;
      leaves = leaves;
      restarts = restarts;
      from = 0;
      inc = 0;
      journal = None;
    })
parts_legal params members sends shown rules all_rules stop joins leaves restarts g g' g'' sends_drawn same rules_drawn params_are members_are rules_are stop_is joins_are leaves_are restarts_are =
    let own_rules : HaveDrawn (fifth_rule_drawn (messages_of sends)) 40 g' rules g'' =
    subst (λ (xs : List SendAsk). HaveDrawn (fifth_rule_drawn (messages_of xs)) 40 g' rules g'') same rules_drawn in
    rw (params_are, members_are, rules_are, stop_is, joins_are, leaves_are, restarts_are) (storm_legal sends rules g g' g'' sends_drawn own_rules)
