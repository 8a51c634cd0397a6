-- The scenario that a text stands for is legal.
use Rattle.std.proofs.Common.{◌≡◌, ℕ, ◌-◌, ◌≤◌, ◌⊎◌, inl, inr, min, max, Bool, true, false, nat_lt, List, [], Option, Some, None, refl, arith}
use Rattle.cany_base.specs.Layout.{layout}
use Rattle.std.specs.Prelude.{if◌then◌else◌, Result, Ok, Err}
use Rattle.std.specs.Option.{option_map_or}
use Rattle.std.proofs.lemmas.Bool.Decides.{nat_tests}
use Rattle.toml.specs.Data.{Data, get_member}
use Rattle.cany_base.specs.declared.message.SendAsk.{SendAsk}
use Rattle.cany_base.specs.declared.format.Format.{Format}
use Rattle.cany_base.specs.declared.format.Format.TheVariants.{One, Two}
use Rattle.cany_base.specs.declared.params.ParamFault.{ParamFault}
use Rattle.cany_base.specs.Limits.{greatest_errors, greatest_given, greatest_lag, greatest_omit, greatest_slots, most_nodes, most_sends}
use Rattle.cany_base.specs.Params.{Parameters, IsInRange, MeetsFormulas, least_bound, least_cycle, least_life, least_silence, first_fault}
use Rattle.cany_base.specs.Scenario.{ScenarioParts, IsLegalScenario, IsSendOf}
use Rattle.cany_text.specs.declared.scenario_fault.KeyName.{KeyName}
use Rattle.cany_text.specs.declared.scenario_fault.KeyName.TheVariants as key
use Rattle.cany_text.specs.declared.scenario_fault.Position.{Position}
use Rattle.cany_text.specs.declared.scenario_fault.ScenarioFault.TheVariants.{UnknownKey}
use Rattle.cany_text.specs.declared.scenario_fault.TableName.TheVariants as table
use Rattle.cany_text.specs.AsksText.{joins_of, leaves_of, restarts_of}
use Rattle.cany_text.specs.FaultsText.{rules_of}
use Rattle.cany_text.specs.JournalText.{journal_of_text}
use Rattle.cany_text.specs.NodesText.{all_nodes, nodes_from}
use Rattle.cany_text.specs.ParamsText.{format_from, given_params, meeting_formulas, params_of}
use Rattle.cany_text.specs.ScenarioText.{document_of, top_keys, top_table, scenario_from, scenario_of}
use Rattle.cany_text.specs.SendsText.{payload_from, service_from, send_keys, send_from, sends_of}
use Rattle.cany_text.specs.TextNames.{key_name}
use Rattle.cany_text.specs.TomlKeys.{Entry, position_of, has_only, required, optional, number_from}
use Rattle.cany_text.proofs.AsksTextLegal.{some_node, joins_of-legal, leaves_of-legal, restarts_of-legal}
use Rattle.cany_text.proofs.FaultsTextLegal.{rules_of-legal}
use Rattle.cany_text.proofs.NodesTextLegal.{all_nodes-below, nodes_at-below}
use Rattle.cany_text.proofs.TomlSteps.{bind_ok, same_ok, found, fault_unless-true, number_from-range, required-range, required-below, AreFew, entries_of-few}

-- ---- parameters

-- a default is held to no range
abbrev IsNear : ℕ → ℕ → ℕ → ℕ → Type 0
IsNear low high default n = (min low default ≤ n) × (n ≤ max high default)

near_option : (low high default : ℕ) (at : Position) (o : Option Data) (n : ℕ)
    → option_map_or (number_from low high at) o (found default) ≡ Ok n
    → IsNear low high default n
near_option low high default at None n h = let e = same_ok default n h in (omega (arith, e), omega (arith, e))
near_option low high default at (Some value) n h =
    let r = number_from-range low high at value n h in (omega (arith, r), omega (arith, r))

optional-near : (low high default : ℕ) (name : KeyName) (top : Entry) (n : ℕ) → optional (number_from low high) default name top ≡ Ok n
    → IsNear low high default n
optional-near low high default name top n h = near_option low high default (position_of name top)
    (get_member (key_name name) top.members) n h

nodes_of_any : (format : Format) (nodes : ℕ) → nodes ≤ (layout format).nodes → nodes ≤ most_nodes
nodes_of_any One nodes h = omega (arith, h)
nodes_of_any Two nodes h = h

least_bound-small : (nodes lag errors : ℕ) → nodes ≤ most_nodes → lag ≤ greatest_lag → errors ≤ greatest_errors
    → (1 ≤ least_bound nodes lag errors) × (least_bound nodes lag errors ≤ greatest_given)
least_bound-small nodes lag errors n l e = grind arith

least_bound-near : (nodes lag errors : ℕ) → nodes ≤ most_nodes → IsNear 0 greatest_lag 0 lag → IsNear 0 greatest_errors 2 errors
    → (1 ≤ least_bound nodes lag errors) × (least_bound nodes lag errors ≤ greatest_given)
least_bound-near nodes lag errors n l e = least_bound-small nodes lag errors n (omega arith) (omega arith)

near_bound : (default bound : ℕ) → (1 ≤ default) × (default ≤ greatest_given) → IsNear 1 greatest_given default bound
    → (1 ≤ bound) × (bound ≤ greatest_given)
near_bound default bound d near = (omega arith, omega arith)

-- each from the values before it
in_range : (p : Parameters)
    → (2 ≤ p.nodes) × (p.nodes ≤ (layout p.format).nodes) → (1 ≤ p.slots) × (p.slots ≤ greatest_slots p.format) → IsNear 0 greatest_lag 0 p.lag
    → IsNear 0 greatest_omit 1 p.omit
    → IsNear 0 greatest_errors 2 p.errors → (1 ≤ p.bound) × (p.bound ≤ greatest_given) → IsNear 1 greatest_given (least_cycle p.lag p.bound) p.cycle
    → IsNear 1 greatest_given (least_life p.lag p.bound) p.life → IsNear 1 greatest_given (least_silence p.lag p.bound p.life) p.silence
    → IsNear 1 p.cycle 10 p.confirm
    → IsInRange p
in_range p n s l j e b c f g r = record {
  nodes = n;
  lag = omega (arith, l);
  omit = omega (arith, j);
  errors = omega (arith, e);
  bound = (omega (arith, b), omega (arith, b));
  cycle = (omega (arith, l, b, c), omega (arith, l, b, c));
  life = (omega (arith, l, b, f), omega (arith, l, b, f));
  silence = (omega (arith, l, b, f, g), omega (arith, l, b, f, g));
  confirm = (omega (arith, l, b, c, r), omega (arith, l, b, c, r));
  slots = s;
}

given_params-range : (top : Entry) (p : Parameters) → given_params top ≡ Ok p → IsInRange p
unfolding given_params
given_params-range top p h =
    let format = bind_ok (required format_from key.Format top) _ p h in
    let nodes = bind_ok (required (number_from 2 (layout format.0).nodes) key.Nodes top) _ p format.2 in
    let slots = bind_ok (required (number_from 1 (greatest_slots format.0)) key.Slots top) _ p nodes.2 in
    let lag = bind_ok (optional (number_from 0 greatest_lag) 0 key.Lag top) _ p slots.2 in
    let omit = bind_ok (optional (number_from 0 greatest_omit) 1 key.Omit top) _ p lag.2 in
    let errors = bind_ok (optional (number_from 0 greatest_errors) 2 key.Errors top) _ p omit.2 in
    let bound = bind_ok (optional (number_from 1 greatest_given) (least_bound nodes.0 lag.0 errors.0) key.Bound top) _ p errors.2 in
    let cycle = bind_ok (optional (number_from 1 greatest_given) (least_cycle lag.0 bound.0) key.Cycle top) _ p bound.2 in
    let life = bind_ok (optional (number_from 1 greatest_given) (least_life lag.0 bound.0) key.Life top) _ p cycle.2 in
    let silence = bind_ok (optional (number_from 1 greatest_given) (least_silence lag.0 bound.0 life.0) key.Silence top) _ p life.2 in
    let confirm = bind_ok (optional (number_from 1 cycle.0) 10 key.Confirm top) _ p silence.2 in
    let made = same_ok _ p confirm.2 in
    let n = required-range 2 (layout format.0).nodes key.Nodes top nodes.0 nodes.1 in
    let s = required-range 1 (greatest_slots format.0) key.Slots top slots.0 slots.1 in
    let l = optional-near 0 greatest_lag 0 key.Lag top lag.0 lag.1 in
    let j = optional-near 0 greatest_omit 1 key.Omit top omit.0 omit.1 in
    let e = optional-near 0 greatest_errors 2 key.Errors top errors.0 errors.1 in
    let least = least_bound-near nodes.0 lag.0 errors.0 (nodes_of_any format.0 nodes.0 n.1) l e in
    let b = optional-near 1 greatest_given (least_bound nodes.0 lag.0 errors.0) key.Bound top bound.0 bound.1 in
    let c = optional-near 1 greatest_given (least_cycle lag.0 bound.0) key.Cycle top cycle.0 cycle.1 in
    let f = optional-near 1 greatest_given (least_life lag.0 bound.0) key.Life top life.0 life.1 in
    let g = optional-near 1 greatest_given (least_silence lag.0 bound.0 life.0) key.Silence top silence.0 silence.1 in
    let r = optional-near 1 cycle.0 10 key.Confirm top confirm.0 confirm.1 in
    rw (← made) (in_range _ n s l j e (near_bound _ bound.0 least b) c f g r)

not_refused : (test : Bool) (fault : ParamFault) (rest : Result (Unit {0}) ParamFault) (unit : Unit {0})
    → (if test then Err fault else rest) ≡ Ok unit
    → (test ≡ false) × (rest ≡ Ok unit)
not_refused true fault rest unit h = cc h
not_refused false fault rest unit h = (refl, h)

le-from_not_lt : (a b : ℕ) → nat_lt a b ≡ false → b ≤ a
le-from_not_lt a b h = grind (arith, nat_tests)

first_fault-none : (p : Parameters) → first_fault p ≡ Ok tt → MeetsFormulas p
first_fault-none p h =
    let bound = not_refused _ _ _ tt h in
    let cycle = not_refused _ _ _ tt bound.1 in
    let life = not_refused _ _ _ tt cycle.1 in
    let silence = not_refused _ _ _ tt life.1 in
    let confirm = not_refused _ _ _ tt silence.1 in
    record {
      bound = le-from_not_lt _ _ bound.0;
      cycle = le-from_not_lt _ _ cycle.0;
      life = le-from_not_lt _ _ life.0;
      silence = le-from_not_lt _ _ silence.0;
      confirm = le-from_not_lt _ _ confirm.0;
    }

either : (r : Result (Unit {0}) ParamFault) → (r ≡ Ok tt) ⊎ ((fault : ParamFault) × (r ≡ Err fault))
either (Ok tt) = inl refl
either (Err fault) = inr (fault, refl)

-- parameters that are read back meet the formulas
meeting_formulas-same : (p q : Parameters) → meeting_formulas p ≡ Ok q → (p ≡ q) × (first_fault p ≡ Ok tt)
meeting_formulas-same p q h = elim (either (first_fault p)) [
  | inl e ↦ (same_ok p q (rw e at h), e)
  | inr e ↦ cc (rw e.1 at h)
]

-- the parameters are in their ranges and meet the formulas
params_of-legal : (top : Entry) (p : Parameters) → params_of top ≡ Ok p → IsInRange p × MeetsFormulas p
unfolding params_of
params_of-legal top p h =
    let given = bind_ok (given_params top) meeting_formulas p h in
    let checked = meeting_formulas-same given.0 p given.2 in
    rw (← checked.0) (given_params-range top given.0 given.1, first_fault-none given.0 checked.1)

-- ---- sends

send_from-legal : (p : Parameters) → IsInRange p → (entry : Entry) (send : SendAsk) → send_from p entry ≡ Ok send → IsSendOf p send
unfolding send_from
send_from-legal p r entry send h =
    let known = fault_unless-true (has_only send_keys entry.members) (UnknownKey entry.table entry.place) _ send h in
    let slot = bind_ok (required (number_from 0 (p.slots - 1)) key.Slot entry) _ send known.1 in
    let node = bind_ok (required (number_from 0 (p.nodes - 1)) key.Node entry) _ send slot.2 in
    let service = bind_ok (required service_from key.Service entry) _ send node.2 in
    let payload = bind_ok (optional payload_from [] key.DataKey entry) _ send service.2 in
    let made = same_ok _ send payload.2 in
    let in_run = required-below p.slots r.slots.0 key.Slot entry slot.0 slot.1 in
    let on_bus = required-below p.nodes (some_node p r) key.Node entry node.0 node.1 in
    rw (← made) (in_run, on_bus)

sends_of-legal : (p : Parameters) → IsInRange p → (top : Entry) (sends : List SendAsk) → sends_of p top ≡ Ok sends
    → AreFew (IsSendOf p) most_sends sends
sends_of-legal p r top sends h = entries_of-few (IsSendOf p) table.Send most_sends (send_from p) (send_from-legal p r) key.Send top sends h

-- ---- the scenario

-- it is legal, and each of its scripted asks is made
scenario_from-read : (top : Entry) (s : ScenarioParts) → scenario_from top ≡ Ok s → IsLegalScenario s × (s.from ≡ 0)
unfolding scenario_from
scenario_from-read top s h =
    let known = fault_unless-true (has_only top_keys top.members) (UnknownKey top.table top.place) _ s h in
    let params = bind_ok (params_of top) _ s known.1 in
    let members = bind_ok (optional (nodes_from params.0) (all_nodes params.0) key.Members top) _ s params.2 in
    let sends = bind_ok (sends_of params.0 top) _ s members.2 in
    let rules = bind_ok (rules_of params.0 top) _ s sends.2 in
    let joins = bind_ok (joins_of params.0 top) _ s rules.2 in
    let leaves = bind_ok (leaves_of params.0 top) _ s joins.2 in
    let restarts = bind_ok (restarts_of params.0 top) _ s leaves.2 in
    let journal = bind_ok (journal_of_text params.0.format top) _ s restarts.2 in
    let made = same_ok _ s journal.2 in
    let legal = params_of-legal top params.0 params.1 in
    let legal_sends = sends_of-legal params.0 legal.0 top sends.0 sends.1 in
    let legal_rules = rules_of-legal params.0 legal.0 top rules.0 rules.1 in
    let legal_joins = joins_of-legal params.0 legal.0 top joins.0 joins.1 in
    let legal_leaves = leaves_of-legal params.0 legal.0 top leaves.0 leaves.1 in
    let legal_restarts = restarts_of-legal params.0 legal.0 top restarts.0 restarts.1 in
    rw (← made) ((
      record {
        in_range = legal.0;
        formulas = legal.1;
        members = nodes_at-below params.0 legal.0 (all_nodes params.0) (all_nodes-below params.0) key.Members top members.0 members.1;
        sends = legal_sends.0;
        rules = legal_rules.all;
        joins = legal_joins.0;
        leaves = legal_leaves.0;
        restarts = legal_restarts.all;
        few_sends = legal_sends.1;
        few_rules = legal_rules.few;
        few_joins = legal_joins.1;
        few_leaves = legal_leaves.1;
        few_restarts = legal_restarts.few;
        few_of_node = legal_restarts.few_of_node;
        places = legal_rules.apart;
      },
      refl,
    ))

pub scenario_from-legal : (top : Entry) (s : ScenarioParts) → scenario_from top ≡ Ok s → IsLegalScenario s
scenario_from-legal top s h = (scenario_from-read top s h).0

-- a text stands for a legal scenario alone
pub scenario_of-legal : (bytes : List ℕ) (s : ScenarioParts) → scenario_of bytes ≡ Ok s → IsLegalScenario s
unfolding scenario_of
scenario_of-legal bytes s h =
    let members = bind_ok (document_of bytes) (λ m. scenario_from (top_table m)) s h in
    scenario_from-legal (top_table members.0) s members.2

-- and for one as it is read
pub scenario_of-begins : (bytes : List ℕ) (s : ScenarioParts) → scenario_of bytes ≡ Ok s → s.from ≡ 0
unfolding scenario_of
scenario_of-begins bytes s h =
    let members = bind_ok (document_of bytes) (λ m. scenario_from (top_table m)) s h in
    (scenario_from-read (top_table members.0) s members.2).1
