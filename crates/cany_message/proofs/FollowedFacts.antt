-- The scenario that an incarnation follows is as legal as the whole one, and has the same tables.
use Rattle.std.proofs.Common.{ℕ, ◌==◌, Bool, true, false, if◌then◌else◌, List, sym, ◌∙◌}
use Rattle.std.proofs.lemmas.Bool.{false≢true}
use Rattle.cany_base.specs.declared.class.Class.{Class}
use Rattle.cany_base.specs.declared.message.Service.{Service}
use Rattle.cany_base.specs.declared.notice.NoticeKind.{NoticeKind}
use Rattle.cany_base.specs.Nodes.{Nodes, AllBelow, nobody}
use Rattle.cany_base.specs.Scenario.{ScenarioParts, IsLegalScenario}
use Rattle.cany_base.proofs.NodesFacts.{has_none}
use Rattle.cany_diffuse.specs.Eager.{EagerParts}
use Rattle.cany_message.specs.Table.{IsTableOf}
use Rattle.cany_model.specs.Bus.State.{Incarnation}
use Rattle.cany_model.specs.Rules.Turn.{scenario_for}

members_for : (bound : ℕ) (b : Bool) (members : Nodes) → AllBelow bound members → AllBelow bound (if b then members else nobody)
members_for bound true members h = h
members_for bound false members h = λ node is. absurd (false≢true (sym (has_none node) ∙ is))

pub legal_for : (scenario : ScenarioParts) (inc : Incarnation) → IsLegalScenario scenario → IsLegalScenario (scenario_for scenario inc)
legal_for scenario inc h = record {
  in_range = h.in_range;
  formulas = h.formulas;
  members = members_for scenario.params.nodes (inc.number == 0) scenario.members h.members;
  sends = h.sends;
  rules = h.rules;
  joins = h.joins;
  leaves = h.leaves;
  restarts = h.restarts;
  few_sends = h.few_sends;
  few_rules = h.few_rules;
  few_joins = h.few_joins;
  few_leaves = h.few_leaves;
  few_restarts = h.few_restarts;
  few_of_node = h.few_of_node;
  places = h.places;
}

pub table_for : (scenario : ScenarioParts) (inc : Incarnation) (by : Service) (class : Class) (notes : ℕ → Bool) (past : List NoticeKind) (table : EagerParts)
    → IsTableOf scenario by class notes past table → IsTableOf (scenario_for scenario inc) by class notes past table
table_for scenario inc by class notes past table h =
    record { omit = h.omit; room = h.room; copies = h.copies; owned = h.owned; there = h.there; messages = h.messages }
