-- The actions of a vector that becomes the view.
use Rattle.std.proofs.Common.{◌≡◌, ℕ, ◌==◌, inl, inr, List, [], ◌∷◌, ◌++◌, filter, map, Some, refl, ap, sym, ◌∙◌}
use Rattle.std.proofs.lemmas.Bool.{cases_Bool}
use Rattle.cany_base.specs.declared.actions.Action.{Action}
use Rattle.cany_base.specs.declared.actions.Action.TheVariants as action
use Rattle.cany_base.specs.declared.class.Class.{Class}
use Rattle.cany_base.specs.declared.class.Class.TheVariants as class
use Rattle.cany_base.specs.declared.format.Format.{Format}
use Rattle.cany_base.specs.declared.log_entry.LogEntry.TheVariants.{View}
use Rattle.cany_base.specs.declared.message.NodeAsk.{NodeAsk}
use Rattle.cany_base.specs.Nodes.{Nodes, has}
use Rattle.cany_base.specs.Params.{Parameters}
use Rattle.cany_base.specs.Scenario.{ScenarioParts}
use Rattle.cany_model.specs.Rules.Actions.{actions_of, ident_of}
use Rattle.cany_model.specs.Rules.Effect.{Withdraw}
use Rattle.cany_model.specs.Rules.Knowledge.{Knowledge}
use Rattle.cany_base.specs.Cycles.{cycle_of}
use Rattle.cany_model.specs.Rules.Views.{ask_of, view_effects, withdrawn_asks}
use Rattle.cany_views.specs.Views.{IsViewsOf, ViewsParts, asked_cycles}
use Rattle.cany_views.specs.ViewsSteps.{installed, installed_actions, withdrawals}

-- the withdrawals of a node's asks name the cycles of these
module _ (format : Format) (class : Class) (p : Parameters) (i : ℕ) where
  each_withdrawn : (asks : List NodeAsk) → actions_of format (map (λ ask. Withdraw (ask_of class (cycle_of p ask.slot) i)) asks)
      ≡ withdrawals format class i (map (λ ask. cycle_of p ask.slot) asks)
  each_withdrawn [] = refl
  each_withdrawn (ask ∷ asks) =
      ap (λ rest. action.Withdraw (ident_of format (ask_of class (cycle_of p ask.slot) i)) ∷ rest) (each_withdrawn asks)

  withdrawn_are : (asks : List NodeAsk)
      → withdrawals format class i (asked_cycles p i asks) ≡ actions_of format (withdrawn_asks class p i asks)
  withdrawn_are asks = sym (each_withdrawn (filter (λ ask. ask.node == i) asks))

-- ---- a vector becomes the view

module _ (scenario : ScenarioParts) (i slot : ℕ) (vector : Nodes) (v : ViewsParts) where
  -- the value, with what the scenario tells of node i
  abbrev as_told : ViewsParts
  as_told = record v {
    node = i;
    params = scenario.params;
    joins = asked_cycles scenario.params i scenario.joins;
    leaves = asked_cycles scenario.params i scenario.leaves;
  }

  told_acts : installed_actions slot (cycle_of scenario.params slot) vector as_told
      ≡ actions_of scenario.params.format (view_effects scenario.params scenario.joins scenario.leaves i slot (Some vector))
  unfolding view_effects
  told_acts = elim (cases_Bool (has vector i)) [
    | inl inside ↦
        rw inside
        (ap (λ actions. action.Enter (View slot (cycle_of scenario.params slot) vector) ∷ actions)
        (withdrawn_are scenario.params.format class.Join scenario.params i scenario.joins))
    | inr outside ↦ rw outside (withdrawn_are scenario.params.format class.Leave scenario.params i scenario.leaves)
  ]

  module _ (knowledge : Knowledge) (h : IsViewsOf scenario i knowledge v) where
    is_told : installed_actions slot (cycle_of v.params slot) vector v ≡ installed_actions slot (cycle_of scenario.params slot) vector as_told
    is_told =
        let told = h.limits in
        λ k. installed_actions slot (cycle_of (told.are_params k) slot) vector
        (record v { node = told.is_node k; params = told.are_params k; joins = told.are_joins k; leaves = told.are_leaves k })

    pub view_acts : (start end : List Action)
        → end ≡ start ++ installed_actions slot (cycle_of v.params slot) vector (installed vector v)
        → end ≡ start
        ++ actions_of scenario.params.format (view_effects scenario.params scenario.joins scenario.leaves i slot (Some vector))
    view_acts start end acts = acts ∙ ap (λ actions. start ++ actions) (is_told ∙ told_acts)
