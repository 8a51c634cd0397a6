-- The slots of which the script says nothing.
use Rattle.std.proofs.Common.{◌≡◌, ℕ, ◌+◌, ◌<◌, ◌≤◌, ◌==◌, Bool, true, false, List, [], ◌∷◌, refl, ap, sym, ◌∙◌, subst, inl, inr, arith}
use Rattle.std.specs.Prelude.{is_some, not, Option, Some, None}
use Rattle.std.specs.List.{list_any}
use Rattle.std.proofs.lemmas.Bool.{cases_Bool, cases_eq, true≢false}
use Rattle.cany_base.specs.declared.message.NodeAsk.{NodeAsk}
use Rattle.cany_base.specs.declared.rule.Rule.{Rule}
use Rattle.cany_base.specs.Scenario.{ScenarioParts}
use Rattle.cany_model.specs.Bus.Restart.{names_restart}
use Rattle.cany_model.specs.Bus.Slot.{slot_rule}
use Rattle.cany_world.specs.Resting.{IsFree}

none_named : (restarts : List NodeAsk) (slot i : ℕ) → list_any (λ ask. ask.slot == slot) restarts ≡ false → names_restart restarts slot i ≡ false
unfolding names_restart
none_named [] slot i e = refl
none_named (ask ∷ restarts) slot i e = elim (cases_Bool (ask.slot == slot)) [
  | inl here ↦ absurd (true≢false (sym (rw here refl) ∙ e))
  | inr other ↦
      let rest : list_any (λ x. x.slot == slot) restarts ≡ false = rw other at e in
      rw other (none_named restarts slot i rest)
]

no_rule : (rule : Option Rule) → is_some rule ≡ false → rule ≡ None
no_rule None e = refl
no_rule (Some rule) e = absurd (true≢false e)

is_false : (b : Bool) → not b ≡ true → b ≡ false
is_false true e = absurd (true≢false (sym e))
is_false false e = refl

pub free_by : (scenario : ScenarioParts) (rules : List Rule) (restarts : List NodeAsk) (slot : ℕ) (ruled named : Bool) → rules ≡ scenario.rules → restarts ≡ scenario.restarts
    → ruled ≡ is_some (slot_rule rules slot) → named ≡ list_any (λ ask. ask.slot == slot) restarts → ruled ≡ false → not named ≡ true → IsFree scenario slot
free_by scenario rules restarts slot ruled named same also is_ruled is_named unruled unnamed = record {
  rules = no_rule (slot_rule scenario.rules slot) (sym (ap (λ (r : List Rule). is_some (slot_rule r slot)) same) ∙ sym is_ruled ∙ unruled);
  restarts = λ i. subst (λ (r : List NodeAsk). names_restart r slot i ≡ false) also (none_named restarts slot i (sym is_named ∙ is_false named unnamed));
}

-- the slots so far are free
abbrev pub AreFree : List Rule → List NodeAsk → ℕ → ℕ → Type 0
AreFree rules restarts next slots =
    (scenario : ScenarioParts) → rules ≡ scenario.rules → restarts ≡ scenario.restarts → (slot : ℕ) → next ≤ slot → slot < next + slots → IsFree scenario slot

pub one_more_free : (rules : List Rule) (restarts : List NodeAsk) (next slots : ℕ) → AreFree rules restarts next slots
    → ((scenario : ScenarioParts) → rules ≡ scenario.rules → restarts ≡ scenario.restarts → IsFree scenario (next + slots))
    → AreFree rules restarts next (slots + 1)
one_more_free rules restarts next slots so here scenario same also slot from below = elim (cases_eq slot (next + slots)) [
  | inl last ↦ subst (IsFree scenario) (sym last) (here scenario same also)
  | inr other ↦ so scenario same also slot from (omega arith)
]

-- without a rule and a restart entry every slot is free
pub all_free : (rules : List Rule) (restarts : List NodeAsk) (next slots : ℕ) → rules ≡ [] → restarts ≡ [] → AreFree rules restarts next slots
unfolding names_restart
all_free rules restarts next slots no_rules no_restarts scenario same also slot from below = record {
  rules = ap (λ (r : List Rule). slot_rule r slot) (sym same ∙ no_rules);
  restarts = λ i. ap (λ (r : List NodeAsk). names_restart r slot i) (sym also ∙ no_restarts);
}
