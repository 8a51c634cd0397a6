-- In a scenario without restart entries each node is the incarnation of the opening: it sees the
-- whole trace, and follows the scenario itself.
use Rattle.std.proofs.Common.{◌≡◌, ℕ, ◌+◌, ◌-◌, ◌≤◌, ◌&&◌, inl, inr, Bool, true, false, not, if◌then◌else◌, List, [], ◌∷◌, length, map, drop, refl, ap, sym, ◌∙◌, subst, arith}
use Rattle.std.proofs.lemmas.Bool.{cases_lt, false≢true}
use Rattle.std.proofs.lemmas.List.{length-replicate}
use Rattle.cany_base.specs.declared.message.NodeAsk.{NodeAsk}
use Rattle.cany_base.specs.declared.slot_note.SlotNote.{SlotNote}
use Rattle.cany_base.specs.declared.step.Step.{Step}
use Rattle.cany_base.specs.Scenario.{ScenarioParts}
use Rattle.cany_model.specs.Bus.History.{given, history, seen, history_but}
use Rattle.cany_model.specs.Bus.Restart.{after_entries, after_restarts, names_restart, nodes_after_entries, restarted}
use Rattle.cany_model.specs.Runs.Run.{run}
use Rattle.cany_model.specs.Bus.Slot.{FaultScript, after_slot, script}
use Rattle.cany_model.specs.Bus.State.{Incarnation, NodeState, RunState, fresh, node_at, opening, original, runs, slots_run}
use Rattle.cany_model.specs.Promises.OneView.{installed, installed_of}
use Rattle.cany_model.specs.Rules.Turn.{scenario_at}
use Rattle.cany_model.proofs.Bus.Restarts.{Restarts}
use Rattle.cany_model.proofs.Runs.Runs.{along_run}
use Rattle.cany_model.proofs.Bus.Seen.{history-is, seen_original, trace_for-is}
use Rattle.cany_model.proofs.Bus.States.{node_at-opening, node_at_past}
use Rattle.cany_model.proofs.Runs.Steps.{after_slot-length, after_slot-present, after_turn-present}
use Rattle.cany_model.proofs.Promises.Diffusion.{past_of}
use Rattle.cany_model.proofs.Rules.IncarnationFacts.{scenario_for-original}

-- ---- no node starts again

none_named : (restarts : List NodeAsk) (slot i : ℕ) → restarts ≡ [] → names_restart restarts slot i ≡ false
unfolding names_restart
none_named restarts slot i none = rw none refl

pub no_restart : (scenario : ScenarioParts) → scenario.restarts ≡ [] → (s : RunState) (i : ℕ) → Restarts scenario s i → ⊥
no_restart scenario none s i new = false≢true (sym (none_named scenario.restarts (slots_run s - 1) i none) ∙ new.named)

same_nodes : (scenario : ScenarioParts) → scenario.restarts ≡ [] → (slot i : ℕ) (nodes : List NodeState)
    → nodes_after_entries scenario slot i nodes ≡ nodes
unfolding nodes_after_entries after_entries
same_nodes scenario none slot i [] = refl
same_nodes scenario none slot i (node ∷ nodes) =
    rw (none_named scenario.restarts slot i none, same_nodes scenario none slot (i + 1) nodes) (either (runs node))
  where
    either : (b : Bool) → ((if not b && false then restarted scenario.params slot node else node) ∷ nodes) ≡ node ∷ nodes
    either true = refl
    either false = refl

-- so the end of a slot changes nothing
pub restarts_none : (scenario : ScenarioParts) → scenario.restarts ≡ [] → (s : RunState) → after_restarts scenario s ≡ s
unfolding after_restarts
restarts_none scenario none s = ap (λ nodes. record s { nodes = nodes }) (same_nodes scenario none (slots_run s - 1) 0 s.nodes)

-- ---- each node is the incarnation of the opening

abbrev pub AllOriginal : RunState → Type 0
AllOriginal s = (i : ℕ) → (node_at s.nodes i).present ≡ original

original_opening : (nodes : ℕ) → AllOriginal (opening nodes)
original_opening nodes i = elim (cases_lt i nodes) [
  | inl below ↦ ap (λ (node : NodeState). node.present) (node_at-opening nodes i below)
  | inr past ↦
      ap (λ (node : NodeState). node.present)
      (node_at_past (opening nodes).nodes i (subst (λ n. n ≤ i) (sym (length-replicate nodes fresh)) past))
]

original_slot : (rules : FaultScript) (s : RunState) → AllOriginal s → AllOriginal (after_slot rules s)
original_slot rules s all i = elim (cases_lt i (length s.nodes)) [
  | inl below ↦ after_slot-present rules s i below ∙ all i
  | inr past ↦ ap (λ (node : NodeState). node.present) (node_at_past (after_slot rules s).nodes i (omega (arith, past, after_slot-length rules s)))
]

pub all_original : (scenario : ScenarioParts) → scenario.restarts ≡ [] → (journal : List Step) → AllOriginal (run scenario journal)
all_original scenario none journal =
    along_run scenario AllOriginal (original_opening scenario.params.nodes) (record {
      slot = λ s o may all. original_slot (script scenario.rules) s all;
      restarts = λ s o some all. subst AllOriginal (sym (restarts_none scenario none s)) all;
      turn = λ s i o may all j. after_turn-present scenario i s j may (o.unread i) ∙ all j;
    }) journal

-- ---- what follows for it

module _ (scenario : ScenarioParts) (s : RunState) (all : AllOriginal s) (i : ℕ) where
  number_original : (node_at s.nodes i).present.number ≡ 0
  number_original = ap (λ (inc : Incarnation). inc.number) (all i)

  -- it takes part since the first slot
  pub from_original : (node_at s.nodes i).present.from ≡ 0
  from_original = ap (λ (inc : Incarnation). inc.from) (all i)

  -- it sees the whole trace
  pub sees_all : (trace : List SlotNote) → seen (node_at s.nodes i).present trace ≡ trace
  sees_all trace = seen_original (node_at s.nodes i).present trace number_original

  -- and follows the scenario
  pub follows : scenario_at scenario s i ≡ scenario
  follows = scenario_for-original scenario (node_at s.nodes i).present number_original

  pub history_all : history i s ≡ past_of i s.trace (node_at s.nodes i)
  history_all = history-is i s ∙ ap (λ trace. past_of i trace (node_at s.nodes i)) (sees_all s.trace)

  pub history_but_all : (newest : ℕ) → history_but newest i s ≡ map (given i) (drop newest s.trace)
  unfolding history_but
  history_but_all newest =
      ap (λ trace. map (given i) (drop newest trace)) (trace_for-is (node_at s.nodes i).present s.trace ∙ sees_all s.trace)

  pub installed_all : (k : ℕ) → installed scenario s i k ≡ installed_of scenario i k (past_of i s.trace (node_at s.nodes i))
  installed_all k =
      ap (λ (sc : ScenarioParts). installed_of sc i k (history i s)) follows ∙ ap (installed_of scenario i k) history_all
