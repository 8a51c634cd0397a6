-- What waits at a running node was asked for in one of the turns of its present incarnation.
use Rattle.std.proofs.Common.{◌≡◌, ℕ, suc, true, List, ◌∷◌, drop, sym, subst}
use Rattle.std.specs.List.{AllByRecursion}
use Rattle.cany_base.specs.declared.notice.NoticeKind.{NoticeKind}
use Rattle.cany_base.specs.declared.slot_note.SlotNote.{SlotNote}
use Rattle.cany_base.specs.declared.step.Step.{Step}
use Rattle.cany_base.specs.Frame.{FrameParts}
use Rattle.cany_base.specs.Scenario.{ScenarioParts}
use Rattle.cany_model.specs.Bus.History.{given, history}
use Rattle.cany_model.specs.Bus.State.{NodeState, RunState, node_at, runs}
use Rattle.cany_model.specs.Rules.Turn.{scenario_at, scenario_for, turn_effects}
use Rattle.cany_model.specs.Runs.Run.{run}
use Rattle.cany_model.proofs.Among.{Each-weaker}
use Rattle.cany_model.proofs.Bus.Seen.{history-is}
use Rattle.cany_model.proofs.Promises.Diffusion.{past_of}
use Rattle.cany_model.proofs.Promises.EachNode.{IsNodes, each_running}
use Rattle.cany_model.proofs.Rules.ProtocolFacts.{MayAsk}
use Rattle.cany_model.proofs.Rules.TurnFacts.{turn_only}
use Rattle.cany_model.proofs.Rules.Waits.{Each-after}
use Rattle.cany_model.proofs.Runs.Steps.{Each-kept}

-- the frame was asked for in a turn, the last of those without so many of the newest
pub record WasAsked (scenario : ScenarioParts) (i : ℕ) (past : List NoticeKind) (f : FrameParts) : Type 0 where
  pub place : ℕ
  pub may : MayAsk scenario i (drop place past) f

asked_later : (scenario : ScenarioParts) (i : ℕ) (e : NoticeKind) (past : List NoticeKind) (f : FrameParts) → WasAsked scenario i past f
    → WasAsked scenario i (e ∷ past) f
asked_later scenario i e past f h = record { place = suc h.place; may = h.may }

abbrev AllAsked : ScenarioParts → List SlotNote → ℕ → NodeState → Type 0
AllAsked scenario trace i node = AllByRecursion (WasAsked (scenario_for scenario node.present) i (past_of i trace node)) node.waiting

asked_nodes : (scenario : ScenarioParts) → IsNodes scenario (AllAsked scenario)
asked_nodes scenario = record {
  new = λ trace i node new. rw new.waiting tt;
  slot = λ note trace i node after same l h.
      let asked : FrameParts → Type 0 = WasAsked (scenario_for scenario node.present) i (past_of i trace node) in
      rw (same, l.kept, l.past) (Each-kept asked (given i note) node.waiting h);
  turn = λ trace i node after same t h.
      let sc : ScenarioParts = scenario_for scenario node.present in
      let past : List NoticeKind = past_of i trace after in
      let old : AllByRecursion (WasAsked sc i past) node.waiting =
      subst (λ p. AllByRecursion (WasAsked sc i p) node.waiting) (sym t.past)
      (Each-weaker (WasAsked sc i (past_of i trace node)) (WasAsked sc i (t.notice ∷ past_of i trace node))
      (asked_later sc i t.notice (past_of i trace node)) node.waiting h) in
      rw (same, t.waiting)
      (Each-after (WasAsked sc i past) (turn_effects sc i past) node.waiting
      (turn_only (WasAsked sc i past) sc i past (λ f may. record { place = 0; may = may })) old);
}

pub waits_asked : (scenario : ScenarioParts) (journal : List Step) (i : ℕ) → runs (node_at (run scenario journal).nodes i) ≡ true
    → AllByRecursion (WasAsked (scenario_at scenario (run scenario journal) i) i (history i (run scenario journal)))
    (node_at (run scenario journal).nodes i).waiting
waits_asked scenario journal i running =
    let s : RunState = run scenario journal in
    subst (λ past. AllByRecursion (WasAsked (scenario_at scenario s i) i past) (node_at s.nodes i).waiting) (sym (history-is i s))
    (each_running scenario (AllAsked scenario) (asked_nodes scenario) journal i running)
