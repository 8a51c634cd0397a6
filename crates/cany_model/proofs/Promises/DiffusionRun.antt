-- Eager diffusion along a run: what `Diffusion` says of each running node, by what its incarnation
-- sees, at every verdict rule.
use Rattle.std.proofs.Common.{◌≡◌, ℕ, inl, inr, true, List, [], ◌∷◌, None, Some, subst, sym}
use Rattle.std.specs.List.{AllByRecursion}
use Rattle.std.proofs.lemmas.Bool.{false≢true}
use Rattle.cany_base.specs.declared.notice.NoticeKind.{NoticeKind}
use Rattle.cany_base.specs.declared.slot_note.SlotNote.{SlotNote}
use Rattle.cany_base.specs.declared.step.Step.{Step}
use Rattle.cany_base.specs.Frame.{FrameParts}
use Rattle.cany_base.specs.Scenario.{ScenarioParts}
use Rattle.cany_model.specs.Bus.Frames.{Identity}
use Rattle.cany_model.specs.Runs.Run.{run}
use Rattle.cany_model.specs.Bus.State.{Incarnation, NodeState}
use Rattle.cany_model.specs.Bus.Waiting.{waits}
use Rattle.cany_model.specs.Rules.Effect.{Effect}
use Rattle.cany_model.specs.Rules.Turn.{scenario_for, turn_effects}
use Rattle.cany_model.proofs.Among.{Among, Each-weaker}
use Rattle.cany_model.proofs.Bus.Carried.{SentBy}
use Rattle.cany_model.proofs.Promises.Diffusion.{Diffuses, Duty, Heard, IsDiffused, past_of, slot_diffuses, turn_diffuses}
use Rattle.cany_model.proofs.Promises.EachNode.{EachRunning, IsNew, blank_heard, each_running}
use Rattle.cany_model.proofs.Rules.IdleBeforeTakingPart.{IsBegun}

-- what a node does for the frame, where the duty is by the scenario that its incarnation follows
abbrev pub NodeDiffuses : ScenarioParts → ℕ → Identity → (ScenarioParts → Duty) → List SlotNote → ℕ → NodeState → Type 0
NodeDiffuses scenario omit x duty trace i node = Diffuses omit x (duty (scenario_for scenario node.present)) trace i node

blank_all : (i : ℕ) (trace : List SlotNote) → AllByRecursion (λ note. note.frame ≡ None) trace → AllByRecursion (Heard i) trace
blank_all i trace h = Each-weaker (λ note. note.frame ≡ None) (Heard i) (λ note none. blank_heard i note none) trace h

never_sent : (i : ℕ) (x : Identity) (trace : List SlotNote) → AllByRecursion (λ note. note.frame ≡ None) trace → Among (SentBy i x) trace → ⊥
never_sent i x [] h a = a
never_sent i x (note ∷ trace) h (inl sent) = none note h.0 sent.carries.what sent.carries.frame
  where
    none : (n : SlotNote) → n.frame ≡ None → (f : FrameParts) → n.frame ≡ Some f → ⊥
    none n a f b = cc
never_sent i x (note ∷ trace) h (inr a) = never_sent i x trace h.1 a

-- a node that has only begun owes nothing, and has sent nothing
begun_diffuses : (turn : ℕ → List NoticeKind → List Effect) (omit : ℕ) (x : Identity) (duty : Duty) → IsDiffused turn omit x duty
    → (scenario : ScenarioParts) (trace : List SlotNote) (i : ℕ) (node : NodeState) → IsNew scenario trace i node → duty.begins (past_of i trace node)
    → Diffuses omit x duty trace i node
begun_diffuses turn omit x duty rule scenario trace i node new begun = record {
  kept = λ owes. absurd (rule.at_first i (past_of i trace node) begun owes);
  caused = λ k. elim k [
    | inl waiting ↦ absurd (false≢true (subst (λ w. waits x w ≡ true) new.waiting waiting))
    | inr sent ↦ absurd (never_sent i x trace new.blank sent)
  ];
  heard = blank_all i trace new.blank;
}

-- what the rules diffuse, every running node of a run diffuses
pub run_diffuses : (scenario : ScenarioParts) (omit : ℕ) (x : Identity) (duty : ScenarioParts → Duty)
    → ((inc : Incarnation) → IsDiffused (turn_effects (scenario_for scenario inc)) omit x (duty (scenario_for scenario inc)))
    → ((inc : Incarnation) (past : List NoticeKind) → IsBegun (scenario_for scenario inc) past → (duty (scenario_for scenario inc)).begins past)
    → (journal : List Step) → EachRunning (NodeDiffuses scenario omit x duty) (run scenario journal)
run_diffuses scenario omit x duty rule begun journal =
    each_running scenario (NodeDiffuses scenario omit x duty) (record {
      new = λ trace i node new.
          begun_diffuses (turn_effects (scenario_for scenario node.present)) omit x (duty (scenario_for scenario node.present)) (rule node.present)
          scenario trace i node new (begun node.present (past_of i trace node) new.past);
      slot = λ note trace i node after same l h. subst (λ (inc : Incarnation). Diffuses omit x (duty (scenario_for scenario inc)) (note ∷ trace) i after) (sym same)
          (slot_diffuses omit x (duty (scenario_for scenario node.present)) note trace i node after l h);
      turn = λ trace i node after same t h. subst (λ (inc : Incarnation). Diffuses omit x (duty (scenario_for scenario inc)) trace i after) (sym same)
          (turn_diffuses (turn_effects (scenario_for scenario node.present)) omit x (duty (scenario_for scenario node.present)) (rule node.present) trace i node after t h);
    })
    journal
