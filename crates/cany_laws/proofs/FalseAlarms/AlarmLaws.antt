-- No log tells that a node has failed of which no incarnation stopped long before; and one that
-- runs in its first incarnation is taken for failed nowhere.
use Rattle.std.proofs.Common.{◌≡◌, ℕ, suc, ◌+◌, ◌-◌, ◌<◌, ◌≤◌, inl, inr, true, List, [], ◌∷◌, length, drop, Some, refl, ap, sym, ◌∙◌, subst, arith, length-drop}
use Rattle.std.specs.Prelude.{Contains, is_none}
use Rattle.std.proofs.lemmas.Bool.{both_ways}
use Rattle.cany_base.proofs.ParamsFacts.{few_nodes}
use Rattle.cany_base.specs.declared.log_entry.LogEntry.{LogEntry}
use Rattle.cany_base.specs.declared.log_entry.LogEntry.TheVariants.{Failed}
use Rattle.cany_base.specs.declared.step.Step.{Step}
use Rattle.cany_base.specs.Scenario.{IsLegalScenario, ScenarioParts}
use Rattle.cany_model.specs.Bus.Restart.{after_restarts}
use Rattle.cany_model.specs.Bus.Slot.{after_slot, script}
use Rattle.cany_model.specs.Bus.State.{EndedIncarnation, Incarnation, NodeState, RunState, node_at, opening, runs}
use Rattle.cany_model.specs.Promises.Hypothesis.{IsWithin}
use Rattle.cany_model.specs.Promises.Settled.{IsCorrect}
use Rattle.cany_model.specs.Rules.Knowledge.{knows}
use Rattle.cany_model.specs.Rules.KnowledgeOf.{knowledge_of}
use Rattle.cany_model.specs.Runs.Run.{run}
use Rattle.cany_model.proofs.Among.{Among-from_Contains, Contains-one}
use Rattle.cany_model.proofs.Bus.Restarts.{restarts_or_stays}
use Rattle.cany_model.proofs.Bus.States.{node_at-opening}
use Rattle.cany_model.proofs.Rules.LogFacts.{log_split, made_by}
use Rattle.cany_model.proofs.Rules.ProtocolFacts.{IsFoundedEntry, IsSignal}
use Rattle.cany_model.proofs.Runs.Journals.{run_none}
use Rattle.cany_model.proofs.Runs.Runs.{orderly}
use Rattle.cany_model.proofs.Runs.Steps.{after_slot-present, after_turn-present}
use Rattle.cany_laws.specs.Alarms.{IsTakenForFailedNowhere, RaisesNoFalseAlarm}
use Rattle.cany_laws.specs.Logs.{IsIncarnation, followed_by, log_as, past_of, present_of}
use Rattle.cany_laws.proofs.FalseAlarms.AlarmSigns.{unsigned_or_stopped}
use Rattle.cany_laws.proofs.Members.EachView.{past_length}
use Rattle.cany_laws.proofs.Members.EqualMembers.{first_read}
use Rattle.cany_laws.proofs.KeptAlongJournal.{after_slot-ended, after_turn-ended, kept_always}
use Rattle.cany_laws.proofs.Logs.IntegralLogs.{sent_as}
use Rattle.cany_laws.proofs.Silences.Lives.{lived}

-- ---- an entry of a log

-- it was made when so many slots had been read, and its sign is known since
record WasEntered (scenario : ScenarioParts) (journal : List Step) (i : ℕ) (e : EndedIncarnation) (u r cycle : ℕ) : Type 0 where
  read : suc u ≤ e.next
  known : knows (record { node = r; cycle = cycle }) (knowledge_of (followed_by scenario e) i (first_read (suc u) (run scenario journal) i e)) ≡ true

was_entered : (scenario : ScenarioParts) (journal : List Step) (i : ℕ) (e : EndedIncarnation) → IsIncarnation scenario (run scenario journal) i e
    → (u r cycle : ℕ)
    → Contains (log_as scenario (run scenario journal) i e) (Failed u r cycle) → WasEntered scenario journal i e u r cycle
was_entered scenario journal i e is u r cycle c =
    let s : RunState = run scenario journal in
    let entry : LogEntry = Failed u r cycle in
    let sc : ScenarioParts = followed_by scenario e in
    let past = past_of s i e in
    let size : length past ≡ e.next = past_length scenario journal i e (lived scenario journal i e is) in
    let split = log_split (λ y. y ≡ entry) sc i past (Among-from_Contains (log_as scenario s i e) entry c) in
    let made = made_by (λ y. y ≡ entry) sc split.0 split.1 i past split.2 in
    let signal : IsSignal sc i (drop made.place past) u (record { node = r; cycle = cycle }) =
    subst (IsFoundedEntry sc split.0 i (drop made.place past)) made.is made.founded in
    let now : length (drop made.place past) ≡ suc u = signal.now in
    let left : e.next - suc u ≡ made.place = omega (arith, now, length-drop made.place past, size, made.below) in
    record {
      read = omega (arith, now, length-drop made.place past, size, made.below);
      known = ap (λ n. knows (record { node = r; cycle = cycle }) (knowledge_of sc i (drop n past))) left ∙ signal.known;
    }

pub no_false_alarm : (scenario : ScenarioParts) → IsLegalScenario scenario → (journal : List Step) → IsWithin scenario.params (run scenario journal).trace
    → RaisesNoFalseAlarm scenario (run scenario journal)
no_false_alarm scenario legal journal within i e is u r cycle c =
    let s : RunState = run scenario journal in
    let there = (sent_as scenario journal (few_nodes scenario.params legal.in_range) i e is (Failed u r cycle) c).0 in
    let w = was_entered scenario journal i e is u r cycle c in
    elim (unsigned_or_stopped scenario legal journal within r there (suc u) i e is w.read) [
      | inl unsigned ↦
          absurd (both_ways (knows (record { node = r; cycle = cycle }) (knowledge_of (followed_by scenario e) i (first_read (suc u) s i e)))
          (unsigned.unknown (record { node = r; cycle = cycle }) refl) w.known)
      | inr h ↦ record { which = h.which; is = h.is; slot = h.slot; stopped = h.stopped; long = omega (arith, h.long) }
    ]

-- ---- a node that never started again

-- has no incarnation that ended
module _ (scenario : ScenarioParts) (r : ℕ) (there : r < scenario.params.nodes) where
  abbrev EndsNone : RunState → Type 0
  EndsNone s = (node_at s.nodes r).present.number ≡ 0 → (node_at s.nodes r).ended ≡ []

  pub none_ended : (journal : List Step) → EndsNone (run scenario journal)
  none_ended = kept_always scenario EndsNone (record {
    slot = λ journal may h. through_slot journal h;
    turn = λ journal j may h first.
        let short : (node_at (run scenario journal).nodes j).unread ≤ length (run scenario journal).trace = (orderly scenario journal).unread j in
        after_turn-ended scenario j (run scenario journal) r may short
        ∙ h (ap (λ (n : Incarnation). n.number) (sym (after_turn-present scenario j (run scenario journal) r may short)) ∙ first);
  }) (λ first. ap (λ (n : NodeState). n.ended) (node_at-opening scenario.params.nodes r there))
    where
      through_slot : (journal : List Step) → EndsNone (run scenario journal)
          → EndsNone (after_restarts scenario (after_slot (script scenario.rules) (run scenario journal)))
      through_slot journal h first =
          let s : RunState = run scenario journal in
          let slot : RunState = after_slot (script scenario.rules) s in
          let o = orderly scenario journal in
          let below : r < length s.nodes = omega (arith, there, o.count) in
          elim (restarts_or_stays scenario slot r) [
            | inl new ↦ absurd (omega (arith, first, ap (λ (n : NodeState). n.present.number) new.is))
            | inr same ↦
                ap (λ (n : NodeState). n.ended) same ∙ after_slot-ended (script scenario.rules) s r below
                ∙ h (ap (λ (n : Incarnation). n.number) (sym (after_slot-present (script scenario.rules) s r below))
                ∙ ap (λ (n : NodeState). n.present.number) (sym same) ∙ first)
          ]

-- so one that runs in it has not stopped
pub never_stopped : (scenario : ScenarioParts) (journal : List Step) (r : ℕ) → IsCorrect scenario (run scenario journal) r
    → (node_at (run scenario journal).nodes r).present.number ≡ 0 → (f : EndedIncarnation) → IsIncarnation scenario (run scenario journal) r f
    → (t : ℕ) → f.stopped ≡ Some t → ⊥
never_stopped scenario journal r correct first f is t stopped =
    let s : RunState = run scenario journal in
    let alone : present_of s r ≡ f =
    Contains-one (present_of s r) f (subst (λ ended. Contains (present_of s r ∷ ended) f) (none_ended scenario r correct.there journal first) is.stands) in
    both_ways (runs (node_at s.nodes r)) (ap is_none (ap (λ (e : EndedIncarnation). e.stopped) alone ∙ stopped)) correct.running

pub taken_for_failed_nowhere : (scenario : ScenarioParts) → IsLegalScenario scenario → (journal : List Step)
    → IsWithin scenario.params (run scenario journal).trace
    → (r : ℕ) → IsCorrect scenario (run scenario journal) r → (node_at (run scenario journal).nodes r).present.number ≡ 0
    → IsTakenForFailedNowhere scenario (run scenario journal) r
taken_for_failed_nowhere scenario legal journal within r correct first = record {
  counted = λ i e is t read.
      let s : RunState = run scenario journal in
      elim (unsigned_or_stopped scenario legal journal within r correct.there (t + 1) i e is (omega (arith, read))) [
        | inl unsigned ↦ unsigned.failed
        | inr h ↦ absurd (never_stopped scenario journal r correct first h.which h.is h.slot h.stopped)
      ];
  told = λ i e is u cycle c.
      let h = no_false_alarm scenario legal journal within i e is u r cycle c in
      never_stopped scenario journal r correct first h.which h.is h.slot h.stopped;
}
