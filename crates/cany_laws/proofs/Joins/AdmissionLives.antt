-- An incarnation that runs after a front of the journal is one of the whole run, which has read no
-- less, and the same of the slots that it had read by then.
use Rattle.std.proofs.Common.{◌≡◌, ℕ, ◌+◌, ◌-◌, ◌<◌, ◌≤◌, inl, inr, List, [], ◌∷◌, ◌++◌, length, map, drop, refl, ap, sym, ◌∙◌, subst, arith, drop-drop, length-append}
use Rattle.std.proofs.Math.Seq.{drop-append_seam}
use Rattle.std.proofs.lemmas.Bool.{cases_eq}
use Rattle.cany_base.specs.declared.slot_note.SlotNote.{SlotNote}
use Rattle.cany_base.specs.declared.step.Step.{Step}
use Rattle.cany_base.specs.Scenario.{ScenarioParts}
use Rattle.cany_model.specs.Bus.History.{ended_history, given, history, seen}
use Rattle.cany_model.specs.Bus.Restart.{after_restarts}
use Rattle.cany_model.specs.Bus.Slot.{FaultScript, after_slot, script}
use Rattle.cany_model.specs.Bus.State.{EndedIncarnation, Incarnation, NodeState, RunState, node_at, reads}
use Rattle.cany_model.specs.Runs.Incarnations.{incarnations}
use Rattle.cany_model.specs.Runs.Run.{after_turn, run}
use Rattle.cany_model.proofs.Among.{Among, Among-which}
use Rattle.cany_model.proofs.Bus.Restarts.{after_restarts-trace, restarts_or_stays}
use Rattle.cany_model.proofs.Bus.Seen.{drop_seen, history-is}
use Rattle.cany_model.proofs.Runs.Journals.{reads_other, reads_slot, reads_turn}
use Rattle.cany_model.proofs.Runs.Runs.{orderly}
use Rattle.cany_model.proofs.Runs.Steps.{MayTurn, after_slot-present, after_slot-trace, after_turn-present}
use Rattle.cany_laws.specs.Logs.{IsIncarnation}
use Rattle.cany_laws.proofs.Members.EqualMembers.{first_read}
use Rattle.cany_laws.proofs.KeptAlongJournal.{after_slot-ended, after_turn-ended, drop-map, IsKeptOn, kept_on}
use Rattle.cany_laws.proofs.Silences.Lives.{lived}
use Rattle.cany_model.proofs.Timed.Views.StartViews.{front_split}

-- one of the node's incarnations is this one, and has read as many slots at least
abbrev GoesOn : ℕ → Incarnation → ℕ → RunState → Type 0
GoesOn i inc n s = Among (λ (e : EndedIncarnation). (e.incarnation ≡ inc) × (n ≤ e.next)) (incarnations s i)

goes_on : (scenario : ScenarioParts) (i : ℕ) → i < scenario.params.nodes → (inc : Incarnation) (n : ℕ) → IsKeptOn scenario (GoesOn i inc n)
goes_on scenario i there inc n = record {
  turn = λ journal j may h.
      let s : RunState = run scenario journal in
      let o = orderly scenario journal in
      let to : RunState = after_turn scenario j s in
      elim h [
        | inl now ↦ inl (
          after_turn-present scenario j s i may (o.unread j) ∙ now.0,
          elim (cases_eq i j) [
            | inl this ↦
                let more : reads s i ≤ reads to i = subst (λ m. reads s m ≤ reads to m) (sym this) (omega (arith, reads_turn scenario j s o may)) in
                omega (arith, now.1, more)
            | inr other ↦ omega (arith, now.1, reads_other scenario j s i other)
          ],
        )
        | inr before ↦ inr (subst (Among (λ (e : EndedIncarnation). (e.incarnation ≡ inc) × (n ≤ e.next)))
            (sym (after_turn-ended scenario j s i may (o.unread j))) before)
      ];
  slot = λ journal may h.
      let s : RunState = run scenario journal in
      let rules : FaultScript = script scenario.rules in
      let slot : RunState = after_slot rules s in
      let o = orderly scenario journal in
      let below : i < length s.nodes = omega (arith, there, o.count) in
      let ended : (node_at slot.nodes i).ended ≡ (node_at s.nodes i).ended = after_slot-ended rules s i below in
      let after : GoesOn i inc n slot = elim h [
        | inl now ↦ inl (after_slot-present rules s i below ∙ now.0, omega (arith, now.1, reads_slot scenario.params.nodes rules s o i there))
        | inr before ↦ inr (subst (Among (λ (e : EndedIncarnation). (e.incarnation ≡ inc) × (n ≤ e.next))) (sym ended) before)
      ] in
      let long : length slot.trace ≡ length s.trace + 1 = omega (arith, ap length (after_slot-trace rules s)) in
      elim (restarts_or_stays scenario slot i) [
        | inr stays ↦
            let same : incarnations slot i ≡ incarnations (after_restarts scenario slot) i =
            ap
            (λ (node : NodeState). record { incarnation = node.present; next = length slot.trace - node.unread; stopped = node.stopped } ∷ node.ended) (sym stays)
            ∙ ap (λ (t : List SlotNote). record {
              incarnation = (node_at (after_restarts scenario slot).nodes i).present;
              next = length t - (node_at (after_restarts scenario slot).nodes i).unread;
              stopped = (node_at (after_restarts scenario slot).nodes i).stopped;
            } ∷ (node_at (after_restarts scenario slot).nodes i).ended) (sym (after_restarts-trace scenario slot)) in
            subst (Among (λ (e : EndedIncarnation). (e.incarnation ≡ inc) × (n ≤ e.next))) same after
        | inl new ↦ inr (subst (Among (λ (e : EndedIncarnation). (e.incarnation ≡ inc) × (n ≤ e.next)))
            (sym (ap (λ (node : NodeState). node.ended) new.is)) (elim after [
              | inl now ↦ inl (now.0, omega (arith, now.1, long))
              | inr before ↦ inr before
            ]))
      ];
}

-- the incarnation of the whole run that ran after the front
pub record WasPresent (scenario : ScenarioParts) (journal front : List Step) (i : ℕ) : Type 0 where
  pub life : EndedIncarnation
  pub is : IsIncarnation scenario (run scenario journal) i life
  pub present : life.incarnation ≡ (node_at (run scenario front).nodes i).present
  pub read : reads (run scenario front) i ≤ life.next

pub was_present : (scenario : ScenarioParts) (journal front rest : List Step) → journal ≡ front ++ rest → (i : ℕ) → i < scenario.params.nodes
    → WasPresent scenario journal front i
was_present scenario journal front rest whole i there =
    let s : RunState = run scenario front in
    let inc : Incarnation = (node_at s.nodes i).present in
    let first : GoesOn i inc (reads s i) s = inl (refl, omega arith) in
    let last : GoesOn i inc (reads s i) (run scenario journal) =
    subst (λ j. GoesOn i inc (reads s i) (run scenario j)) (sym whole) (kept_on scenario (GoesOn i inc (reads s i)) (goes_on scenario i there inc (reads s i)) front rest first) in
    let w = Among-which (λ (e : EndedIncarnation). (e.incarnation ≡ inc) × (reads s i ≤ e.next)) (incarnations (run scenario journal) i) last in
    record {
      life = w.0;
      is = record { there = there; stands = w.1 };
      present = w.2.0;
      read = w.2.1;
    }

-- of what it had read by then it has read the same
pub read_by_front : (scenario : ScenarioParts) (journal front rest : List Step) → journal ≡ front ++ rest → (i m : ℕ) (w : WasPresent scenario journal front i)
    → m ≤ reads (run scenario front) i
    → first_read m (run scenario journal) i w.life ≡ drop (reads (run scenario front) i - m) (history i (run scenario front))
unfolding ended_history
read_by_front scenario journal front rest whole i m w short =
    let s : RunState = run scenario journal in
    let then : RunState = run scenario front in
    let inc : Incarnation = w.life.incarnation in
    let split = front_split scenario journal front rest whole in
    let unread : ℕ = (node_at then.nodes i).unread in
    let within : unread ≤ length then.trace = (orderly scenario front).unread i in
    let long : length s.trace ≡ length split.0 + length then.trace = ap length split.1 ∙ length-append split.0 then.trace in
    let last : w.life.next ≤ length s.trace = (lived scenario journal i w.life w.is).short in
    let newest : first_read m s i w.life ≡ map (given i) (drop (length then.trace - m) (seen inc then.trace)) =
    drop-map (w.life.next - m) (given i) (drop (length s.trace - w.life.next) (seen inc s.trace))
    ∙ ap (map (given i))
    (drop-drop (w.life.next - m) (length s.trace - w.life.next) (seen inc s.trace)
    ∙ ap (λ n. drop n (seen inc s.trace)) (omega (arith, long, short, w.read, last, within))
    ∙ sym (drop-drop (length then.trace - m) (length split.0) (seen inc s.trace))
    ∙ ap (drop (length then.trace - m))
    (drop_seen (length split.0) inc s.trace
    ∙ ap (λ t. seen inc (drop (length split.0) t)) split.1
    ∙ ap (seen inc) (drop-append_seam split.0 then.trace))) in
    let there : drop (reads then i - m) (history i then) ≡ map (given i) (drop (length then.trace - m) (seen inc then.trace)) =
    ap (drop (reads then i - m)) (history-is i then)
    ∙ drop-map (reads then i - m) (given i) (drop unread (seen (node_at then.nodes i).present then.trace))
    ∙ ap (map (given i))
    (drop-drop (reads then i - m) unread (seen (node_at then.nodes i).present then.trace)
    ∙ ap (λ n. drop n (seen (node_at then.nodes i).present then.trace)) (omega (arith, short, within))
    ∙ ap (λ (x : Incarnation). drop (length then.trace - m) (seen x then.trace)) (sym w.present)) in
    newest ∙ sym there
