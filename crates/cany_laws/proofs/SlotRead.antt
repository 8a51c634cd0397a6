-- Which incarnations read a slot: those that ran when it had been run, with the restarts at its
-- end. Each of them has then read the same up to that slot, whenever it reads it.
use Rattle.std.proofs.Common.{◌≡◌, ℕ, suc, ◌+◌, ◌-◌, ◌<◌, ◌≤◌, ◌⊎◌, inl, inr, true, List, [], ◌∷◌, ◌++◌, length, map, drop, refl, ap, sym, ◌∙◌, subst, arith, append_assoc, drop-drop, length-append}
use Rattle.std.specs.List.{AllByRecursion}
use Rattle.std.proofs.Math.Seq.{drop-append_seam}
use Rattle.std.proofs.lemmas.Bool.{cases_eq}
use Rattle.cany_base.specs.declared.slot_note.SlotNote.{SlotNote}
use Rattle.cany_base.specs.declared.step.Step.{Step}
use Rattle.cany_base.specs.declared.step.Step.TheVariants as step
use Rattle.cany_base.specs.Scenario.{ScenarioParts}
use Rattle.cany_model.specs.Bus.History.{ended_history, given, history, seen}
use Rattle.cany_model.specs.Bus.Restart.{after_restarts, restarted}
use Rattle.cany_model.specs.Bus.Slot.{FaultScript, after_slot, script}
use Rattle.cany_model.specs.Bus.State.{EndedIncarnation, Incarnation, NodeState, RunState, node_at, opening, reads, runs, slots_run}
use Rattle.cany_model.specs.Promises.Settled.{IsCorrect}
use Rattle.cany_model.specs.Runs.Incarnations.{incarnations}
use Rattle.cany_model.specs.Runs.Run.{after_turn, is_done, proceed, reply, run}
use Rattle.cany_model.proofs.Among.{Among-from_Contains, Each-of, Each-weaker}
use Rattle.cany_model.proofs.Bus.Restarts.{after_restarts-trace, restarts_or_stays}
use Rattle.cany_model.proofs.Bus.Seen.{drop_seen, history-is}
use Rattle.cany_model.proofs.Runs.Journals.{run_push, step_is}
use Rattle.cany_model.proofs.Runs.Runs.{orderly}
use Rattle.cany_model.proofs.Runs.SlotStates.{slot_has_state, slot_state_is}
use Rattle.cany_model.proofs.Runs.Steps.{MayTurn, after_slot-present, after_slot-trace, after_slot-unread, after_turn-other, after_turn-present, after_turn-runs, after_turn-trace, running_before_slot}
use Rattle.cany_laws.specs.Logs.{IsIncarnation, past_to}
use Rattle.cany_laws.proofs.KeptAlongJournal.{after_slot-ended, after_turn-ended, drop-map, IsKeptOn, kept_on}
use Rattle.cany_laws.proofs.Silences.Lives.{Lived, each_lived, lived}
use Rattle.cany_model.proofs.Timed.Views.StartViews.{front_split}
use Rattle.cany_laws.proofs.CaughtUp.{CaughtUp, caught_up, still_present, still_read, still_runs}
use Rattle.cany_laws.proofs.RanSinceSlot.{IsSince, since_kept}

-- the incarnation began later, or it was the present one of a node that ran
abbrev pub LaterOrThen : RunState → ℕ → ℕ → Incarnation → Type 0
LaterOrThen then t i inc = (t < inc.since) ⊎ ((runs (node_at then.nodes i) ≡ true) × (inc ≡ (node_at then.nodes i).present))

-- an incarnation that has read the slot
abbrev pub WasThere : RunState → ℕ → ℕ → EndedIncarnation → Type 0
WasThere then t i e = t < e.next → LaterOrThen then t i e.incarnation

-- of node i, after a journal that goes on from a state in which slot t had run
pub record ReadSince (then : RunState) (t i : ℕ) (s : RunState) : Type 0 where
  pub since : IsSince then t i s
  pub present : t < reads s i → LaterOrThen then t i (node_at s.nodes i).present
  pub ended : AllByRecursion (WasThere then t i) (node_at s.nodes i).ended

-- what goes on keeps it
read_kept : (scenario : ScenarioParts) (then : RunState) (t i : ℕ) → i < scenario.params.nodes → IsKeptOn scenario (ReadSince then t i)
read_kept scenario then t i there = record {
  slot = λ journal may h.
      let s : RunState = run scenario journal in
      let rules : FaultScript = script scenario.rules in
      let slot : RunState = after_slot rules s in
      let o = orderly scenario journal in
      let below : i < length s.nodes = omega (arith, there, o.count) in
      let long : length slot.trace ≡ suc (length s.trace) = ap length (after_slot-trace rules s) in
      let unread : (node_at slot.nodes i).unread ≡ (node_at s.nodes i).unread + 1 = after_slot-unread rules s i below in
      let short : (node_at s.nodes i).unread ≤ length s.trace = o.unread i in
      let present : (node_at slot.nodes i).present ≡ (node_at s.nodes i).present = after_slot-present rules s i below in
      let was : t < reads slot i → LaterOrThen then t i (node_at slot.nodes i).present =
      λ read. subst (LaterOrThen then t i) (sym present) (h.present (omega (arith, read, unread, long, short))) in
      let ended : AllByRecursion (WasThere then t i) (node_at slot.nodes i).ended =
      subst (AllByRecursion (WasThere then t i)) (sym (after_slot-ended rules s i below)) h.ended in
      let since : IsSince then t i (after_restarts scenario slot) = (since_kept scenario then t i there).slot journal may h.since in
      elim (restarts_or_stays scenario slot i) [
        | inr stays ↦ record {
          since = since;
          present = λ read. subst (LaterOrThen then t i) (sym (ap (λ (n : NodeState). n.present) stays))
              (was (omega (arith, read, ap (λ (n : NodeState). n.unread) stays, ap length (after_restarts-trace scenario slot))));
          ended = subst (AllByRecursion (WasThere then t i)) (sym (ap (λ (n : NodeState). n.ended) stays)) ended;
        }
        | inl new ↦ record {
          since = since;
          present = λ read. inl (subst (λ (inc : Incarnation). t < inc.since) (sym (ap (λ (n : NodeState). n.present) new.is)) (omega (arith, long, h.since.grown)));
          ended = subst (AllByRecursion (WasThere then t i)) (sym (ap (λ (n : NodeState). n.ended) new.is)) (λ read. was (omega (arith, read, long)), ended);
        }
      ];
  turn = λ journal j may h.
      let s : RunState = run scenario journal in
      let short : (node_at s.nodes j).unread ≤ length s.trace = (orderly scenario journal).unread j in
      let present : (node_at (after_turn scenario j s).nodes i).present ≡ (node_at s.nodes i).present = after_turn-present scenario j s i may short in
      record {
        since = (since_kept scenario then t i there).turn journal j may h.since;
        present = λ read. subst (LaterOrThen then t i) (sym present) (elim (cases_eq i j) [
          | inl this ↦ elim h.since.present [
            | inl later ↦ inl later
            | inr same ↦ inr (same.1 (subst (λ k. runs (node_at s.nodes k) ≡ true) (sym this) may.running), same.0)
          ]
          | inr other ↦
              h.present (omega (arith, read, ap (λ (n : NodeState). n.unread) (after_turn-other scenario j s i other), ap length (after_turn-trace scenario j s)))
        ]);
        ended = subst (AllByRecursion (WasThere then t i)) (sym (after_turn-ended scenario j s i may short)) h.ended;
      };
}

-- ---- the slot itself

-- the front of the journal that ends with the slot
pub record FrontOf (scenario : ScenarioParts) (journal : List Step) (t : ℕ) : Type 0 where
  pub front : List Step
  pub rest : List Step
  pub whole : journal ≡ front ++ rest
  pub size : length (run scenario front).trace ≡ suc t
  pub since : (i : ℕ) → i < scenario.params.nodes → ReadSince (run scenario front) t i (run scenario front)

pub front_of : (scenario : ScenarioParts) (journal : List Step) (t : ℕ) → t < slots_run (run scenario journal) → FrontOf scenario journal t
unfolding proceed
front_of scenario journal t ran =
    let some = slot_has_state scenario t journal ran in
    let way = slot_state_is scenario t journal some.0 some.1 in
    let s : RunState = run scenario way.before in
    let rules : FaultScript = script scenario.rules in
    let slot : RunState = after_slot rules s in
    let front : List Step = way.before ++ step.Slot ∷ [] in
    let is : run scenario front ≡ after_restarts scenario slot =
    run_push scenario (opening scenario.params.nodes) way.before step.Slot
    ∙ step_is scenario s step.Slot (subst (λ (r : RunState). is_done (reply scenario r step.Slot) ≡ true) (sym way.state) way.done) in
    let o = orderly scenario way.before in
    let number : length s.trace ≡ t = ap (λ (r : RunState). length r.trace) way.state ∙ way.number in
    let long : length slot.trace ≡ suc (length s.trace) = ap length (after_slot-trace rules s) in
    let size : length (run scenario front).trace ≡ suc t =
    ap (λ (r : RunState). length r.trace) is ∙ ap length (after_restarts-trace scenario slot) ∙ long ∙ ap suc number in
    record {
      front = front;
      rest = way.after;
      whole = way.whole ∙ sym (append_assoc way.before (step.Slot ∷ []) way.after);
      size = size;
      since = λ i there.
          let below : i < length s.nodes = omega (arith, there, o.count) in
          let unread : (node_at slot.nodes i).unread ≡ (node_at s.nodes i).unread + 1 = after_slot-unread rules s i below in
          let present : (node_at slot.nodes i).present ≡ (node_at s.nodes i).present = after_slot-present rules s i below in
          let all = each_lived scenario i there way.before in
          let none : AllByRecursion (WasThere (run scenario front) t i) (node_at s.nodes i).ended =
          Each-weaker (Lived scenario way.before i) (WasThere (run scenario front) t i)
          (λ e l read. absurd (omega (arith, l.short, read, number))) (node_at s.nodes i).ended all.1 in
          let ended : (node_at slot.nodes i).ended ≡ (node_at s.nodes i).ended = after_slot-ended rules s i below in
          let since : IsSince (run scenario front) t i (run scenario front) = record { grown = omega (arith, size); present = inr (refl, λ r. r) } in
          elim (restarts_or_stays scenario slot i) [
            | inr stays ↦
                let node : node_at (run scenario front).nodes i ≡ node_at slot.nodes i = ap (λ (r : RunState). node_at r.nodes i) is ∙ stays in
                record {
                  since = since;
                  present = λ read. absurd (omega (arith, read, size, ap (λ (n : NodeState). n.unread) node, unread));
                  ended = subst (AllByRecursion (WasThere (run scenario front) t i))
                      (sym (ap (λ (n : NodeState). n.ended) node ∙ ended)) none;
                }
            | inl new ↦
                let node : node_at (run scenario front).nodes i ≡ restarted scenario.params (slots_run slot - 1) (node_at slot.nodes i) =
                ap (λ (r : RunState). node_at r.nodes i) is ∙ new.is in
                record {
                  since = since;
                  present = λ read. inr (ap (λ (n : NodeState). runs n) node, refl);
                  ended = subst (AllByRecursion (WasThere (run scenario front) t i))
                      (sym (ap (λ (n : NodeState). n.ended) node)) (
                        λ read. absurd (omega (arith, read, unread, long, number)),
                        subst (AllByRecursion (WasThere (run scenario front) t i)) (sym ended) none,
                      );
                }
          ];
    }

-- an incarnation that has read the slot, and had notices by then, ran when the slot had been run
pub ran_then : (scenario : ScenarioParts) (journal : List Step) (t i : ℕ) (e : EndedIncarnation) → IsIncarnation scenario (run scenario journal) i e
    → t < e.next → e.incarnation.since ≤ t → (f : FrontOf scenario journal t)
    → (runs (node_at (run scenario f.front).nodes i) ≡ true) × (e.incarnation ≡ (node_at (run scenario f.front).nodes i).present)
ran_then scenario journal t i e is read begun f =
    let h = subst (λ j. ReadSince (run scenario f.front) t i (run scenario j)) (sym f.whole)
    (kept_on scenario (ReadSince (run scenario f.front) t i) (read_kept scenario (run scenario f.front) t i is.there) f.front f.rest (f.since i is.there)) in
    let each : AllByRecursion (WasThere (run scenario f.front) t i) (incarnations (run scenario journal) i) =
    (h.present, h.ended) in
    elim (Each-of (WasThere (run scenario f.front) t i) e (incarnations (run scenario journal) i) each
    (Among-from_Contains (incarnations (run scenario journal) i) e is.stands) read) [
      | inl later ↦ absurd (omega (arith, later, begun))
      | inr then ↦ then
    ]

-- ---- both have read the slot

-- what an incarnation had read after its turn of slot t
pub past_to-is : (scenario : ScenarioParts) (journal : List Step) (t i : ℕ) (e : EndedIncarnation) (front rest : List Step) → journal ≡ front ++ rest
    → length (run scenario front).trace ≡ suc t → t < e.next → e.next ≤ length (run scenario journal).trace
    → past_to t (run scenario journal) i e ≡ map (given i) (seen e.incarnation (run scenario front).trace)
unfolding ended_history
past_to-is scenario journal t i e front rest whole size read short =
    let s : RunState = run scenario journal in
    let then : RunState = run scenario front in
    let split = front_split scenario journal front rest whole in
    let long : length s.trace ≡ length split.0 + length then.trace = ap length split.1 ∙ length-append split.0 then.trace in
    let inc : Incarnation = e.incarnation in
    drop-map (e.next - (t + 1)) (given i) (drop (length s.trace - e.next) (seen inc s.trace))
    ∙ ap (map (given i))
    (drop-drop (e.next - (t + 1)) (length s.trace - e.next) (seen inc s.trace)
    ∙ ap (λ n. drop n (seen inc s.trace)) (omega (arith, long, size, read, short))
    ∙ drop_seen (length split.0) inc s.trace
    ∙ ap (λ tr. seen inc (drop (length split.0) tr)) split.1
    ∙ ap (seen inc) (drop-append_seam split.0 then.trace))

-- after this journal it runs, and has read that and no more
pub record HadRead (scenario : ScenarioParts) (journal to : List Step) (t i : ℕ) (e : EndedIncarnation) : Type 0 where
  pub correct : IsCorrect scenario (run scenario to) i
  pub present : (node_at (run scenario to).nodes i).present ≡ e.incarnation
  pub past : history i (run scenario to) ≡ past_to t (run scenario journal) i e
  pub read : reads (run scenario to) i ≡ suc t

-- once it has read all that there is, where the trace is that of the slot's end
had_read : (scenario : ScenarioParts) (journal to : List Step) (t : ℕ) (f : FrontOf scenario journal t) → (run scenario to).trace ≡ (run scenario f.front).trace
    → (i : ℕ) (e : EndedIncarnation) → IsIncarnation scenario (run scenario journal) i e → t < e.next → e.next ≤ length (run scenario journal).trace
    → runs (node_at (run scenario to).nodes i) ≡ true → (node_at (run scenario to).nodes i).present ≡ e.incarnation
    → (node_at (run scenario to).nodes i).unread ≡ 0 → HadRead scenario journal to t i e
had_read scenario journal to t f trace i e is read short running present none = record {
  correct = record { there = is.there; running = running };
  present = present;
  past = history-is i (run scenario to)
      ∙ ap (λ n. map (given i) (drop n (seen (node_at (run scenario to).nodes i).present (run scenario to).trace))) none
      ∙ ap (λ (inc : Incarnation). map (given i) (seen inc (run scenario to).trace)) present
      ∙ ap (λ tr. map (given i) (seen e.incarnation tr)) trace
      ∙ sym (past_to-is scenario journal t i e f.front f.rest f.whole f.size read short);
  read = omega (arith, none, ap length trace, f.size);
}

pub record BothRead (scenario : ScenarioParts) (journal : List Step) (t i j : ℕ) (e f : EndedIncarnation) : Type 0 where
  pub to : List Step
  pub newer : List SlotNote
  pub split : (run scenario journal).trace ≡ newer ++ (run scenario to).trace
  pub size : length (run scenario to).trace ≡ suc t
  pub one : HadRead scenario journal to t i e
  pub other : HadRead scenario journal to t j f

-- by the turns of both
by_turns : (scenario : ScenarioParts) (journal : List Step) (t i j : ℕ) (e f : EndedIncarnation) → IsIncarnation scenario (run scenario journal) i e
    → IsIncarnation scenario (run scenario journal) j f → t < e.next → t < f.next → (front : FrontOf scenario journal t)
    → (runs (node_at (run scenario front.front).nodes i) ≡ true) × (e.incarnation ≡ (node_at (run scenario front.front).nodes i).present)
    → (runs (node_at (run scenario front.front).nodes j) ≡ true) × (f.incarnation ≡ (node_at (run scenario front.front).nodes j).present)
    → (one : CaughtUp scenario front.front i) → CaughtUp scenario (front.front ++ one.turns) j → BothRead scenario journal t i j e f
by_turns scenario journal t i j e f ie jf re rf front he hf one two =
    let to : List Step = (front.front ++ one.turns) ++ two.turns in
    let trace : (run scenario to).trace ≡ (run scenario front.front).trace = two.trace ∙ one.trace in
    let split = front_split scenario journal front.front front.rest front.whole in
    record {
      to = to;
      newer = split.0;
      split = split.1 ∙ ap (λ tr. split.0 ++ tr) (sym trace);
      size = ap length trace ∙ front.size;
      one = had_read scenario journal to t front trace i e ie re (lived scenario journal i e ie).short
          (still_runs scenario (front.front ++ one.turns) j two i one.running)
          (still_present scenario (front.front ++ one.turns) j two i ∙ one.present ∙ sym he.1)
          (still_read scenario (front.front ++ one.turns) j two i one.unread);
      other = had_read scenario journal to t front trace j f jf rf (lived scenario journal j f jf).short two.running
          (two.present ∙ still_present scenario front.front i one j ∙ sym hf.1) two.unread;
    }

pub both_read : (scenario : ScenarioParts) (journal : List Step) (t i j : ℕ) (e f : EndedIncarnation) → IsIncarnation scenario (run scenario journal) i e
    → IsIncarnation scenario (run scenario journal) j f → t < e.next → t < f.next → e.incarnation.since ≤ t → f.incarnation.since ≤ t
    → BothRead scenario journal t i j e f
both_read scenario journal t i j e f ie jf re rf be bf =
    let front = front_of scenario journal t (omega (arith, re, (lived scenario journal i e ie).short)) in
    let he = ran_then scenario journal t i e ie re be front in
    let hf = ran_then scenario journal t j f jf rf bf front in
    let one = caught_up scenario i (node_at (run scenario front.front).nodes i).unread front.front he.0 refl in
    by_turns scenario journal t i j e f ie jf re rf front he hf one
    (caught_up scenario j (node_at (run scenario (front.front ++ one.turns)).nodes j).unread (front.front ++ one.turns)
    (still_runs scenario front.front i one j hf.0) refl)
