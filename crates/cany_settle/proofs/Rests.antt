-- Every running node of a run is at rest once an idle slot ran long after the last load; and of the
-- last `bound` slots of a run one was idle, if its last load lies before them.
use Rattle.std.proofs.Common.{◌≡◌, ℕ, zero, suc, ◌+◌, ◌-◌, ◌<◌, ◌≤◌, inl, inr, true, not, List, [], ◌∷◌, length, Option, Some, None, refl, ap, sym, ◌∙◌, subst, arith, length-append}
use Rattle.std.specs.List.{flat_map, list_any}
use Rattle.std.proofs.lemmas.Bool.{both_ways, cases_Bool, cases_eq, not_from_false}
use Rattle.cany_base.specs.declared.slot_note.SlotNote.{SlotNote}
use Rattle.cany_base.specs.declared.step.Step.{Step}
use Rattle.cany_base.specs.Frame.{FrameParts}
use Rattle.cany_base.specs.Params.{Parameters}
use Rattle.cany_base.specs.Scenario.{ScenarioParts}
use Rattle.cany_model.specs.Bus.History.{given, history, seen}
use Rattle.cany_model.specs.Bus.Restart.{after_restarts}
use Rattle.cany_model.specs.Bus.Slot.{FaultScript, after_slot, least_frame, offered, script, slot_note_of, winner}
use Rattle.cany_model.specs.Bus.State.{Incarnation, NodeState, RunState, absent, node_at, runs, slots_run}
use Rattle.cany_model.specs.Promises.Quiet.{HasQuietSlots, IsQuiet, is_top}
use Rattle.cany_model.specs.Rules.Turn.{scenario_for}
use Rattle.cany_model.specs.Runs.Run.{after_turn, run}
use Rattle.cany_model.proofs.Among.{Among, Among-flat_map, Among-from_Contains, Among-get_or, Among-weaker, any-from_Among}
use Rattle.cany_model.proofs.Bus.Carried.{is_carried}
use Rattle.cany_model.proofs.Bus.Notes.{note_of-frame, note_of-offered, note_of-slot}
use Rattle.cany_model.proofs.Bus.Restarts.{after_restarts-trace, restarts_or_stays}
use Rattle.cany_model.proofs.Bus.Seen.{history-is, length-seen}
use Rattle.cany_model.proofs.Bus.States.{note_at, runs_within}
use Rattle.cany_model.proofs.Promises.Diffusion.{past_of}
use Rattle.cany_model.proofs.Promises.EachNode.{EachRunning, IsNew, restarted_new}
use Rattle.cany_model.proofs.Runs.Runs.{IsOrderly, MaySlot}
use Rattle.cany_model.proofs.Runs.SlotStates.{slot_state-trace, slot_state_is}
use Rattle.cany_model.proofs.Runs.Steps.{MayTurn, after_slot-present, after_slot-trace, after_slot-unread, after_slot-waiting, after_turn-node, after_turn-other, after_turn-runs, after_turn-trace, kept_at, next_notice, node_after_turn, running_before_slot, Each-kept}
use Rattle.cany_model.proofs.Timed.Order.NoLateAcceptances.{at_older}
use Rattle.cany_model.proofs.Timed.Order.TotRun.{IsOfRun, along_states, run_orderly}
use Rattle.cany_settle.specs.LastEvent.{is_lower_slot}
use Rattle.cany_settle.specs.LongEnough.{settling_time}
use Rattle.cany_settle.proofs.Backlogs.{BacklogKept, KeepsBacklog, backlogs_kept, begun_asked}
use Rattle.cany_settle.proofs.Resting.{AreScriptedBy, NoLowerSlotAfter, IsResting, Resting, all_asked_idle, rests_on}
use Rattle.cany_settle.proofs.Turns.{IsOther}

-- ---- an idle slot

-- a slot without a frame, so long after the last load that all running nodes had read everything up
-- to where nothing more comes of it
pub record IdleSlot (p : Parameters) (last : ℕ) (T : List SlotNote) : Type 0 where
  pub age : ℕ
  pub there : age < length T
  pub idle : (note_at T age).frame ≡ None
  pub late : last + settling_time p + p.lag < (note_at T age).slot

least_none : (fs : List FrameParts) → least_frame fs ≡ None → fs ≡ []
unfolding least_frame
least_none [] h = refl
least_none (f ∷ fs) h = absurd (cc)

some_offered : (nodes : List NodeState) (i : ℕ) → runs (node_at nodes i) ≡ true → Among (λ f. Unit {0}) (node_at nodes i).waiting
    → Among (λ f. Unit {0}) (flat_map offered nodes)
unfolding node_at
some_offered nodes i running h =
    Among-flat_map offered (λ f. Unit {0}) nodes
    (Among-get_or (λ node. Among (λ f. Unit {0}) (offered node)) nodes i absent (runs_within nodes i running) (rw running h))

-- in an idle slot no running node waited
none_waits : (rules : FaultScript) (s : RunState) → (slot_note_of rules s).frame ≡ None → (i : ℕ) → runs (node_at s.nodes i) ≡ true
    → (node_at s.nodes i).waiting ≡ []
unfolding winner
none_waits rules s idle i running = by_waiting (node_at s.nodes i).waiting refl
  where
    none : flat_map offered s.nodes ≡ []
    none = least_none (flat_map offered s.nodes) (sym (note_of-frame rules s) ∙ idle)

    by_waiting : (w : List FrameParts) → (node_at s.nodes i).waiting ≡ w → w ≡ []
    by_waiting [] is = refl
    by_waiting (f ∷ w) is =
        absurd (subst (Among (λ g. Unit {0})) none (some_offered s.nodes i running (subst (Among (λ g. Unit {0})) (sym is) (inl tt))))

-- ---- the steps

abbrev Rests : ScenarioParts → ℕ → RunState → Type 0
Rests scenario last s = NoLowerSlotAfter last s.trace → IdleSlot scenario.params last s.trace → EachRunning (Resting scenario last) s

slot_rests : (scenario : ScenarioParts) (i last : ℕ) (inc : Incarnation) (note : SlotNote) (T : List SlotNote) (u : ℕ) (W : List FrameParts)
    → IsResting scenario i last (seen inc T) u W → IsResting scenario i last (seen inc (note ∷ T)) (suc u) (kept_at (given i note) W)
slot_rests scenario i last inc note T u W h = record {
  read = omega (arith, h.read);
  waits = Each-kept IsOther (given i note) W h.waits;
  asked = h.asked;
}

-- a node that ran in an idle slot is at rest then
idle_rests : (scenario : ScenarioParts) (last : ℕ) (s : RunState) → IsOfRun scenario s → MaySlot scenario s → NoLowerSlotAfter last s.trace
    → (slot_note_of (script scenario.rules) s).frame ≡ None
    → last + settling_time scenario.params + scenario.params.lag < (slot_note_of (script scenario.rules) s).slot
    → (i : ℕ) → runs (node_at s.nodes i) ≡ true → Resting scenario last (seen (node_at s.nodes i).present s.trace) i (node_at s.nodes i)
idle_rests scenario last s of may no_lower idle late i running =
    let node : NodeState = node_at s.nodes i in
    let inc : Incarnation = node.present in
    let none : node.waiting ≡ [] = none_waits (script scenario.rules) s idle i running in
    let kept : KeepsBacklog scenario (seen inc s.trace) i node =
    subst (λ (t : RunState). EachRunning (KeepsBacklog scenario) t) of.1 (backlogs_kept scenario of.0) i running in
    let number = note_of-slot (script scenario.rules) s in
    let lag = may.lag i running in
    let read : last + settling_time scenario.params + node.unread < length s.trace = omega (arith, late, number, lag) in
    record {
      read = omega (arith, read, length-seen inc s.trace);
      waits = rw none tt;
      asked = all_asked_idle (scenario_for scenario inc) i last inc s.trace (run_orderly scenario s of).numbered no_lower node.unread read
          (subst (λ w. BacklogKept (scenario_for scenario inc) i (seen inc s.trace) (past_of i (seen inc s.trace) node) w) none kept);
    }

rests_slot : (scenario : ScenarioParts) (last : ℕ) (s : RunState) → IsOfRun scenario s → MaySlot scenario s → Rests scenario last s
    → Rests scenario last (after_slot (script scenario.rules) s)
rests_slot scenario last s of may h no_lower idle i running =
    let rules = script scenario.rules in
    let ran : runs (node_at s.nodes i) ≡ true = (running_before_slot rules s i running).0 in
    let within = runs_within s.nodes i ran in
    let next : (node_at (after_slot rules s).nodes i).unread ≡ suc (node_at s.nodes i).unread =
    let more = after_slot-unread rules s i within in omega (arith, more) in
    let waiting = after_slot-waiting rules s i ran in
    rw (next, waiting, after_slot-present rules s i within, after_slot-trace rules s)
    (slot_rests (scenario_for scenario (node_at s.nodes i).present) i last (node_at s.nodes i).present (slot_note_of rules s) s.trace
    (node_at s.nodes i).unread (node_at s.nodes i).waiting
    (before (subst (NoLowerSlotAfter last) (after_slot-trace rules s) no_lower) (subst (IdleSlot scenario.params last) (after_slot-trace rules s) idle) ran))
  where
    before : NoLowerSlotAfter last (slot_note_of (script scenario.rules) s ∷ s.trace)
        → IdleSlot scenario.params last (slot_note_of (script scenario.rules) s ∷ s.trace) → runs (node_at s.nodes i) ≡ true
        → Resting scenario last (seen (node_at s.nodes i).present s.trace) i (node_at s.nodes i)
    before no_lower' idle' ran = by_age idle'.age idle'.there idle'.idle idle'.late
      where
        older : NoLowerSlotAfter last s.trace
        older q lower = no_lower' (suc q) lower

        by_age : (age : ℕ) → age < suc (length s.trace) → (note_at (slot_note_of (script scenario.rules) s ∷ s.trace) age).frame ≡ None
            → last + settling_time scenario.params + scenario.params.lag < (note_at (slot_note_of (script scenario.rules) s ∷ s.trace) age).slot
            → Resting scenario last (seen (node_at s.nodes i).present s.trace) i (node_at s.nodes i)
        by_age zero there none late = idle_rests scenario last s of may older none late i ran
        by_age (suc age) there none late = h older (record { age = age; there = omega (arith, there); idle = none; late = late }) i ran

new_rests : (scenario : ScenarioParts) (last : ℕ) (T : List SlotNote) (i : ℕ) (node : NodeState) → IsNew scenario T i node → node.unread ≡ 0
    → last + settling_time scenario.params < length T → Resting scenario last T i node
new_rests scenario last T i node new unread late = record {
  read = omega (arith, unread, late);
  waits = rw new.waiting tt;
  asked = begun_asked (scenario_for scenario node.present) i (past_of i T node) new.past;
}

rests_restarts : (scenario : ScenarioParts) (last : ℕ) (s : RunState) → IsOrderly scenario.params.nodes s → 0 < length s.trace → Rests scenario last s
    → Rests scenario last (after_restarts scenario s)
rests_restarts scenario last s o some h no_lower idle i running =
    let after : NodeState = node_at (after_restarts scenario s).nodes i in
    let no_lower' = subst (NoLowerSlotAfter last) (after_restarts-trace scenario s) no_lower in
    let idle' = subst (IdleSlot scenario.params last) (after_restarts-trace scenario s) idle in
    let number = o.numbered idle'.age idle'.there in
    let there = idle'.there in
    let late = idle'.late in
    subst (λ t. Resting scenario last (seen after.present t) i after) (sym (after_restarts-trace scenario s)) (elim (restarts_or_stays scenario s i) [
      | inl new ↦
          new_rests scenario last (seen after.present s.trace) i after (restarted_new scenario s i o some new)
          (ap (λ (node : NodeState). node.unread) new.is) (omega (arith, number, there, late, length-seen after.present s.trace))
      | inr same ↦ rw same (h no_lower' idle' i (sym (ap (λ node. runs node) same) ∙ running))
    ])

rests_turn : (scenario : ScenarioParts) (last : ℕ) → AreScriptedBy last scenario → (s : RunState) (i : ℕ) → IsOfRun scenario s → MayTurn s i
    → Rests scenario last s → Rests scenario last (after_turn scenario i s)
rests_turn scenario last scripted s i of may h no_lower idle j running =
    let no_lower' = subst (NoLowerSlotAfter last) (after_turn-trace scenario i s) no_lower in
    let idle' = subst (IdleSlot scenario.params last) (after_turn-trace scenario i s) idle in
    let o = run_orderly scenario s of in
    let node = node_at s.nodes i in
    let inc = node.present in
    let short : node.unread ≤ length s.trace = o.unread i in
    let some = may.unread in
    let next : node.unread ≡ suc (node.unread - 1) = omega (arith, some) in
    let own : Resting scenario last (seen inc s.trace) i (node_after_turn scenario i (next_notice s i ∷ history i s) node) =
    rw (history-is i s)
    (rests_on (scenario_for scenario inc) i last inc s.trace o.numbered no_lower' scripted node.unread (node.unread - 1) node.waiting next short
    (h no_lower' idle' i may.running)) in
    let after : ℕ → NodeState = λ k. node_at (after_turn scenario i s).nodes k in
    subst (λ T. Resting scenario last (seen (after j).present T) j (after j)) (sym (after_turn-trace scenario i s)) (elim (cases_eq j i) [
      | inl same ↦
          subst (λ k. Resting scenario last (seen (after k).present s.trace) k (after k)) (sym same)
          (subst (λ (n : NodeState). Resting scenario last (seen n.present s.trace) i n) (sym (after_turn-node scenario i s may short)) own)
      | inr other ↦ rw (after_turn-other scenario i s j other) (h no_lower' idle' j (sym (after_turn-runs scenario i s j may short) ∙ running))
    ])

pub nodes_rest : (scenario : ScenarioParts) (last : ℕ) → AreScriptedBy last scenario → (journal : List Step) → NoLowerSlotAfter last (run scenario journal).trace
    → IdleSlot scenario.params last (run scenario journal).trace → EachRunning (Resting scenario last) (run scenario journal)
nodes_rest scenario last scripted journal =
    along_states scenario (Rests scenario last) (λ no_lower idle i running. absurd (never idle))
    (record {
      slot = λ s of may h. rests_slot scenario last s of may h;
      restarts = λ s o some h. rests_restarts scenario last s o some h;
      turn = λ s i of may h. rests_turn scenario last scripted s i of may h;
    })
    journal
  where
    never : IdleSlot scenario.params last [] → ⊥
    never idle = let there = idle.there in omega (arith, there)

-- ---- the idle slot

-- a slot that is run in a quiet state, and carries no frame of a lower class, carries none
carries_none : (scenario : ScenarioParts) (s : RunState) → IsQuiet scenario s → (rules : FaultScript) → (is_lower_slot (slot_note_of rules s) ≡ true → ⊥)
    → (slot_note_of rules s).frame ≡ None
carries_none scenario s quiet rules low = by_frame (slot_note_of rules s).frame refl
  where
    by_frame : (o : Option FrameParts) → (slot_note_of rules s).frame ≡ o → (slot_note_of rules s).frame ≡ None
    by_frame None is = is
    by_frame (Some f) is = elim (cases_Bool (is_top f.class)) [
      | inr lower ↦ absurd (low (is_carried (λ g. not (is_top g.class)) (slot_note_of rules s) f is (not_from_false (is_top f.class) lower)))
      | inl top ↦
          let offer = note_of-offered rules s f is in
          let w : List FrameParts = (node_at s.nodes offer.node).waiting in
          absurd (both_ways (list_any (λ g. is_top g.class) w) (quiet.waits offer.node offer.running)
          (any-from_Among (λ g. is_top g.class) w
          (Among-weaker (λ g. g ≡ f) (λ g. is_top g.class ≡ true) (λ g e. ap (λ (h : FrameParts). is_top h.class) e ∙ top) w (Among-from_Contains w f offer.waits))))
    ]

-- a quiet slot after the last load is idle
pub idle_slot : (scenario : ScenarioParts) (journal : List Step) (last : ℕ) → HasQuietSlots scenario journal → NoLowerSlotAfter last (run scenario journal).trace
    → last + settling_time scenario.params + scenario.params.lag + scenario.params.bound < slots_run (run scenario journal)
    → IdleSlot scenario.params last (run scenario journal).trace
idle_slot scenario journal last quiets no_lower long =
    let T : List SlotNote = (run scenario journal).trace in
    let quiet = quiets (length T - scenario.params.bound) (omega (arith, long)) in
    let was = quiet.3 in
    let s : RunState = was.state in
    let note : SlotNote = slot_note_of (script scenario.rules) s in
    let w = slot_state-trace scenario quiet.0 journal s was.ran in
    let number : note.slot ≡ quiet.0 = note_of-slot (script scenario.rules) s ∙ (slot_state_is scenario quiet.0 journal s was.ran).number in
    let e : length w.0 + 0 ≡ length w.0 = omega arith in
    let at : note_at T (length w.0) ≡ note = ap (note_at T) (sym e) ∙ ap (λ t. note_at t (length w.0 + 0)) w.1 ∙ at_older w.0 (note ∷ s.trace) 0 in
    let whole : length T ≡ length w.0 + suc (length s.trace) = ap length w.1 ∙ length-append w.0 (note ∷ s.trace) in
    let from = quiet.1 in
    let low : is_lower_slot note ≡ true → ⊥ =
    λ h. let early = no_lower (length w.0) (ap is_lower_slot at ∙ h) in let slot = ap (λ (n : SlotNote). n.slot) at in
    omega (arith, early, slot, number, from, long) in
    record {
      age = length w.0;
      there = omega (arith, whole);
      idle = ap (λ (n : SlotNote). n.frame) at ∙ carries_none scenario s was.quiet (script scenario.rules) low;
      late = let slot = ap (λ (n : SlotNote). n.slot) at in omega (arith, slot, number, from, long);
    }
