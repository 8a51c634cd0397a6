-- What is kept of TOTCAN, of every run without a Silent slot.
use Rattle.std.proofs.Common.{◌≡◌, ℕ, zero, suc, ◌-◌, ◌<◌, ◌≤◌, inl, inr, true, List, [], ◌∷◌, ◌++◌, None, length, refl, ap, sym, ◌∙◌, subst, arith}
use Rattle.std.specs.List.{AllByRecursion}
use Rattle.std.proofs.lemmas.Bool.{cases_Bool, false≢true}
use Rattle.cany_base.specs.declared.notice.NoticeKind.{NoticeKind}
use Rattle.cany_base.specs.declared.slot_note.SlotNote.{SlotNote}
use Rattle.cany_base.specs.declared.step.Step.{Step}
use Rattle.cany_base.specs.declared.step.Step.TheVariants as step
use Rattle.cany_base.specs.Frame.{FrameParts}
use Rattle.cany_base.specs.Limits.{most_nodes}
use Rattle.cany_base.specs.Scenario.{ScenarioParts}
use Rattle.cany_model.specs.Bus.Frames.{Identity}
use Rattle.cany_model.specs.Bus.History.{history, seen}
use Rattle.cany_model.specs.Bus.Restart.{after_restarts}
use Rattle.cany_model.specs.Runs.Run.{after_step, after_turn, is_done, proceed, reply, run, run_from}
use Rattle.cany_model.specs.Bus.Slot.{after_slot, script, slot_note_of}
use Rattle.cany_model.specs.Bus.State.{Incarnation, NodeState, RunState, node_at, opening, runs}
use Rattle.cany_model.specs.Rules.Effect.{waiting_after}
use Rattle.cany_model.specs.Rules.Turn.{scenario_for, turn_effects}
use Rattle.cany_model.proofs.Runs.Journals.{run_push, step_is, step_refused}
use Rattle.cany_model.proofs.Bus.Restarts.{after_restarts-trace}
use Rattle.cany_model.proofs.Runs.Runs.{IsOrderly, MaySlot, orderly, orderly_slot, slot_done, turn_done}
use Rattle.cany_model.proofs.Bus.Seen.{history-is, length-seen}
use Rattle.cany_model.proofs.Bus.States.{note_at, runs_within}
use Rattle.cany_model.proofs.Runs.Steps.{MayTurn, after_slot-present, after_slot-trace, after_slot-unread, after_slot-waiting, after_turn-node, after_turn-trace, next_notice, node_after_turn, running_before_slot, one_less}
use Rattle.cany_model.proofs.Promises.EachNode.{IsNew, opening_new, each_restarts, each_turn}
use Rattle.cany_model.proofs.Promises.OwnSlotsAlone.{own_slots_alone_run}
use Rattle.cany_model.proofs.Timed.Common.Ages.{Carried, Gets, Sends, clean_carried, gave, past}
use Rattle.cany_model.proofs.Timed.Common.OwnSlots.{own_slots}
use Rattle.cany_model.proofs.Timed.Order.TotFrames.{late_run, sound_run}
use Rattle.cany_model.proofs.Timed.Order.TotKept.{KeptNode, NoSilent, NodeKept, TotKept, TraceKept}
use Rattle.cany_model.proofs.Timed.Order.TotSlot.{IsReady, slot_node, slot_trace}
use Rattle.cany_model.proofs.Timed.Order.TotSlots.{got_carried, sent_carried}
use Rattle.cany_model.proofs.Timed.Order.TotTurn.{AreNumbered, turn_node}

-- ---- a fact of each state of a run, where what else is known of every run may be used

-- a state of a run
abbrev pub IsOfRun : ScenarioParts → RunState → Type 0
IsOfRun scenario s = (journal : List Step) × (run scenario journal ≡ s)

pub record IsKeptInRuns (scenario : ScenarioParts) (P : RunState → Type 0) : Type 0 where
  pub slot : (s : RunState) → IsOfRun scenario s → MaySlot scenario s → P s → P (after_slot (script scenario.rules) s)
  pub restarts : (s : RunState) → IsOrderly scenario.params.nodes s → 0 < length s.trace → P s → P (after_restarts scenario s)
  pub turn : (s : RunState) (i : ℕ) → IsOfRun scenario s → MayTurn s i → P s → P (after_turn scenario i s)

pub run_orderly : (scenario : ScenarioParts) (s : RunState) → IsOfRun scenario s → IsOrderly scenario.params.nodes s
run_orderly scenario s of = subst (IsOrderly scenario.params.nodes) of.1 (orderly scenario of.0)

done_kept : (scenario : ScenarioParts) (P : RunState → Type 0) → IsKeptInRuns scenario P → (s : RunState) → IsOfRun scenario s → P s → (step : Step)
    → is_done (reply scenario s step) ≡ true → P (proceed scenario s step)
unfolding proceed
done_kept scenario P keeps s of p step.Slot done =
    let o = orderly_slot scenario.params.nodes (script scenario.rules) s (run_orderly scenario s of) in
    let some : 0 < length (after_slot (script scenario.rules) s).trace =
    subst (λ trace. 0 < length trace) (sym (after_slot-trace (script scenario.rules) s)) (omega arith) in
    keeps.restarts (after_slot (script scenario.rules) s) o some (keeps.slot s of (slot_done scenario s done) p)
done_kept scenario P keeps s of p (step.Turn i) done =
    keeps.turn s i of (turn_done scenario s i (run_orderly scenario s of).count done) p

step_kept : (scenario : ScenarioParts) (P : RunState → Type 0) → IsKeptInRuns scenario P → (s : RunState) → IsOfRun scenario s → P s → (step : Step)
    → P (after_step scenario s step)
step_kept scenario P keeps s of p step = elim (cases_Bool (is_done (reply scenario s step))) [
  | inl done ↦ subst P (sym (step_is scenario s step done)) (done_kept scenario P keeps s of p step done)
  | inr refused ↦ subst P (sym (step_refused scenario s step refused)) p
]

next_of_run : (scenario : ScenarioParts) (s : RunState) (step : Step) → IsOfRun scenario s → IsOfRun scenario (after_step scenario s step)
next_of_run scenario s step of =
    (of.0 ++ step ∷ [], run_push scenario (opening scenario.params.nodes) of.0 step ∙ ap (λ t. after_step scenario t step) of.1)

kept_on : (scenario : ScenarioParts) (P : RunState → Type 0) → IsKeptInRuns scenario P → (s : RunState) (journal : List Step)
    → IsOfRun scenario s → P s
    → P (run_from scenario s journal)
unfolding run_from
kept_on scenario P keeps s [] of p = p
kept_on scenario P keeps s (step ∷ journal) of p =
    kept_on scenario P keeps (after_step scenario s step) journal (next_of_run scenario s step of) (step_kept scenario P keeps s of p step)

opening_of_run : (scenario : ScenarioParts) → IsOfRun scenario (opening scenario.params.nodes)
unfolding run_from
opening_of_run scenario = ([], refl)

pub along_states : (scenario : ScenarioParts) (P : RunState → Type 0) → P (opening scenario.params.nodes) → IsKeptInRuns scenario P
    → (journal : List Step)
    → P (run scenario journal)
along_states scenario P first keeps journal = kept_on scenario P keeps (opening scenario.params.nodes) journal (opening_of_run scenario) first

-- ---- what is known of the state before a slot

ready_run : (scenario : ScenarioParts) → scenario.params.nodes ≤ most_nodes → (journal : List Step) → MaySlot scenario (run scenario journal)
    → IsReady scenario (run scenario journal)
ready_run scenario few journal may = record {
  few = subst (λ n. n ≤ most_nodes) (sym (orderly scenario journal).count) few;
  o = orderly scenario journal;
  lag = may.lag;
  own_slots_alone = own_slots_alone_run scenario journal;
  own = own_slots scenario journal;
  sound = sound_run scenario journal few;
  late = late_run scenario journal;
}

ready_before : (scenario : ScenarioParts) → scenario.params.nodes ≤ most_nodes → (s : RunState) → IsOfRun scenario s → MaySlot scenario s
    → IsReady scenario s
ready_before scenario few s of may =
    subst (λ t. MaySlot scenario t → IsReady scenario t) of.1 (ready_run scenario few of.0) may

-- ---- the beginning of a run, and of a node

pub uncarried : (T : List SlotNote) → AllByRecursion (λ note. note.frame ≡ None) T → (p : ℕ) (x : Identity) → Carried T p x → ⊥
uncarried [] blank p x h = false≢true h
uncarried (note ∷ T) blank zero x h = false≢true (rw blank.0 at h)
uncarried (note ∷ T) blank (suc p) x h = uncarried T blank.1 p x h

ungot : (T : List SlotNote) → AllByRecursion (λ note. note.frame ≡ None) T → (i p : ℕ) (x : Identity) → Gets i T p x → ⊥
ungot T blank i p x h = uncarried T blank p x (got_carried x i (note_at T p) h)

pub unsent : (T : List SlotNote) → AllByRecursion (λ note. note.frame ≡ None) T → (i p : ℕ) (x : Identity) → Sends i T p x → ⊥
unsent T blank i p x h = uncarried T blank p x (sent_carried x i (note_at T p) h).0

-- of a trace without frames
trace_blank : (scenario : ScenarioParts) (T : List SlotNote) → AllByRecursion (λ note. note.frame ≡ None) T → TraceKept scenario T
trace_blank scenario T blank = record {
  spaced = λ p q m k h a b e. absurd (uncarried T blank p _ (clean_carried _ (note_at T p) a));
  data_first = λ p q m h a b. uncarried T blank p _ a;
  accept_after = λ p m h. absurd (uncarried T blank p _ h);
  origin_there = λ p m h. absurd (uncarried T blank p _ (clean_carried _ (note_at T p) h));
  sender = λ p x h. absurd (uncarried T blank p x (clean_carried x (note_at T p) h));
  got_from = λ i p x h. absurd (ungot T blank i p x h);
  own_data = λ i p m h. absurd (unsent T blank i p _ h);
  no_own_got = λ p m h. ungot T blank m.origin p _ h;
  sent_once = λ i p q m h a b. unsent T blank i p _ a;
}

-- of a node with which nothing waits, and which sees no frame
node_blank : (scenario : ScenarioParts) (i : ℕ) (T : List SlotNote) (u : ℕ) → AllByRecursion (λ note. note.frame ≡ None) T
    → NodeKept scenario i T u []
node_blank scenario i T u blank = record {
  heard = λ p x h. absurd (uncarried T blank p x (clean_carried x (note_at T p) h));
  data_mine = λ m h. absurd (false≢true h);
  data_far = λ m q k h a e. absurd (false≢true h);
  data_new = λ m q h a. false≢true h;
  data_one = λ m k h a. absurd (false≢true h);
  data_asked = λ m h. elim h [ inl w ↦ absurd (false≢true w) | inr d ↦ absurd (uncarried T blank d.0 _ (clean_carried _ (note_at T d.0) d.1)) ];
  accept_age = λ m h. absurd (false≢true h);
  accept_cause = λ m h. elim h [ inl w ↦ absurd (false≢true w) | inr d ↦ absurd (unsent T blank i d.0 _ d.1) ];
  accept_once = λ m p h a. false≢true h;
  origin_waits = λ m p e h. absurd (uncarried T blank p _ h);
  origin_sends = λ m p e h. absurd (ungot T blank i p _ h);
}

new_kept : (scenario : ScenarioParts) (T : List SlotNote) (i : ℕ) (node : NodeState) → IsNew scenario T i node → KeptNode scenario T i node
new_kept scenario T i node new =
    subst (λ w. NodeKept (scenario_for scenario node.present) i T node.unread w) (sym new.waiting)
    (node_blank (scenario_for scenario node.present) i T node.unread new.blank)

-- ---- the steps

abbrev pub Kept : ScenarioParts → RunState → Type 0
Kept scenario s = NoSilent s.trace → TotKept scenario s

kept_opening : (scenario : ScenarioParts) → Kept scenario (opening scenario.params.nodes)
kept_opening scenario plain = record {
  trace = trace_blank scenario [] tt;
  nodes = λ i running. new_kept scenario [] i (node_at (opening scenario.params.nodes).nodes i) (opening_new scenario i running);
}

kept_slot : (scenario : ScenarioParts) → scenario.params.nodes ≤ most_nodes → (s : RunState) → IsOfRun scenario s → MaySlot scenario s
    → Kept scenario s
    → Kept scenario (after_slot (script scenario.rules) s)
kept_slot scenario few s of may h plain =
    let rules = script scenario.rules in
    let plains : NoSilent (slot_note_of (script scenario.rules) s ∷ s.trace) = subst NoSilent (after_slot-trace (script scenario.rules) s) plain in
    let k = h plains.1 in
    let ready = ready_before scenario few s of may in
    record {
      trace = subst (TraceKept scenario) (sym (after_slot-trace (script scenario.rules) s))
          (slot_trace scenario (script scenario.rules) s ready plains.0 plains.1 k.trace k.nodes);
      nodes = λ i running.
          let ran : runs (node_at s.nodes i) ≡ true = (running_before_slot (script scenario.rules) s i running).0 in
          let within = runs_within s.nodes i ran in
          let next : (node_at (after_slot (script scenario.rules) s).nodes i).unread ≡ suc (node_at s.nodes i).unread =
          let more = after_slot-unread (script scenario.rules) s i within in omega (arith, more) in
          let waiting = after_slot-waiting (script scenario.rules) s i ran in
          rw (next, waiting, after_slot-present (script scenario.rules) s i within, after_slot-trace (script scenario.rules) s)
          (slot_node scenario (script scenario.rules) s ready plains.0 plains.1 k.trace k.nodes i ran);
    }

kept_restarts : (scenario : ScenarioParts) (s : RunState) → IsOrderly scenario.params.nodes s → 0 < length s.trace → Kept scenario s
    → Kept scenario (after_restarts scenario s)
kept_restarts scenario s o some h plain =
    let k = h (subst NoSilent (after_restarts-trace scenario s) plain) in
    record {
      trace = subst (TraceKept scenario) (sym (after_restarts-trace scenario s)) k.trace;
      nodes = each_restarts scenario (KeptNode scenario) (new_kept scenario) s o some k.nodes;
    }

-- what is kept of the trace speaks of no incarnation
trace_for_any : (scenario : ScenarioParts) (inc : Incarnation) (T : List SlotNote) → TraceKept scenario T → TraceKept (scenario_for scenario inc) T
trace_for_any scenario inc T t = record {
  spaced = t.spaced;
  data_first = t.data_first;
  accept_after = t.accept_after;
  origin_there = t.origin_there;
  sender = t.sender;
  got_from = t.got_from;
  own_data = t.own_data;
  no_own_got = t.no_own_got;
  sent_once = t.sent_once;
}

pub past_next : (i : ℕ) (T : List SlotNote) (u : ℕ) → u < length T → past i T u ≡ gave i T u ∷ past i T (suc u)
past_next i [] u h = absurd (omega (arith, h))
past_next i (note ∷ T) zero h = refl
past_next i (note ∷ T) (suc u) h = past_next i T u (omega (arith, h))

-- of the node whose turn it is, over variables: `left` is what it has not read after the turn
turn_kept : (scenario : ScenarioParts) (i : ℕ) (inc : Incarnation) (T : List SlotNote) (unread left : ℕ) (W : List FrameParts) (h : List NoticeKind)
    → unread ≡ suc left → unread ≤ length T → h ≡ past i (seen inc T) unread → NoSilent T → AreNumbered T
    → TraceKept scenario T → NodeKept (scenario_for scenario inc) i (seen inc T) unread W
    → NodeKept (scenario_for scenario inc) i (seen inc T) left
    (waiting_after (turn_effects (scenario_for scenario inc) i (gave i (seen inc T) left ∷ h)) W)
turn_kept scenario i inc T unread left W h next short is plain numbered t n =
    let was : h ≡ past i (seen inc T) (suc left) = is ∙ ap (λ u. past i (seen inc T) u) next in
    rw was
    (turn_node (scenario_for scenario inc) i inc T left W plain numbered (trace_for_any scenario inc T t)
    (past_next i (seen inc T) left (omega (arith, next, short, length-seen inc T)))
    (subst (λ u. NodeKept (scenario_for scenario inc) i (seen inc T) u W) next n))

kept_turn : (scenario : ScenarioParts) (s : RunState) (i : ℕ) → IsOfRun scenario s → MayTurn s i → Kept scenario s
    → Kept scenario (after_turn scenario i s)
kept_turn scenario s i of may h plain =
    let plains = subst NoSilent (after_turn-trace scenario i s) plain in
    let k = h plains in
    let node = node_at s.nodes i in
    let o = run_orderly scenario s of in
    let own : KeptNode scenario (seen node.present s.trace) i (node_after_turn scenario i (next_notice s i ∷ history i s) node) =
    turn_kept scenario i node.present s.trace node.unread (node.unread - 1) node.waiting (history i s) (one_less s i may) (o.unread i) (history-is i s)
    plains o.numbered k.trace (k.nodes i may.running) in
    record {
      trace = subst (TraceKept scenario) (sym (after_turn-trace scenario i s)) k.trace;
      nodes = each_turn scenario (KeptNode scenario) s i may (o.unread i)
          (subst (KeptNode scenario (seen node.present s.trace) i) (sym (after_turn-node scenario i s may (o.unread i))) own) k.nodes;
    }

pub tot_kept : (scenario : ScenarioParts) → scenario.params.nodes ≤ most_nodes → (journal : List Step) → NoSilent (run scenario journal).trace
    → TotKept scenario (run scenario journal)
tot_kept scenario few journal =
    along_states scenario (Kept scenario) (kept_opening scenario)
    (record {
      slot = λ s of may h. kept_slot scenario few s of may h;
      restarts = λ s o some h. kept_restarts scenario s o some h;
      turn = λ s i of may h. kept_turn scenario s i of may h;
    })
    journal
