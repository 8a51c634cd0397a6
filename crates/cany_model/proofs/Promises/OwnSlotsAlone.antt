-- A restarted node waits with nothing before its first slot, and with no vector of a cycle before
-- its first: so what a running node sends, its incarnation sees.
use Rattle.std.proofs.Common.{◌≡◌, ℕ, suc, ◌-◌, ◌<◌, inl, inr, true, false, List, [], ◌∷◌, Some, length, Contains, refl, ap, sym, ◌∙◌, subst, arith}
use Rattle.std.specs.List.{AllByRecursion}
use Rattle.std.proofs.lemmas.Bool.{both_ways, false_from_ne_true, ne_eqb}
use Rattle.cany_base.specs.declared.notice.NoticeKind.{NoticeKind}
use Rattle.cany_base.specs.declared.notice.NoticeKind.TheVariants.{Idle, Got, Sent, Bad}
use Rattle.cany_base.specs.declared.slot_note.SlotNote.{SlotNote}
use Rattle.cany_base.specs.declared.step.Step.{Step}
use Rattle.cany_base.specs.Frame.{FrameParts}
use Rattle.cany_base.specs.Nodes.{has, nobody}
use Rattle.cany_base.specs.Scenario.{ScenarioParts}
use Rattle.cany_model.specs.Bus.History.{carries_early, given, history, is_hidden}
use Rattle.cany_model.specs.Bus.Restart.{after_restarts}
use Rattle.cany_model.specs.Runs.Run.{after_turn, run}
use Rattle.cany_model.specs.Bus.Slot.{FaultScript, after_slot, script, slot_note_of}
use Rattle.cany_model.specs.Bus.State.{Incarnation, NodeState, RunState, node_at, opening, runs}
use Rattle.cany_model.specs.Rules.Effect.{waiting_after}
use Rattle.cany_model.specs.Rules.Notices.{is_early_frame}
use Rattle.cany_model.specs.Rules.Turn.{scenario_for, turn_effects}
use Rattle.cany_model.proofs.Among.{Among-from_Contains, Contains-none, Each-of}
use Rattle.cany_model.proofs.Bus.Notes.{note_of-slot, sender_waits}
use Rattle.cany_model.proofs.Bus.Restarts.{after_restarts-trace, restarts_or_stays}
use Rattle.cany_model.proofs.Runs.Runs.{IsKept, IsOrderly, along_run, history-length, opening_within}
use Rattle.cany_model.proofs.Bus.Seen.{IsSeenPast, Numbered, hidden_why, history-is, seen_past_of}
use Rattle.cany_model.proofs.Rules.Site.NoEarlyVectors.{HearsNoEarly, carries_frame, hears_no_early_of}
use Rattle.cany_model.proofs.Bus.States.{node_at-opening, note_at, runs_within}
use Rattle.cany_model.proofs.Runs.Steps.{MayTurn, after_slot-present, after_slot-trace, after_slot-waiting, after_turn-history, after_turn-node, after_turn-present, after_turn-trace, kept_at, next_notice, running_before_slot, each_turned, Each-kept}
use Rattle.cany_model.proofs.Rules.Waits.{AsksOnly, Each-after}
use Rattle.cany_model.proofs.Rules.Site.FirstCycle.{asks_late}
use Rattle.cany_model.proofs.Rules.MutedFacts.{does_nothing}
use Rattle.cany_model.proofs.Rules.TurnFacts.{turn_only}

-- the frame carries no vector of a cycle before the first of the incarnation
abbrev pub IsTimely : Incarnation → FrameParts → Type 0
IsTimely inc f = is_early_frame inc.cycle f ≡ false

pub record WaitsForOwnSlots (trace : List SlotNote) (node : NodeState) : Type 0 where
  pub quiet : 0 < node.present.number → length trace < node.present.from → node.waiting ≡ []
  pub timely : 0 < node.present.number → AllByRecursion (IsTimely node.present) node.waiting

abbrev pub AllWaitForOwnSlots : RunState → Type 0
AllWaitForOwnSlots s = (i : ℕ) → runs (node_at s.nodes i) ≡ true → WaitsForOwnSlots s.trace (node_at s.nodes i)

pub own_slots_alone_opening : (nodes : ℕ) → AllWaitForOwnSlots (opening nodes)
own_slots_alone_opening nodes i running =
    rw (node_at-opening nodes i (opening_within nodes i running))
    (record { quiet = λ later. absurd (omega arith); timely = λ later. absurd (omega arith) })

-- ---- a slot

kept_none : (e : NoticeKind) → kept_at e [] ≡ []
kept_none Idle = refl
kept_none (Got f) = refl
kept_none (Sent f) = refl
kept_none Bad = refl

own_slots_alone_slot : (rules : FaultScript) (s : RunState) → AllWaitForOwnSlots s → AllWaitForOwnSlots (after_slot rules s)
own_slots_alone_slot rules s all i running =
    let ran = (running_before_slot rules s i running).0 in
    let h = all i ran in
    let after : NodeState = node_at (after_slot rules s).nodes i in
    let same : after.present ≡ (node_at s.nodes i).present = after_slot-present rules s i (runs_within s.nodes i ran) in
    let before : 0 < after.present.number → 0 < (node_at s.nodes i).present.number =
    λ later. omega (arith, later, ap (λ (inc : Incarnation). inc.number) same) in
    record {
      quiet = λ later early.
          after_slot-waiting rules s i ran
          ∙ ap (kept_at (given i (slot_note_of rules s))) (h.quiet (before later)
          (omega (arith, early, ap (λ (inc : Incarnation). inc.from) same, ap length (after_slot-trace rules s))))
          ∙ kept_none (given i (slot_note_of rules s));
      timely = λ later.
          let node = node_at s.nodes i in
          let e = given i (slot_note_of rules s) in
          rw (after_slot-waiting rules s i ran)
          (subst (λ (inc : Incarnation). AllByRecursion (IsTimely inc) (kept_at e node.waiting)) (sym same)
          (Each-kept (IsTimely node.present) e node.waiting (h.timely (before later))));
    }

own_slots_alone_restarts : (scenario : ScenarioParts) (s : RunState) → AllWaitForOwnSlots s → AllWaitForOwnSlots (after_restarts scenario s)
own_slots_alone_restarts scenario s all i running =
    subst (λ trace. WaitsForOwnSlots trace (node_at (after_restarts scenario s).nodes i)) (sym (after_restarts-trace scenario s))
    (elim (restarts_or_stays scenario s i) [
      | inl new ↦ rw new.is (record { quiet = λ later early. refl; timely = λ later. tt })
      | inr same ↦ rw same (all i (sym (ap (λ node. runs node) same) ∙ running))
    ])

-- ---- a turn

numbered_notes : (trace : List SlotNote) → ((age : ℕ) → age < length trace → (note_at trace age).slot ≡ length trace - 1 - age) → Numbered trace
numbered_notes [] h = tt
numbered_notes (note ∷ trace) h = (
  let first = h 0 (omega arith) in omega (arith, first),
  numbered_notes trace (λ age below. let next = h (suc age) (omega (arith, below)) in omega (arith, next)),
)

-- the notes of a run say which slot they are of
pub run_numbered : (nodes : ℕ) (s : RunState) → IsOrderly nodes s → Numbered s.trace
run_numbered nodes s o = numbered_notes s.trace o.numbered

-- what a node has read, its incarnation has seen
pub history-seen : (nodes : ℕ) (s : RunState) → IsOrderly nodes s → (i : ℕ) → IsSeenPast (node_at s.nodes i).present (history i s)
history-seen nodes s o i =
    let node = node_at s.nodes i in
    subst (IsSeenPast node.present) (sym (history-is i s)) (seen_past_of i node.unread node.present s.trace (run_numbered nodes s o))

after_turn-seen : (scenario : ScenarioParts) (nodes i : ℕ) (s : RunState) → MayTurn s i → IsOrderly nodes s
    → IsSeenPast (node_at s.nodes i).present (next_notice s i ∷ history i s)
after_turn-seen scenario nodes i s may o =
    let t : RunState = after_turn scenario i s in
    let node : NodeState = node_at t.nodes i in
    let numbered : Numbered t.trace = subst Numbered (sym (after_turn-trace scenario i s)) (run_numbered nodes s o) in
    subst (λ past. IsSeenPast (node_at s.nodes i).present past) (after_turn-history scenario i s may (o.unread i))
    (subst (λ (inc : Incarnation). IsSeenPast inc (history i t)) (after_turn-present scenario i s i may (o.unread i))
    (subst (IsSeenPast node.present) (sym (history-is i t)) (seen_past_of i node.unread node.present t.trace numbered)))

-- a restarted node is at first no member
pub members_later : (scenario : ScenarioParts) (inc : Incarnation) → 0 < inc.number → (scenario_for scenario inc).members ≡ nobody
members_later scenario inc later = rw (ne_eqb inc.number 0 (λ e. omega (arith, e, later))) refl

-- and follows the scenario from its first slot on
pub from_later : (scenario : ScenarioParts) (inc : Incarnation) → 0 < inc.number → (scenario_for scenario inc).from ≡ inc.from
from_later scenario inc later = rw (ne_eqb inc.number 0 (λ e. omega (arith, e, later))) refl

after_turn-hears : (scenario : ScenarioParts) (nodes i : ℕ) (s : RunState) → MayTurn s i → IsOrderly nodes s
    → HearsNoEarly (node_at s.nodes i).present (next_notice s i ∷ history i s)
after_turn-hears scenario nodes i s may o =
    let t : RunState = after_turn scenario i s in
    let node : NodeState = node_at t.nodes i in
    subst (HearsNoEarly (node_at s.nodes i).present) (after_turn-history scenario i s may (o.unread i))
    (subst (λ (inc : Incarnation). HearsNoEarly inc (history i t)) (after_turn-present scenario i s i may (o.unread i))
    (subst (HearsNoEarly node.present) (sym (history-is i t)) (hears_no_early_of i node.unread node.present t.trace)))

own_slots_alone_turn : (scenario : ScenarioParts) (i : ℕ) (s : RunState) → MayTurn s i → IsOrderly scenario.params.nodes s → AllWaitForOwnSlots s
    → WaitsForOwnSlots s.trace (node_at (after_turn scenario i s).nodes i)
unfolding waiting_after
own_slots_alone_turn scenario i s may_turn o all =
    let node = node_at s.nodes i in
    let h = all i may_turn.running in
    rw (after_turn-node scenario i s may_turn (o.unread i)) (record {
      quiet = λ later early.
          ap (λ effects. waiting_after effects node.waiting)
          (nothing later (omega (arith, early, history-length i s)))
          ∙ h.quiet later early;
      timely = λ later.
          Each-after (IsTimely inc) (turn_effects sc i (next_notice s i ∷ history i s)) node.waiting (asks later) (h.timely later);
    })
  where
    inc : Incarnation
    inc = (node_at s.nodes i).present

    sc : ScenarioParts
    sc = scenario_for scenario inc

    nothing : 0 < inc.number → length (history i s) < inc.from → turn_effects sc i (next_notice s i ∷ history i s) ≡ []
    nothing later early =
        does_nothing inc sc (from_later scenario inc later) (members_later scenario inc later) i (next_notice s i) (history i s)
        later (after_turn-seen scenario scenario.params.nodes i s may_turn o) early

    asks : 0 < inc.number → AllByRecursion (AsksOnly (IsTimely inc)) (turn_effects sc i (next_notice s i ∷ history i s))
    asks later =
        turn_only (IsTimely inc) sc i (next_notice s i ∷ history i s)
        (λ f may. asks_late sc inc.cycle i (next_notice s i ∷ history i s) f (members_later scenario inc later)
        (after_turn-hears scenario scenario.params.nodes i s may_turn o later) may)

pub own_slots_alone_turns : (scenario : ScenarioParts) (i : ℕ) (s : RunState) → MayTurn s i → IsOrderly scenario.params.nodes s → AllWaitForOwnSlots s
    → AllWaitForOwnSlots (after_turn scenario i s)
own_slots_alone_turns scenario i s may o all =
    each_turned scenario i s may (o.unread i) (λ trace j node. WaitsForOwnSlots trace node) (own_slots_alone_turn scenario i s may o all) all

-- ---- every run

-- each done step keeps that the running nodes wait for own slots alone
pub own_slots_alone_steps : (scenario : ScenarioParts) → IsKept scenario AllWaitForOwnSlots
own_slots_alone_steps scenario = record {
  slot = λ s o may all. own_slots_alone_slot (script scenario.rules) s all;
  restarts = λ s o some all. own_slots_alone_restarts scenario s all;
  turn = λ s i o may all. own_slots_alone_turns scenario i s may o all;
}

-- so they do in every run
pub own_slots_alone_run : (scenario : ScenarioParts) (journal : List Step) → AllWaitForOwnSlots (run scenario journal)
own_slots_alone_run scenario =
    along_run scenario AllWaitForOwnSlots (own_slots_alone_opening scenario.params.nodes) (own_slots_alone_steps scenario)

-- what a done step keeps, where each running node waits for own slots alone
pub record IsKeptWithOwnSlots (scenario : ScenarioParts) (P : RunState → Type 0) : Type 0 where
  pub slot : (s : RunState) → IsOrderly scenario.params.nodes s → AllWaitForOwnSlots s → P s → P (after_slot (script scenario.rules) s)
  pub restarts : (s : RunState) → IsOrderly scenario.params.nodes s → 0 < length s.trace → P s → P (after_restarts scenario s)
  pub turn : (s : RunState) (i : ℕ) → IsOrderly scenario.params.nodes s → MayTurn s i → P s → P (after_turn scenario i s)

pub own_slots_alone_kept : (scenario : ScenarioParts) (P : RunState → Type 0) → IsKeptWithOwnSlots scenario P
    → IsKept scenario (λ s. AllWaitForOwnSlots s × P s)
own_slots_alone_kept scenario P keeps = record {
  slot = λ s o may h. (own_slots_alone_slot (script scenario.rules) s h.0, keeps.slot s o h.0 h.1);
  restarts = λ s o some h. (own_slots_alone_restarts scenario s h.0, keeps.restarts s o some h.1);
  turn = λ s i o may h. (own_slots_alone_turns scenario i s may o h.0, keeps.turn s i o may h.1);
}

-- what a running node sends, its incarnation sees
pub sent_plain : (rules : FaultScript) (s : RunState) (i : ℕ) → WaitsForOwnSlots s.trace (node_at s.nodes i) → (f : FrameParts)
    → (slot_note_of rules s).frame ≡ Some f → has (slot_note_of rules s).senders i ≡ true
    → is_hidden (node_at s.nodes i).present (slot_note_of rules s) ≡ false
sent_plain rules s i own_slots_alone f frame sent =
    let inc = (node_at s.nodes i).present in
    let note = slot_note_of rules s in
    let there = (sender_waits rules s f i frame sent).1 in
    false_from_ne_true (is_hidden inc note) (λ h.
    let why = hidden_why inc note h in
    elim why.1 [
      | inl early ↦
          Contains-none f (subst (λ w. Contains w f) (own_slots_alone.quiet why.0 (omega (arith, early, note_of-slot rules s))) there)
      | inr vector ↦
          let waiting = (node_at s.nodes i).waiting in
          let timely = Each-of (IsTimely inc) f waiting (own_slots_alone.timely why.0) (Among-from_Contains waiting f there) in
          both_ways (carries_early inc.cycle note) (carries_frame inc.cycle note f frame ∙ timely) vector
    ])
