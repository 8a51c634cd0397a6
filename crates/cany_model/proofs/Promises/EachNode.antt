-- How a fact about each running node is proved of every run: of a node that begins, at the opening
-- or by a restart; of what a slot makes of a node; and of what a turn makes of it. It speaks of the
-- trace as the node's incarnation sees it.
use Rattle.std.proofs.Common.{◌≡◌, ℕ, ◌+◌, ◌-◌, ◌<◌, ◌≤◌, ◌⊎◌, inl, inr, true, List, [], ◌∷◌, Some, None, map, drop, length, refl, ap, sym, ◌∙◌, subst, add-one, arith}
use Rattle.std.specs.List.{AllByRecursion}
use Rattle.std.proofs.lemmas.Bool.{both_ways, cases_Bool}
use Rattle.std.proofs.lemmas.List.{length-map}
use Rattle.cany_base.specs.declared.notice.NoticeKind.{NoticeKind}
use Rattle.cany_base.specs.declared.notice.NoticeKind.TheVariants.{Idle, Got, Sent, Bad}
use Rattle.cany_base.specs.declared.slot_note.SlotNote.{SlotNote}
use Rattle.cany_base.specs.declared.step.Step.{Step}
use Rattle.cany_base.specs.Frame.{FrameParts}
use Rattle.cany_base.specs.Nodes.{has}
use Rattle.cany_base.specs.Scenario.{ScenarioParts}
use Rattle.cany_model.specs.Bus.Frames.{identity_of}
use Rattle.cany_model.specs.Bus.History.{as_seen, given, is_hidden, seen}
use Rattle.cany_model.specs.Bus.Restart.{after_restarts, restarted}
use Rattle.cany_model.specs.Runs.Run.{after_turn, run}
use Rattle.cany_model.specs.Bus.Slot.{FaultScript, after_slot, is_success, lets_accept, script, slot_note_of}
use Rattle.cany_model.specs.Bus.State.{Incarnation, NodeState, RunState, node_at, opening, runs, slots_run}
use Rattle.cany_model.specs.Bus.Waiting.{without}
use Rattle.cany_model.specs.Rules.Effect.{waiting_after}
use Rattle.cany_model.specs.Rules.Turn.{scenario_for, turn_effects}
use Rattle.cany_model.proofs.Bus.Notes.{given-Got, given-Sent, given_sender, given_taker, running_takes, sender_waits, taker_accepts, waits_with-from_Contains}
use Rattle.cany_model.proofs.Bus.Restarts.{Restarts, after_restarts-trace, restarts_or_stays}
use Rattle.cany_model.proofs.Runs.Runs.{IsKept, IsOrderly, along_run, opening_within}
use Rattle.cany_model.proofs.Bus.Seen.{Numbered, early_hidden, history-is, length-seen, seen_hidden, seen_idle, seen_one, seen_past, seen_plain}
use Rattle.cany_model.proofs.Bus.States.{node_at-opening, runs_within}
use Rattle.cany_model.proofs.Runs.Steps.{MayTurn, after_slot-present, after_slot-trace, after_slot-unread, after_slot-waiting, after_turn-history, after_turn-node, after_turn-present, after_turn-trace, each_turned, kept_at, next_notice, running_before_slot, Each-kept}
use Rattle.cany_model.proofs.Rules.Waits.{Each-after, waits-from_with}
use Rattle.cany_model.proofs.Promises.Diffusion.{Heard, Lived, Turned, past_of}
use Rattle.cany_model.proofs.Promises.OwnSlotsAlone.{AllWaitForOwnSlots, WaitsForOwnSlots, own_slots_alone_opening, own_slots_alone_kept, from_later, members_later, run_numbered, sent_plain}
use Rattle.cany_model.proofs.Rules.IdleBeforeTakingPart.{IsBegun, begun_first}
use Rattle.cany_model.proofs.Rules.MutedFacts.{begun_later}
use Rattle.cany_model.proofs.Rules.ProtocolFacts.{MayAsk}
use Rattle.cany_model.proofs.Rules.TurnFacts.{turn_only}

-- ---- a slot

kept_cases : (notice : NoticeKind) (w v : List FrameParts) → v ≡ kept_at notice w → (v ≡ w) ⊎ ((f : FrameParts) × (notice ≡ Sent f) × (v ≡ without (identity_of f) w))
kept_cases Idle w v e = inl e
kept_cases (Got f) w v e = inl e
kept_cases (Sent f) w v e = inr (f, refl, e)
kept_cases Bad w v e = inl e

slot_heard : (rules : FaultScript) (s : RunState) (i : ℕ) → runs (node_at s.nodes i) ≡ true → Heard i (slot_note_of rules s)
slot_heard rules s i running = record {
  accepts = λ f got.
      let parts = given-Got i (slot_note_of rules s) f got in
      (taker_accepts rules s f i parts.0 parts.2).1;
  clean = λ few f frame clean. elim (cases_Bool (has (slot_note_of rules s).senders i)) [
    | inl sent ↦ inr (given_sender i (slot_note_of rules s) f frame sent (ap is_success clean))
    | inr silent ↦ inl (given_taker i (slot_note_of rules s) f frame silent (running_takes rules s f i few frame running silent (ap (λ v. lets_accept v i) clean)))
  ];
}

pub blank_heard : (i : ℕ) (note : SlotNote) → note.frame ≡ None → Heard i note
blank_heard i note none = record {
  accepts = λ f got. let e : note.frame ≡ Some f = (given-Got i note f got).0 in absurd (cc);
  clean = λ few f frame clean. absurd (cc);
}

-- a running node has heard what its incarnation sees
seen_heard : (rules : FaultScript) (s : RunState) (i : ℕ) → runs (node_at s.nodes i) ≡ true → (inc : Incarnation) → Heard i (as_seen inc (slot_note_of rules s))
seen_heard rules s i running inc = elim (cases_Bool (is_hidden inc (slot_note_of rules s))) [
  | inl hidden ↦ blank_heard i (as_seen inc (slot_note_of rules s)) (seen_hidden inc (slot_note_of rules s) hidden)
  | inr plain ↦ subst (Heard i) (sym (seen_plain inc (slot_note_of rules s) plain)) (slot_heard rules s i running)
]

-- what waits after a slot, told by what the incarnation sees of it
seen_waiting : (rules : FaultScript) (s : RunState) (i : ℕ) → WaitsForOwnSlots s.trace (node_at s.nodes i) → runs (node_at s.nodes i) ≡ true
    → (node_at (after_slot rules s).nodes i).waiting ≡ kept_at (given i (as_seen (node_at s.nodes i).present (slot_note_of rules s))) (node_at s.nodes i).waiting
seen_waiting rules s i own_slots_alone ran = after_slot-waiting rules s i ran ∙ elim (cases_Bool (is_hidden inc note)) [
  | inl hidden ↦ unsent (given i note) refl hidden ∙ sym (ap (λ e. kept_at e w) (seen_idle i inc note hidden))
  | inr plain ↦ sym (ap (λ n. kept_at (given i n) w) (seen_plain inc note plain))
]
  where
    inc : Incarnation
    inc = (node_at s.nodes i).present

    note : SlotNote
    note = slot_note_of rules s

    w : List FrameParts
    w = (node_at s.nodes i).waiting

    unsent : (e : NoticeKind) → given i note ≡ e → is_hidden inc note ≡ true → kept_at e w ≡ w
    unsent Idle h hidden = refl
    unsent Bad h hidden = refl
    unsent (Got f) h hidden = refl
    unsent (Sent f) h hidden =
        let parts = given-Sent i note f h in
        absurd (both_ways (is_hidden inc note) (sent_plain rules s i own_slots_alone f parts.0 parts.1) hidden)

slot_past : (i : ℕ) (note : SlotNote) (trace : List SlotNote) (n k : ℕ) → n ≡ k + 1 → map (given i) (drop n (note ∷ trace)) ≡ map (given i) (drop k trace)
slot_past i note trace n k e = ap (λ u. map (given i) (drop u (note ∷ trace))) (e ∙ add-one k)

pub slot_lived : (rules : FaultScript) (s : RunState) (i : ℕ) → WaitsForOwnSlots s.trace (node_at s.nodes i) → runs (node_at s.nodes i) ≡ true
    → let inc = (node_at s.nodes i).present in
    Lived (as_seen inc (slot_note_of rules s)) (seen inc s.trace) i (node_at s.nodes i) (node_at (after_slot rules s).nodes i)
slot_lived rules s i own_slots_alone ran =
    let inc = (node_at s.nodes i).present in
    let note = slot_note_of rules s in
    record {
      past = slot_past i (as_seen inc note) (seen inc s.trace) (node_at (after_slot rules s).nodes i).unread (node_at s.nodes i).unread
          (after_slot-unread rules s i (runs_within s.nodes i ran));
      kept = seen_waiting rules s i own_slots_alone ran;
      waiting = kept_cases (given i (as_seen inc note)) (node_at s.nodes i).waiting (node_at (after_slot rules s).nodes i).waiting (seen_waiting rules s i own_slots_alone ran);
      heard = seen_heard rules s i ran inc;
      sender = λ f frame sent.
          let one = seen_one (λ n. (n.frame ≡ Some f) × (has n.senders i ≡ true)) (λ n none p. absurd_none n f none p.0) inc note (frame, sent) in
          waits-from_with f (node_at s.nodes i).waiting (waits_with-from_Contains f (node_at s.nodes i).waiting (sender_waits rules s f i one.1.0 one.1.1).1);
      sends = λ f sent.
          let parts = given-Sent i (as_seen inc note) f sent in
          let one = seen_one (λ n. (n.frame ≡ Some f) × (has n.senders i ≡ true)) (λ n none p. absurd_none n f none p.0) inc note (parts.0, parts.1) in
          (sender_waits rules s f i one.1.0 one.1.1).1;
    }
  where
    absurd_none : (n : SlotNote) (f : FrameParts) → n.frame ≡ None → n.frame ≡ Some f → ⊥
    absurd_none n f a b = cc

-- ---- a turn

pub turn_turned : (scenario : ScenarioParts) (i : ℕ) (s : RunState) → MayTurn s i → (node_at s.nodes i).unread ≤ length s.trace
    → let inc = (node_at s.nodes i).present in
    Turned (turn_effects (scenario_for scenario inc)) (seen inc s.trace) i (node_at s.nodes i) (node_at (after_turn scenario i s).nodes i)
turn_turned scenario i s may short =
    let inc = (node_at s.nodes i).present in
    let t : RunState = after_turn scenario i s in
    let past : past_of i (seen inc s.trace) (node_at t.nodes i) ≡ next_notice s i ∷ past_of i (seen inc s.trace) (node_at s.nodes i) =
    ap (λ (n : Incarnation). past_of i (seen n s.trace) (node_at t.nodes i)) (sym (after_turn-present scenario i s i may short))
    ∙ ap (λ trace. past_of i (seen (node_at t.nodes i).present trace) (node_at t.nodes i)) (sym (after_turn-trace scenario i s))
    ∙ sym (history-is i t) ∙ after_turn-history scenario i s may short ∙ ap (λ h. next_notice s i ∷ h) (history-is i s) in
    record {
      notice = next_notice s i;
      past = past;
      waiting = ap (λ (node : NodeState). node.waiting) (after_turn-node scenario i s may short)
          ∙ ap (λ h. waits h) (ap (λ h. next_notice s i ∷ h) (history-is i s) ∙ sym past);
    }
  where
    waits : List NoticeKind → List FrameParts
    waits h = waiting_after (turn_effects (scenario_for scenario (node_at s.nodes i).present) i h) (node_at s.nodes i).waiting

-- ---- a node that begins

-- nothing waits, and its incarnation sees only idle slots
pub record IsNew (scenario : ScenarioParts) (trace : List SlotNote) (i : ℕ) (node : NodeState) : Type 0 where
  pub waiting : node.waiting ≡ []
  pub blank : AllByRecursion (λ note. note.frame ≡ None) trace
  pub past : IsBegun (scenario_for scenario node.present) (past_of i trace node)

-- a fact about each running node, by what its incarnation sees
abbrev pub EachRunning : (List SlotNote → ℕ → NodeState → Type 0) → RunState → Type 0
EachRunning P s = (i : ℕ) → runs (node_at s.nodes i) ≡ true → P (seen (node_at s.nodes i).present s.trace) i (node_at s.nodes i)

all_blank : (inc : Incarnation) (trace : List SlotNote) → Numbered trace → 0 < inc.number → length trace ≤ inc.from
    → AllByRecursion (λ note. note.frame ≡ None) (seen inc trace)
all_blank inc [] h later short = tt
all_blank inc (note ∷ trace) h later short =
    (seen_hidden inc note (early_hidden inc note later (omega (arith, h.0, short))), all_blank inc trace h.1 later (omega (arith, short)))

pub opening_new : (scenario : ScenarioParts) → EachRunning (IsNew scenario) (opening scenario.params.nodes)
opening_new scenario i running =
    rw (node_at-opening scenario.params.nodes i (opening_within scenario.params.nodes i running))
    (record { waiting = refl; blank = tt; past = begun_first scenario })

-- an incarnation that begins once these slots ran, all before its first one
incarnation_new : (scenario : ScenarioParts) (trace : List SlotNote) (i : ℕ) (node : NodeState) → Numbered trace → 0 < node.present.number
    → length trace ≤ node.present.from → node.waiting ≡ [] → node.unread ≡ 0 → IsNew scenario (seen node.present trace) i node
incarnation_new scenario trace i node numbered later short waiting unread =
    let inc = node.present in
    let past : past_of i (seen inc trace) node ≡ map (given i) (seen inc trace) = ap (λ n. map (given i) (drop n (seen inc trace))) unread in
    let length_past : length (map (given i) (seen inc trace)) ≡ length trace = length-map (seen inc trace) (given i) ∙ length-seen inc trace in
    record {
      waiting = waiting;
      blank = all_blank inc trace numbered later short;
      past = rw past (begun_later inc (scenario_for scenario inc) (from_later scenario inc later) (members_later scenario inc later) (map (given i) (seen inc trace)) later
          (seen_past i inc trace numbered) (omega (arith, short, length_past)));
    }

pub restarted_new : (scenario : ScenarioParts) (s : RunState) (i : ℕ) → IsOrderly scenario.params.nodes s → 0 < length s.trace → Restarts scenario s i
    → IsNew scenario (seen (node_at (after_restarts scenario s).nodes i).present s.trace) i (node_at (after_restarts scenario s).nodes i)
restarted_new scenario s i o some new =
    let node : NodeState = restarted scenario.params (slots_run s - 1) (node_at s.nodes i) in
    subst (λ (n : NodeState). IsNew scenario (seen n.present s.trace) i n) (sym new.is)
    (incarnation_new scenario s.trace i node (run_numbered scenario.params.nodes s o) (omega arith) (omega (arith, some)) refl refl)

-- ---- every run

-- what is shown of a node: that it holds of a new one, and is kept by a slot and by a turn
pub record IsNodes (scenario : ScenarioParts) (P : List SlotNote → ℕ → NodeState → Type 0) : Type 0 where
  pub new : (trace : List SlotNote) (i : ℕ) (node : NodeState) → IsNew scenario trace i node → P trace i node
  pub slot : (note : SlotNote) (trace : List SlotNote) (i : ℕ) (node after : NodeState) → after.present ≡ node.present → Lived note trace i node after
      → P trace i node → P (note ∷ trace) i after
  pub turn : (trace : List SlotNote) (i : ℕ) (node after : NodeState) → after.present ≡ node.present
      → Turned (turn_effects (scenario_for scenario node.present)) trace i node after → P trace i node → P trace i after

-- what holds of each node that ran, with the slot that it has lived, holds of each that runs after
-- the slot
pub each_slot : (P : List SlotNote → ℕ → NodeState → Type 0) (rules : FaultScript) (s : RunState)
    → ((i : ℕ) → runs (node_at s.nodes i) ≡ true → (node_at (after_slot rules s).nodes i).present ≡ (node_at s.nodes i).present
    → P (seen (node_at s.nodes i).present (slot_note_of rules s ∷ s.trace)) i (node_at (after_slot rules s).nodes i))
    → EachRunning P (after_slot rules s)
each_slot P rules s each i running =
    let ran = (running_before_slot rules s i running).0 in
    let after : NodeState = node_at (after_slot rules s).nodes i in
    let same : after.present ≡ (node_at s.nodes i).present = after_slot-present rules s i (runs_within s.nodes i ran) in
    subst (λ t. P (seen after.present t) i after) (sym (after_slot-trace rules s))
    (subst (λ (k : Incarnation). P (seen k (slot_note_of rules s ∷ s.trace)) i after) (sym same) (each i ran same))

nodes_slot : (scenario : ScenarioParts) (P : List SlotNote → ℕ → NodeState → Type 0) → IsNodes scenario P → (rules : FaultScript) (s : RunState) → AllWaitForOwnSlots s
    → EachRunning P s → EachRunning P (after_slot rules s)
nodes_slot scenario P is rules s own_slots_alone all =
    each_slot P rules s (λ i ran same.
    is.slot (as_seen (node_at s.nodes i).present (slot_note_of rules s)) (seen (node_at s.nodes i).present s.trace) i (node_at s.nodes i)
    (node_at (after_slot rules s).nodes i) same (slot_lived rules s i (own_slots_alone i ran) ran) (all i ran))

-- what holds of each new node and of each that runs holds after the restarts of a slot
pub each_restarts : (scenario : ScenarioParts) (P : List SlotNote → ℕ → NodeState → Type 0)
    → ((trace : List SlotNote) (i : ℕ) (node : NodeState) → IsNew scenario trace i node → P trace i node) → (s : RunState)
    → IsOrderly scenario.params.nodes s → 0 < length s.trace → EachRunning P s → EachRunning P (after_restarts scenario s)
each_restarts scenario P is_new s o some all i running =
    let after : NodeState = node_at (after_restarts scenario s).nodes i in
    subst (λ t. P (seen after.present t) i after) (sym (after_restarts-trace scenario s)) (elim (restarts_or_stays scenario s i) [
      | inl new ↦ is_new (seen after.present s.trace) i after (restarted_new scenario s i o some new)
      | inr same ↦ rw same (all i (sym (ap (λ node. runs node) same) ∙ running))
    ])

-- what holds of the node that took the turn, by what its incarnation saw before it, and held of
-- each that ran, holds of each that runs after it
pub each_turn : (scenario : ScenarioParts) (P : List SlotNote → ℕ → NodeState → Type 0) (s : RunState) (i : ℕ) → MayTurn s i
    → (node_at s.nodes i).unread ≤ length s.trace
    → P (seen (node_at s.nodes i).present s.trace) i (node_at (after_turn scenario i s).nodes i)
    → EachRunning P s → EachRunning P (after_turn scenario i s)
each_turn scenario P s i may short own all =
    let after : NodeState = node_at (after_turn scenario i s).nodes i in
    each_turned scenario i s may short (λ trace j node. P (seen node.present trace) j node)
    (subst (λ (inc : Incarnation). P (seen inc s.trace) i after) (sym (after_turn-present scenario i s i may short)) own) all

nodes_turn : (scenario : ScenarioParts) (P : List SlotNote → ℕ → NodeState → Type 0) → IsNodes scenario P → (s : RunState) (i : ℕ) → MayTurn s i
    → (node_at s.nodes i).unread ≤ length s.trace → EachRunning P s → EachRunning P (after_turn scenario i s)
nodes_turn scenario P is s i may short all =
    each_turn scenario P s i may short
    (is.turn (seen (node_at s.nodes i).present s.trace) i (node_at s.nodes i) (node_at (after_turn scenario i s).nodes i)
    (after_turn-present scenario i s i may short) (turn_turned scenario i s may short) (all i may.running)) all

-- what holds of a node that begins, and is kept by its slots and its turns, is kept of each running
-- node by each step
pub nodes_kept : (scenario : ScenarioParts) (P : List SlotNote → ℕ → NodeState → Type 0) → IsNodes scenario P
    → IsKept scenario (λ s. AllWaitForOwnSlots s × EachRunning P s)
nodes_kept scenario P is = own_slots_alone_kept scenario (EachRunning P) (record {
  slot = λ s o own_slots_alone all. nodes_slot scenario P is (script scenario.rules) s own_slots_alone all;
  restarts = λ s o some all. each_restarts scenario P is.new s o some all;
  turn = λ s i o may all. nodes_turn scenario P is s i may (o.unread i) all;
})

pub nodes_at_first : (scenario : ScenarioParts) (P : List SlotNote → ℕ → NodeState → Type 0) → IsNodes scenario P
    → AllWaitForOwnSlots (opening scenario.params.nodes) × EachRunning P (opening scenario.params.nodes)
nodes_at_first scenario P is = (own_slots_alone_opening scenario.params.nodes, λ i running. is.new _ i _ (opening_new scenario i running))

-- so it holds of each running node of every run
pub each_running : (scenario : ScenarioParts) (P : List SlotNote → ℕ → NodeState → Type 0) → IsNodes scenario P → (journal : List Step)
    → EachRunning P (run scenario journal)
each_running scenario P is journal =
    (along_run scenario (λ s. AllWaitForOwnSlots s × EachRunning P s) (nodes_at_first scenario P is) (nodes_kept scenario P is) journal).1

-- ---- the frames that wait

-- what each frame has that a node may ask for, each has that waits at the node
pub waiting_has : (scenario : ScenarioParts) (W : Incarnation → ℕ → FrameParts → Type 0)
    → ((inc : Incarnation) (i : ℕ) (past : List NoticeKind) (f : FrameParts) → MayAsk (scenario_for scenario inc) i past f → W inc i f)
    → IsNodes scenario (λ trace i node. AllByRecursion (W node.present i) node.waiting)
waiting_has scenario W asked = record {
  new = λ trace i node new. rw new.waiting tt;
  slot = λ note trace i node after same l h.
      rw (same, l.kept) (Each-kept (W node.present i) (given i note) node.waiting h);
  turn = λ trace i node after same t h.
      let sc : ScenarioParts = scenario_for scenario node.present in
      rw (same, t.waiting)
      (Each-after (W node.present i) (turn_effects sc i (past_of i trace after)) node.waiting
      (turn_only (W node.present i) sc i (past_of i trace after) (asked node.present i (past_of i trace after))) h);
}
