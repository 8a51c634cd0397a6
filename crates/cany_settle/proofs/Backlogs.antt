-- What is kept of the backlog of each running node: a message that was asked for waits or was sent,
-- what waits or was sent was asked for, and the newest turn asked for none that was sent before.
use Rattle.std.proofs.Common.{◌≡◌, ℕ, zero, suc, ◌<◌, ◌≤◌, ◌⊎◌, inl, inr, true, List, [], ◌∷◌, length, Option, Some, None, refl, ap, sym, ◌∙◌, subst, arith}
use Rattle.std.specs.List.{AllByRecursion}
use Rattle.std.proofs.lemmas.Bool.{cases_lt, false≢true}
use Rattle.std.proofs.lemmas.List.Elements.{All-from_recursion, All-get_or}
use Rattle.cany_base.specs.declared.message.MsgKey.{MsgKey}
use Rattle.cany_base.specs.declared.notice.NoticeKind.{NoticeKind}
use Rattle.cany_base.specs.declared.slot_note.SlotNote.{SlotNote}
use Rattle.cany_base.specs.declared.step.Step.{Step}
use Rattle.cany_base.specs.Frame.{FrameParts}
use Rattle.cany_base.specs.Scenario.{ScenarioParts}
use Rattle.cany_model.specs.Bus.Frames.{Identity}
use Rattle.cany_model.specs.Bus.History.{given, has_own, is_sent}
use Rattle.cany_model.specs.Bus.State.{Incarnation, NodeState}
use Rattle.cany_model.specs.Bus.Waiting.{waits}
use Rattle.cany_model.specs.Rules.Backlog.{ask_for, asked, backlog, backlog_effects, next_after, one_more}
use Rattle.cany_model.specs.Rules.Effect.{Ask, waiting_after}
use Rattle.cany_model.specs.Rules.Messages.{Message, data_frame, data_id, message_key}
use Rattle.cany_model.specs.Rules.Totcan.{tot_of_key}
use Rattle.cany_model.specs.Rules.Turn.{scenario_for, turn_effects}
use Rattle.cany_model.specs.Runs.Run.{run}
use Rattle.cany_model.proofs.Bus.States.{note_at}
use Rattle.cany_model.proofs.Promises.Diffusion.{Lived, Turned, past_of}
use Rattle.cany_model.proofs.Promises.EachNode.{EachRunning, IsNew, each_running}
use Rattle.cany_model.proofs.Rules.Services.BacklogFacts.{HasJoined, asked-few, backlog_is_lawful, backlog_joined, next_joined}
use Rattle.cany_model.proofs.Rules.IdleBeforeTakingPart.{IsBegun}
use Rattle.cany_model.proofs.Runs.Steps.{kept_at}
use Rattle.cany_model.proofs.Timed.Common.Ages.{Sends, any_past, past}
use Rattle.cany_model.proofs.Timed.Common.LastEffect.{turn_waits, waits_by_last_effect, last_effect}
use Rattle.cany_model.proofs.Timed.Order.TotBacklog.{at_place, backlog_same, next_stands, planned_next, planned_on, planned_other, tot_id}
use Rattle.cany_model.proofs.Timed.Order.TotEffects.{asks_next, data_still, data_then, data_last_effect}
use Rattle.cany_model.proofs.Timed.Order.TotKept.{IsPlanned, no_message}
use Rattle.cany_model.proofs.Timed.Order.TotSlots.{sent_carried, waits_before, waits_of, waits_on}
use Rattle.cany_model.proofs.Bus.Carried.{is_sent-true}

-- the message that node i asks for in the turn of the newest notice
abbrev pub next_in : ScenarioParts → ℕ → NoticeKind → List NoticeKind → Option Message
next_in scenario i e before = next_after scenario.params (e ∷ before) (backlog scenario i (e ∷ before)) (asked scenario i before)

-- the newest turn asked for no message whose data frame was read as sent
abbrev pub AskedForUnsent : ScenarioParts → ℕ → List NoticeKind → Type 0
AskedForUnsent scenario i [] = Unit {0}
AskedForUnsent scenario i (e ∷ before) = (k : Message) → next_in scenario i e before ≡ Some k → has_own (data_id k) (e ∷ before) ≡ true → ⊥

-- node i waits with the frame, or a slot of the trace has it as sent
abbrev pub WaitsOrSent : ℕ → List SlotNote → List FrameParts → Identity → Type 0
WaitsOrSent i T W x = (waits x W ≡ true) ⊎ ((q : ℕ) × Sends i T q x)

-- the message at a place of the backlog
abbrev pub planned_at : ScenarioParts → ℕ → List NoticeKind → ℕ → MsgKey
planned_at scenario i past j = message_key (at_place (backlog scenario i past) j)

pub record BacklogKept (scenario : ScenarioParts) (i : ℕ) (T : List SlotNote) (past : List NoticeKind) (W : List FrameParts) : Type 0 where
  pub sent : (j : ℕ) → j < asked scenario i past → WaitsOrSent i T W (tot_of_key (planned_at scenario i past j))
  pub planned : (m : MsgKey) → WaitsOrSent i T W (tot_of_key m) → IsPlanned scenario i past m
  pub unsent : AskedForUnsent scenario i past

abbrev pub KeepsBacklog : ScenarioParts → List SlotNote → ℕ → NodeState → Type 0
KeepsBacklog scenario T i node = BacklogKept (scenario_for scenario node.present) i T (past_of i T node) node.waiting

-- ---- places

-- a message of a backlog is one of TOTCAN
pub place_id : (scenario : ScenarioParts) (i : ℕ) (past : List NoticeKind) (j : ℕ) → j < length (backlog scenario i past)
    → data_id (at_place (backlog scenario i past) j) ≡ tot_of_key (planned_at scenario i past j)
place_id scenario i past j below =
    let joined : HasJoined scenario i (length past) (at_place (backlog scenario i past) j) =
    All-get_or (HasJoined scenario i (length past)) (backlog scenario i past) j no_message below
    (All-from_recursion (HasJoined scenario i (length past)) (backlog scenario i past) (backlog_joined scenario i past)) in
    tot_id (at_place (backlog scenario i past) j) joined.tot

pub asked_is : (scenario : ScenarioParts) (i : ℕ) (e : NoticeKind) (before : List NoticeKind)
    → asked scenario i (e ∷ before) ≡ one_more (asked scenario i before) (next_in scenario i e before)
unfolding asked
asked_is scenario i e before = refl

-- ---- a node that begins

uncarried : (T : List SlotNote) → AllByRecursion (λ note. note.frame ≡ None) T → (i q : ℕ) (x : Identity) → Sends i T q x → ⊥
uncarried [] blank i q x h = false≢true (sent_carried x i (note_at [] q) h).0
uncarried (note ∷ T) blank i zero x h = false≢true (rw blank.0 at (sent_carried x i note h).0)
uncarried (note ∷ T) blank i (suc q) x h = uncarried T blank.1 i q x h

begun_backlog : (scenario : ScenarioParts) (i : ℕ) (past : List NoticeKind) → IsBegun scenario past → length (backlog scenario i past) ≡ 0
begun_backlog scenario i past begun = none (backlog scenario i past) (backlog_joined scenario i past)
  where
    none : (ms : List Message) → AllByRecursion (HasJoined scenario i (length past)) ms → length ms ≡ 0
    none [] h = refl
    none (m ∷ ms) h = absurd (omega (arith, h.0.read, h.0.late, begun.early))

pub begun_asked : (scenario : ScenarioParts) (i : ℕ) (past : List NoticeKind) → IsBegun scenario past
    → asked scenario i past ≡ length (backlog scenario i past)
begun_asked scenario i past begun = omega (arith, asked-few scenario i past, begun_backlog scenario i past begun)

begun_unsent : (scenario : ScenarioParts) (i : ℕ) (past : List NoticeKind) → IsBegun scenario past → AskedForUnsent scenario i past
unfolding backlog_effects
begun_unsent scenario i [] begun = tt
begun_unsent scenario i (e ∷ before) begun = λ k is own.
    let none : ask_for (next_in scenario i e before) ≡ [] = backlog_is_lawful.muted scenario i (e ∷ before) begun in
    never k (ap ask_for (sym is) ∙ none)
  where
    never : (k : Message) → Ask (data_frame k) ∷ [] ≡ [] → ⊥
    never k h = cc

new_keeps : (scenario : ScenarioParts) (T : List SlotNote) (i : ℕ) (node : NodeState) → IsNew scenario T i node → KeepsBacklog scenario T i node
new_keeps scenario T i node new =
    let sc : ScenarioParts = scenario_for scenario node.present in
    let read : List NoticeKind = past_of i T node in
    record {
      sent = λ j below. let few = asked-few sc i read in let none = begun_backlog sc i read new.past in absurd (omega (arith, below, few, none));
      planned = λ m h. elim h [
        | inl waiting ↦ absurd (false≢true (subst (λ w. waits (tot_of_key m) w ≡ true) new.waiting waiting))
        | inr sent ↦ absurd (uncarried T new.blank i sent.0 (tot_of_key m) sent.1)
      ];
      unsent = begun_unsent sc i read new.past;
    }

-- ---- a slot

on_slot : (note : SlotNote) (T : List SlotNote) (i : ℕ) (W V : List FrameParts) (x : Identity) → V ≡ kept_at (given i note) W
    → WaitsOrSent i T W x → WaitsOrSent i (note ∷ T) V x
on_slot note T i W V x kept (inl waiting) = elim (waits_on x (given i note) W waiting) [
  | inl still ↦ inl (rw kept still)
  | inr sent ↦ inr (0, sent)
]
on_slot note T i W V x kept (inr sent) = inr (suc sent.0, sent.1)

before_slot : (note : SlotNote) (T : List SlotNote) (i : ℕ) (node after : NodeState) (x : Identity) → Lived note T i node after
    → WaitsOrSent i (note ∷ T) after.waiting x → WaitsOrSent i T node.waiting x
before_slot note T i node after x l (inl waiting) = inl (waits_before x (given i note) node.waiting (rw l.kept at waiting)).0
before_slot note T i node after x l (inr (zero, sent)) =
    let g = is_sent-true x (given i note) sent in
    inl (waits_of x g.what node.waiting g.identity (l.sends g.what g.was))
before_slot note T i node after x l (inr (suc q, sent)) = inr (q, sent)

slot_keeps : (scenario : ScenarioParts) (note : SlotNote) (T : List SlotNote) (i : ℕ) (node after : NodeState) → Lived note T i node after
    → BacklogKept scenario i T (past_of i T node) node.waiting → BacklogKept scenario i (note ∷ T) (past_of i (note ∷ T) after) after.waiting
slot_keeps scenario note T i node after l h = rw l.past (record {
  sent = λ j below. on_slot note T i node.waiting after.waiting (tot_of_key (planned_at scenario i (past_of i T node) j)) l.kept (h.sent j below);
  planned = λ m k. h.planned m (before_slot note T i node after (tot_of_key m) l k);
  unsent = h.unsent;
})

-- ---- a turn

-- the message that is asked for waits
next_waits : (scenario : ScenarioParts) (i : ℕ) (e : NoticeKind) (before : List NoticeKind) (W : List FrameParts) (k : Message) (m : MsgKey)
    → next_in scenario i e before ≡ Some k → data_id k ≡ tot_of_key m
    → waits (tot_of_key m) (waiting_after (turn_effects scenario i (e ∷ before)) W) ≡ true
next_waits scenario i e before W k m is same =
    turn_waits (tot_of_key m) (turn_effects scenario i (e ∷ before)) W
    ∙ ap (λ w. waits_by_last_effect w (waits (tot_of_key m) W)) (data_last_effect m scenario i e before ∙ ap (λ o. last_effect (tot_of_key m) (ask_for o)) is)
    ∙ (elim (asks_next m (Some k)) [
      | inl no_effect ↦ absurd (no_effect.1 k refl same)
      | inr asks ↦ ap (λ w. waits_by_last_effect w (waits (tot_of_key m) W)) asks.3
    ])

module _ (scenario : ScenarioParts) (i : ℕ) (T : List SlotNote) (e : NoticeKind) (before : List NoticeKind) (W : List FrameParts)
    (h : BacklogKept scenario i T before W) where
  abbrev then : List FrameParts
  then = waiting_after (turn_effects scenario i (e ∷ before)) W

  on_turn : (m : MsgKey) → WaitsOrSent i T W (tot_of_key m) → WaitsOrSent i T then (tot_of_key m)
  on_turn m (inl waiting) = inl (data_still scenario i e before W m waiting)
  on_turn m (inr sent) = inr sent

  turn_sent : (o : Option Message) → next_in scenario i e before ≡ o → (j : ℕ) → j < one_more (asked scenario i before) o
      → WaitsOrSent i T then (tot_of_key (planned_at scenario i (e ∷ before) j))
  turn_sent o is j below = elim (cases_lt j (asked scenario i before)) [
    | inl older ↦
        let there = asked-few scenario i before in
        let same : planned_at scenario i (e ∷ before) j ≡ planned_at scenario i before j =
        ap message_key (backlog_same scenario i e before j (omega (arith, older, there))) in
        subst (λ m. WaitsOrSent i T then (tot_of_key m)) (sym same) (on_turn (planned_at scenario i before j) (h.sent j older))
    | inr newest ↦ by_next o is below newest
  ]
    where
      by_next : (o : Option Message) → next_in scenario i e before ≡ o → j < one_more (asked scenario i before) o → asked scenario i before ≤ j
          → WaitsOrSent i T then (tot_of_key (planned_at scenario i (e ∷ before) j))
      by_next None is below newest = absurd (omega (arith, below, newest))
      by_next (Some k) is below newest =
          let next = next_stands scenario i e before k is in
          let place : j ≡ asked scenario i before = omega (arith, below, newest) in
          let there = next.there in
          let named : at_place (backlog scenario i (e ∷ before)) j ≡ k = ap (at_place (backlog scenario i (e ∷ before))) place ∙ next.is in
          inl (next_waits scenario i e before W k (planned_at scenario i (e ∷ before) j) is
          (ap data_id (sym named) ∙ place_id scenario i (e ∷ before) j (omega (arith, place, there))))

  turn_planned : (m : MsgKey) → WaitsOrSent i T then (tot_of_key m) → IsPlanned scenario i (e ∷ before) m
  turn_planned m (inl waiting) = elim (data_then scenario i e before W m waiting) [
    | inl old ↦ planned_on scenario i e before m (h.planned m (inl old))
    | inr next ↦ planned_next scenario i e before m next.0 next.1 next.2
  ]
  turn_planned m (inr sent) = planned_on scenario i e before m (h.planned m (inr sent))

  turn_unsent : ((x : Identity) → has_own x (e ∷ before) ≡ true → (q : ℕ) × Sends i T q x) → AskedForUnsent scenario i (e ∷ before)
  turn_unsent reads k is own =
      let m : MsgKey = message_key k in
      let id : data_id k ≡ tot_of_key m = tot_id k (next_joined scenario i e before k is).tot in
      let sent = reads (tot_of_key m) (ap (λ x. has_own x (e ∷ before)) (sym id) ∙ own) in
      planned_other scenario i e before m k is (h.planned m (inr sent)) id

  turn_keeps : ((x : Identity) → has_own x (e ∷ before) ≡ true → (q : ℕ) × Sends i T q x) → BacklogKept scenario i T (e ∷ before) then
  turn_keeps reads = record {
    sent = λ j below. turn_sent (next_in scenario i e before) refl j (omega (arith, below, asked_is scenario i e before));
    planned = turn_planned;
    unsent = turn_unsent reads;
  }

read_sent : (i : ℕ) (T : List SlotNote) (u : ℕ) (x : Identity) → has_own x (past i T u) ≡ true → (q : ℕ) × Sends i T q x
unfolding has_own
read_sent i T u x own = let r = any_past (is_sent x) i u T own in (r.0, r.2)

node_turn_keeps : (scenario : ScenarioParts) (T : List SlotNote) (i : ℕ) (node after : NodeState) → Turned (turn_effects scenario) T i node after
    → BacklogKept scenario i T (past_of i T node) node.waiting → BacklogKept scenario i T (past_of i T after) after.waiting
node_turn_keeps scenario T i node after t h =
    let now : List NoticeKind = t.notice ∷ past_of i T node in
    let kept = turn_keeps scenario i T t.notice (past_of i T node) node.waiting h
    (λ x own. read_sent i T after.unread x (subst (λ (l : List NoticeKind). has_own x l ≡ true) (sym t.past) own)) in
    let waiting : after.waiting ≡ waiting_after (turn_effects scenario i now) node.waiting =
    t.waiting ∙ ap (λ l. waiting_after (turn_effects scenario i l) node.waiting) t.past in
    rw (t.past, waiting) kept

-- ---- every run

pub backlogs_kept : (scenario : ScenarioParts) (journal : List Step) → EachRunning (KeepsBacklog scenario) (run scenario journal)
backlogs_kept scenario journal =
    each_running scenario (KeepsBacklog scenario) (record {
      new = λ T i node new. new_keeps scenario T i node new;
      slot = λ note T i node after same l h.
          subst (λ (inc : Incarnation). BacklogKept (scenario_for scenario inc) i (note ∷ T) (past_of i (note ∷ T) after) after.waiting) (sym same)
          (slot_keeps (scenario_for scenario node.present) note T i node after l h);
      turn = λ T i node after same t h.
          subst (λ (inc : Incarnation). BacklogKept (scenario_for scenario inc) i T (past_of i T after) after.waiting) (sym same)
          (node_turn_keeps (scenario_for scenario node.present) T i node after t h);
    })
    journal
