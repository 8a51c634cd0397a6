-- A node that stopped sends nothing more, and a node that runs has run since the first slot. Of
-- scenarios without restart entries.
use Rattle.std.proofs.Common.{◌≡◌, ℕ, ◌<◌, ◌≤◌, ◌⊎◌, inl, inr, true, false, if◌then◌else◌, List, [], ◌∷◌, ◌++◌, length, Some, None, Contains, refl, ap, sym, ◌∙◌, subst, arith}
use Rattle.std.specs.List.{AllByRecursion}
use Rattle.std.proofs.lemmas.Bool.{both_ways, cases_Bool, cases_eq, cond_both}
use Rattle.std.proofs.lemmas.List.{length-replicate}
use Rattle.std.proofs.lemmas.Option.{same_Some}
use Rattle.cany_base.specs.declared.class.Class.TheVariants as class
use Rattle.cany_base.specs.declared.notice.NoticeKind.{NoticeKind}
use Rattle.cany_base.specs.declared.notice.NoticeKind.TheVariants.{Got}
use Rattle.cany_base.specs.declared.slot_note.SlotNote.{SlotNote}
use Rattle.cany_base.specs.declared.step.Step.{Step}
use Rattle.cany_base.specs.Frame.{FrameParts}
use Rattle.cany_base.specs.Nodes.{has}
use Rattle.cany_base.specs.Scenario.{ScenarioParts}
use Rattle.cany_model.specs.Bus.History.{given}
use Rattle.cany_model.specs.Runs.Run.{after_turn, run}
use Rattle.cany_model.specs.Bus.Slot.{FaultScript, after_slot, node_after, script, slot_note_of}
use Rattle.cany_model.specs.Bus.State.{NodeState, RunState, node_at, fresh, opening, runs}
use Rattle.cany_model.specs.Rules.Knowledge.{shows_life}
use Rattle.cany_model.specs.Rules.Turn.{scenario_for}
use Rattle.cany_model.proofs.Among.{Among-from_Contains, Each-of}
use Rattle.cany_model.proofs.Bus.Notes.{given-Got, note_of-offered, note_of-slot, sender_waits}
use Rattle.cany_model.proofs.Runs.Runs.{orderly}
use Rattle.cany_model.proofs.Bus.States.{node_at-opening}
use Rattle.cany_model.proofs.Runs.Steps.{MayTurn, after_slot-length, after_slot-node, after_slot-trace, after_turn-length, after_turn-node, after_turn-other, after_turn-runs, after_turn-trace, running_before_slot, stopped_after_slot}
use Rattle.cany_model.proofs.Promises.EachNode.{EachRunning, each_running, waiting_has}
use Rattle.cany_model.proofs.Rules.ProtocolFacts.{MayAsk, request_asked}
use Rattle.cany_model.proofs.Timed.Common.StepsWithoutRestarts.{along_fronts}
use Rattle.cany_model.proofs.Timed.Detector.ShowsInTime.{shows_life_in_time}

-- ---- the frames that a node sends for itself alone: those that show life, and its asks to join

abbrev pub IsOwn : FrameParts → Type 0
IsOwn f = (shows_life f ≡ true) ⊎ (f.class ≡ class.Join)

abbrev JoinsItself : ℕ → FrameParts → Type 0
JoinsItself i f = f.class ≡ class.Join → f.node ≡ i

join_asked : (scenario : ScenarioParts) (i : ℕ) (past : List NoticeKind) (f : FrameParts) → MayAsk scenario i past f → JoinsItself i f
join_asked scenario i past f may join = ap (λ (g : FrameParts). g.node) (sym (request_asked scenario i past f may (inl join)).frame)

abbrev WaitsJoining : List SlotNote → ℕ → NodeState → Type 0
WaitsJoining trace i node = AllByRecursion (JoinsItself i) node.waiting

waits_joining : (scenario : ScenarioParts) (journal : List Step) → EachRunning WaitsJoining (run scenario journal)
waits_joining scenario journal =
    each_running scenario WaitsJoining
    (waiting_has scenario (λ inc i f. JoinsItself i f) (λ inc i past f may. join_asked (scenario_for scenario inc) i past f may)) journal

-- such a frame waits at the node alone that it names
pub own_waits : (scenario : ScenarioParts) → 0 < scenario.params.life → (journal : List Step) (i : ℕ)
    → runs (node_at (run scenario journal).nodes i) ≡ true
    → (f : FrameParts) → Contains (node_at (run scenario journal).nodes i).waiting f → IsOwn f → f.node ≡ i
own_waits scenario some journal i running f waits (inl life) =
    let w = (node_at (run scenario journal).nodes i).waiting in
    Each-of (λ g. shows_life g ≡ true → g.node ≡ i) f w (shows_life_in_time scenario some journal i running).own (Among-from_Contains w f waits) life
own_waits scenario some journal i running f waits (inr join) =
    let w = (node_at (run scenario journal).nodes i).waiting in
    Each-of (JoinsItself i) f w (waits_joining scenario journal i running) (Among-from_Contains w f waits) join

-- and is sent by it alone
abbrev pub SentItself : SlotNote → Type 0
SentItself note = (i : ℕ) (f : FrameParts) → note.frame ≡ Some f → has note.senders i ≡ true → IsOwn f → f.node ≡ i

-- ---- stops

abbrev NoStop : ℕ → SlotNote → Type 0
NoStop i note = has note.stops i ≡ false

-- the slot with so many before it is one in which node i stops
abbrev StopsAt : (i t : ℕ) → List SlotNote → Type 0
StopsAt i t [] = ⊥
StopsAt i t (note ∷ older) = ((has note.stops i ≡ true) × (length older ≡ t)) ⊎ StopsAt i t older

-- each frame that r alone sends was carried before r stopped
abbrev AliveSent : ℕ → List SlotNote → Type 0
AliveSent r [] = Unit {0}
AliveSent r (note ∷ older) = ((f : FrameParts) → note.frame ≡ Some f → IsOwn f → f.node ≡ r → AllByRecursion (NoStop r) older) × AliveSent r older

record StopsKept (s : RunState) : Type 0 where
  ran : (i : ℕ) → runs (node_at s.nodes i) ≡ true → AllByRecursion (NoStop i) s.trace
  stopped : (i t : ℕ) → i < length s.nodes → (node_at s.nodes i).stopped ≡ Some t → StopsAt i t s.trace
  alive : (r : ℕ) → AliveSent r s.trace
  sent : AllByRecursion SentItself s.trace

none_stopped : (t : ℕ) → None ≡ Some t → ⊥
none_stopped t e = cc

pub node_after-stops : (i : ℕ) (note : SlotNote) (node : NodeState) → runs node ≡ true
    → (node_after i note node).stopped ≡ (if has note.stops i then Some note.slot else None)
unfolding node_after
node_after-stops i note node h = rw h refl

stops_opening : (nodes : ℕ) → StopsKept (opening nodes)
stops_opening nodes = record {
  ran = λ i running. tt;
  stopped = λ i t below e. absurd (none_stopped t (sym (ap (λ (node : NodeState). node.stopped) (node_at-opening nodes i (subst (λ n. i < n)
      (length-replicate nodes fresh) below))) ∙ e));
  alive = λ r. tt;
  sent = tt;
}

stops_slot : (rules : FaultScript) (s : RunState)
    → ((i : ℕ) → runs (node_at s.nodes i) ≡ true → (f : FrameParts) → Contains (node_at s.nodes i).waiting f → IsOwn f → f.node ≡ i)
    → StopsKept s → StopsKept (after_slot rules s)
stops_slot rules s own h = record {
  ran = λ i running.
      let before = running_before_slot rules s i running in
      subst (AllByRecursion (NoStop i)) (sym (after_slot-trace rules s)) (before.1, h.ran i before.0);
  stopped = λ i t below e.
      let there : i < length s.nodes = omega (arith, below, after_slot-length rules s) in
      subst (StopsAt i t) (sym (after_slot-trace rules s)) (by_run i t there e);
  alive = λ r. subst (AliveSent r) (sym (after_slot-trace rules s)) (now r, h.alive r);
  sent = subst (AllByRecursion SentItself) (sym (after_slot-trace rules s))
      (λ i f frame sender mine. let w = sender_waits rules s f i frame sender in own i w.0 f w.1 mine, h.sent);
}
  where
    note : SlotNote
    note = slot_note_of rules s

    now : (r : ℕ) (f : FrameParts) → (slot_note_of rules s).frame ≡ Some f → IsOwn f → f.node ≡ r → AllByRecursion (NoStop r) s.trace
    now r f frame mine node =
        let offer = note_of-offered rules s f frame in
        subst (λ x. AllByRecursion (NoStop x) s.trace) (sym (own offer.node offer.running f offer.waits mine) ∙ node) (h.ran offer.node offer.running)

    by_run : (i t : ℕ) → i < length s.nodes → (node_at (after_slot rules s).nodes i).stopped ≡ Some t
        → ((has (slot_note_of rules s).stops i ≡ true) × (length s.trace ≡ t)) ⊎ StopsAt i t s.trace
    by_run i t there e = elim (cases_Bool (runs (node_at s.nodes i))) [
      | inr gone ↦ inr (h.stopped i t there (sym (stopped_after_slot rules s i gone) ∙ e))
      | inl ran ↦
          let after : (node_at (after_slot rules s).nodes i).stopped ≡ (if has note.stops i then Some note.slot else None) =
          ap (λ (node : NodeState). node.stopped) (after_slot-node rules s i there) ∙ node_after-stops i note (node_at s.nodes i) ran in
          cond_both (has note.stops i) (Some note.slot) None
          (λ o. o ≡ Some t → ((has note.stops i ≡ true) × (length s.trace ≡ t)) ⊎ StopsAt i t s.trace)
          (λ stops some. inl (stops, sym (note_of-slot rules s) ∙ same_Some note.slot t some))
          (λ _ never. absurd (none_stopped t never)) (sym after ∙ e)
    ]

stops_turn : (scenario : ScenarioParts) (s : RunState) (i : ℕ) → MayTurn s i → (node_at s.nodes i).unread ≤ length s.trace
    → StopsKept s → StopsKept (after_turn scenario i s)
stops_turn scenario s i may short h = record {
  ran = λ j running.
      subst (AllByRecursion (NoStop j)) (sym (after_turn-trace scenario i s)) (h.ran j (sym (after_turn-runs scenario i s j may short) ∙ running));
  stopped = λ j t below e.
      subst (StopsAt j t) (sym (after_turn-trace scenario i s))
      (h.stopped j t (subst (λ n. j < n) (after_turn-length scenario i s) below) (sym (same j) ∙ e));
  alive = λ r. subst (AliveSent r) (sym (after_turn-trace scenario i s)) (h.alive r);
  sent = subst (AllByRecursion SentItself) (sym (after_turn-trace scenario i s)) h.sent;
}
  where
    same : (j : ℕ) → (node_at (after_turn scenario i s).nodes j).stopped ≡ (node_at s.nodes j).stopped
    same j = elim (cases_eq j i) [
      | inl e ↦ subst (λ k. (node_at (after_turn scenario i s).nodes k).stopped ≡ (node_at s.nodes k).stopped) (sym e)
          (ap (λ (node : NodeState). node.stopped) (after_turn-node scenario i s may short))
      | inr other ↦ ap (λ (node : NodeState). node.stopped) (after_turn-other scenario i s j other)
    ]

stops_kept : (scenario : ScenarioParts) → 0 < scenario.params.life → scenario.restarts ≡ [] → (journal : List Step) → StopsKept (run scenario journal)
stops_kept scenario some none journal =
    along_fronts scenario none StopsKept journal (stops_opening scenario.params.nodes) (λ front rest e. record {
      slot = λ may h. stops_slot (script scenario.rules) (run scenario front)
          (λ i running f waits own. own_waits scenario some front i running f waits own) h;
      turn = λ i may h. stops_turn scenario (run scenario front) i may ((orderly scenario front).unread i) h;
    })

-- ---- what follows

-- a slot carried no frame that r alone sends
abbrev pub NotFrom : ℕ → SlotNote → Type 0
NotFrom r note = (f : FrameParts) → note.frame ≡ Some f → IsOwn f → f.node ≡ r → ⊥

-- nor did a node get one in it
pub not_heard : (r i : ℕ) (note : SlotNote) → NotFrom r note → (f : FrameParts) → given i note ≡ Got f → IsOwn f → f.node ≡ r → ⊥
not_heard r i note h f got own node = h f (given-Got i note f got).0 own node

-- where a node stopped
pub record StopPlace (r t : ℕ) (trace : List SlotNote) : Type 0 where
  pub newer : List SlotNote
  pub note : SlotNote
  pub older : List SlotNote
  pub place : trace ≡ newer ++ (note ∷ older)
  pub slot : length older ≡ t
  pub stops : has note.stops r ≡ true

stop_place : (r t : ℕ) (trace : List SlotNote) → StopsAt r t trace → StopPlace r t trace
stop_place r t [] h = absurd h
stop_place r t (note ∷ older) (inl now) = record { newer = []; note = note; older = older; place = refl; slot = now.1; stops = now.0 }
stop_place r t (note ∷ older) (inr before) =
    let p = stop_place r t older before in
    record { newer = note ∷ p.newer; note = p.note; older = p.older; place = ap (λ l. note ∷ l) p.place; slot = p.slot; stops = p.stops }

stop_among : (r : ℕ) (newer : List SlotNote) (note : SlotNote) (older : List SlotNote) → has note.stops r ≡ true
    → AllByRecursion (NoStop r) (newer ++ (note ∷ older)) → ⊥
stop_among r [] note older stops all = both_ways (has note.stops r) all.0 stops
stop_among r (n ∷ newer) note older stops all = stop_among r newer note older stops all.1

not_from : (r : ℕ) (newer : List SlotNote) (note : SlotNote) (older : List SlotNote) → has note.stops r ≡ true → AliveSent r (newer ++ (note ∷ older))
    → AllByRecursion (NotFrom r) newer
not_from r [] note older stops alive = tt
not_from r (n ∷ newer) note older stops alive =
    (λ f frame own node. stop_among r newer note older stops (alive.0 f frame own node), not_from r newer note older stops alive.1)

module _ (scenario : ScenarioParts) (some : 0 < scenario.params.life) (none : scenario.restarts ≡ []) (journal : List Step) where
  pub sent_itself : AllByRecursion SentItself (run scenario journal).trace
  sent_itself = (stops_kept scenario some none journal).sent

  -- a node that is stopped stopped in a slot of the trace
  pub stop_of : (r t : ℕ) → r < scenario.params.nodes → (node_at (run scenario journal).nodes r).stopped ≡ Some t
      → StopPlace r t (run scenario journal).trace
  stop_of r t below e =
      let there : r < length (run scenario journal).nodes = omega (arith, below, (orderly scenario journal).count) in
      stop_place r t (run scenario journal).trace ((stops_kept scenario some none journal).stopped r t there e)

  -- since then it has sent nothing
  pub silent_since : (r : ℕ) (newer : List SlotNote) (note : SlotNote) (older : List SlotNote)
      → (run scenario journal).trace ≡ newer ++ (note ∷ older)
      → has note.stops r ≡ true → AllByRecursion (NotFrom r) newer
  silent_since r newer note older place stops =
      not_from r newer note older stops (subst (AliveSent r) place ((stops_kept scenario some none journal).alive r))

  -- and has not run
  pub stopped_since : (r : ℕ) (newer : List SlotNote) (note : SlotNote) (older : List SlotNote)
      → (run scenario journal).trace ≡ newer ++ (note ∷ older)
      → has note.stops r ≡ true → runs (node_at (run scenario journal).nodes r) ≡ true → ⊥
  stopped_since r newer note older place stops running =
      stop_among r newer note older stops (subst (AllByRecursion (NoStop r)) place ((stops_kept scenario some none journal).ran r running))
