-- A turn of a node keeps the controllers and the nodes of a world those of the run.
use Rattle.std.proofs.Common.{◌≡◌, ◌≢◌, ℕ, ◌-◌, ◌*◌, ◌<◌, ◌≤◌, ◌==◌, false, nat_le, List, [], ◌∷◌, length, Contains, refl, sym, ap, ◌∙◌, subst, arith}
use Rattle.std.specs.Prelude.{if◌then◌else◌, is_none, slice_get, slice_set, count_by, Option, Some, None}
use Rattle.std.proofs.lemmas.Bool.{lt-leb, eq-eqb, ne_eqb}
use Rattle.std.proofs.lemmas.List.{get_or-map, get_or_default}
use Rattle.cany_base.specs.declared.actions.Action.{Action}
use Rattle.cany_base.specs.declared.notice.Notice.{Notice}
use Rattle.cany_base.specs.declared.slot_note.SlotNote.{SlotNote}
use Rattle.cany_base.specs.declared.step.Step.{Step}
use Rattle.cany_base.specs.Frame.{FrameParts}
use Rattle.cany_base.specs.Bounded.{Bounded}
use Rattle.cany_base.specs.Limits.{most_nodes}
use Rattle.cany_base.proofs.ParamsFacts.{few_nodes}
use Rattle.cany_base.specs.Scenario.{ScenarioParts, IsLegalScenario}
use Rattle.cany_model.specs.declared.reply.StepReply.{StepReply}
use Rattle.cany_model.specs.declared.reply.StepReply.TheVariants.{Done}
use Rattle.cany_model.specs.declared.reply.StepReply.TheVariants as reply
use Rattle.cany_model.specs.Bus.Frames.{identity_of}
use Rattle.cany_base.specs.declared.notice.NoticeKind.{NoticeKind}
use Rattle.cany_base.specs.declared.notice.NoticeKind.TheVariants as notice
use Rattle.cany_base.specs.Nodes.{Nodes}
use Rattle.cany_base.specs.Params.{Parameters}
use Rattle.cany_model.specs.Bus.History.{as_seen, given, history, seen}
use Rattle.cany_model.specs.Runs.Run.{run, after_turn, turn_reply}
use Rattle.cany_model.specs.Bus.State.{Incarnation, NodeState, RunState, node_at, reads}
use Rattle.cany_model.specs.Rules.Effect.{Effect}
use Rattle.cany_model.specs.Rules.Notices.{HasFewSigns, IsNextNotice, IsReadable, IsReadableVector, error_as_idle}
use Rattle.cany_model.specs.Rules.Rooms.{IsAskable, actions_room}
use Rattle.cany_model.specs.Rules.KnowledgeOf.{knowledge_of}
use Rattle.cany_model.specs.Rules.Knowledge.{Knowledge}
use Rattle.cany_model.specs.Rules.Turn.{scenario_at, turn_effects}
use Rattle.cany_model.proofs.Among.{Each-weaker}
use Rattle.cany_model.proofs.Runs.Journals.{trace_short}
use Rattle.cany_model.proofs.Runs.Runs.{IsOrderly, orderly, history-length}
use Rattle.cany_model.proofs.Bus.Seen.{history-is}
use Rattle.cany_model.proofs.Bus.States.{no_note, note_at, runs_within}
use Rattle.cany_model.proofs.Runs.Steps.{MayTurn, next_age, next_notice, after_turn-node, after_turn-other, after_turn-trace, after_turn-history}
use Rattle.cany_model.proofs.Promises.WaitingIsAskable.{Waiting, all_belong, askable_for, readable_for, seen_readable}
use Rattle.cany_model.proofs.Promises.FewLifeSigns.{few_life_signs}
use Rattle.cany_model.proofs.Promises.OwnIncarnation.{tells_incarnation}
use Rattle.cany_model.proofs.Promises.SpacedSigns.{own_signs_few}
use Rattle.cany_model.proofs.Promises.VectorNotices.{readable_vector}
use Rattle.cany_model.proofs.Rules.ErrorCounts.{plain, plain-length}
use Rattle.cany_model.proofs.Rules.ErrorFacts.{error_turn}
use Rattle.cany_model.proofs.Rules.ErrorMembership.{plain_signs_sent, plain_knowledge}
use Rattle.can_controller.specs.Controller.{ControllerState}
use Rattle.cany_node.specs.Apply.{AreAskable, is_sign}
use Rattle.cany_node.specs.declared.reply.TurnReply.{TurnReply}
use Rattle.cany_node.specs.declared.reply.TurnReply.TheVariants.{Turned, NothingYet, Stopped}
use Rattle.cany_node.specs.Node.{CanTurn, NodeParts, IsNodeOf, Reads, heard, heard_by, reply_at, reply_of, turned}
use Rattle.cany_node.specs.Stamping.{AreStamped}
use Rattle.cany_world.specs.Incarnations.{IncarnationsParts, CanTurnNow, HasTurned, IsLeft}
use Rattle.cany_world.specs.Kept.{IsKeptAs, IsKeptAt, IsPresentAt, AreControllersOf, AreNodesOf, heard_of}
use Rattle.cany_world.specs.Replies.{IfDone, step_reply}
use Rattle.cany_world.proofs.ControllerFacts.{IsOldest, oldest, kept_turn}
use Rattle.cany_world.proofs.HeardFacts.{heard-followed}
use Rattle.cany_world.proofs.InOrder.{AllInOrder, in_order, turn_same}
use Rattle.cany_world.proofs.NodeFacts.{kept_turned}
use Rattle.cany_world.specs.Places.{AreOfNodes}
use Rattle.cany_world.proofs.PlaceFacts.{one_changed, set_same}

-- ---- the reply

-- what a controller with these notices unread answers
by_unread : (unread : List Notice) (read count now : ℕ) → length unread ≡ count → read ≡ now
    → step_reply (reply_at read (slice_get unread 0) None) ≡ (if count == 0 then reply.NothingYet now else Done)
by_unread [] read count now e same = rw (eq-eqb count 0 (sym e)) (ap (λ k. reply.NothingYet k) same)
by_unread (x ∷ xs) read count now e same =
    let some : count ≢ 0 = λ none. absurd (omega arith) in
    rw (ne_eqb count 0 some) refl

pub turn_reply_is : (scenario : ScenarioParts) (s : RunState) (i : ℕ) (c : ControllerState) → i < scenario.params.nodes
    → IsKeptAs scenario s.trace i (node_at s.nodes i) c → step_reply (reply_of c) ≡ turn_reply scenario i s
turn_reply_is scenario s i c within kept = go c.stopped refl
  where
    there : nat_le scenario.params.nodes i ≡ false
    there = lt-leb scenario.params.nodes i within

    go : (o : Option ℕ) → c.stopped ≡ o → step_reply (reply_of c) ≡ turn_reply scenario i s
    go (Some slot) e =
        let here : (node_at s.nodes i).stopped ≡ Some slot = sym kept.stopped ∙ e in
        rw (e, there, here) refl
    go None e =
        let here : (node_at s.nodes i).stopped ≡ None = sym kept.stopped ∙ e in
        rw (e, there, here) (by_unread c.unread c.read (node_at s.nodes i).unread (reads s i) (kept.all e) kept.read)

-- a turn that is made names the slot of its notice, which is the next that the controller has to
-- read
pub turned_slot : (it : NodeParts) (c : ControllerState) (out : Bounded Action) → CanTurn it c out → (slot : ℕ) → reply_of c ≡ Turned slot
    → slot ≡ c.read
turned_slot it c out can slot h = go c.stopped (slice_get c.unread 0) refl h
  where
    go : (o : Option ℕ) (next : Option Notice) → slice_get c.unread 0 ≡ next → reply_at c.read next o ≡ Turned slot → slot ≡ c.read
    go (Some at) (Some notice) e h = absurd (cc)
    go (Some at) None e h = absurd (cc)
    go None None e h = absurd (cc)
    go None (Some notice) e h =
        let named : notice.slot ≡ slot = cc in
        omega (arith, named, (can.next notice e).slot, can.read)

-- ---- the oldest unread notice

-- the note at an age, as an incarnation sees it
seen_note : (inc : Incarnation) (trace : List SlotNote) (age : ℕ) → age < length trace → note_at (seen inc trace) age ≡ as_seen inc (note_at trace age)
seen_note inc trace age within = get_or-map (as_seen inc) trace age no_note no_note within

-- what an incarnation of node i hears of its oldest unread notice is what its slot, as it sees it,
-- gave the node
pub heard_next : (scenario : ScenarioParts) (s : RunState) (i : ℕ) (v : IncarnationsParts) (notice : Notice) → IsOrderly scenario.params.nodes s
    → (kept : IsKeptAt scenario s.trace i (node_at s.nodes i) v) → IsOldest s.trace i (node_at s.nodes i) notice
    → (heard_by kept.present.it notice).kind ≡ error_as_idle (given i (as_seen (node_at s.nodes i).present (note_at s.trace (next_age s i))))
heard_next scenario s i v notice o kept oldest =
    let p : IsPresentAt scenario s.trace i (node_at s.nodes i) v = kept.present in
    let note : SlotNote = note_at s.trace (next_age s i) in
    ap (λ (n : Notice). heard p.it.inc p.it.from p.it.cycle n.slot n.kind) oldest.is
    ∙ sym (heard-followed scenario i (node_at s.nodes i).present note p.it.inc p.it.from p.it.cycle p.inc p.stands.from p.cycle)

-- node i runs and has a notice to read, of which it hears this
pub record IsToRead (s : RunState) (i : ℕ) (it : NodeParts) (notice : Notice) : Type 0 where
  pub may : MayTurn s i
  pub is : (heard_by it notice).kind ≡ error_as_idle (next_notice s i)

pub to_read : (scenario : ScenarioParts) (s : RunState) (i : ℕ) (v : IncarnationsParts) (c : ControllerState) (notice : Notice) → IsOrderly scenario.params.nodes s → i < scenario.params.nodes
    → (kept : IsKeptAt scenario s.trace i (node_at s.nodes i) v) → IsKeptAs scenario s.trace i (node_at s.nodes i) c → c.stopped ≡ None → slice_get c.unread 0 ≡ Some notice
    → IsToRead s i kept.present.it notice
to_read scenario s i v c notice o within node kept running first =
    let it : IsOldest s.trace i (node_at s.nodes i) notice = oldest scenario s.trace i (node_at s.nodes i) c notice kept (o.unread i) first in
    let age : next_age s i < length s.trace = omega (arith, it.some, o.unread i) in
    record {
      may = record { there = omega (arith, o.count); running = ap is_none (sym kept.stopped ∙ running); unread = it.some };
      is = heard_next scenario s i v notice o node it ∙ ap (λ n. error_as_idle (given i n)) (sym (seen_note (node_at s.nodes i).present s.trace (next_age s i) age));
    }

-- what the node has heard is its history, with errors as idle slots
heard_history : (s : RunState) (i : ℕ) → heard_of i s.trace (node_at s.nodes i) ≡ plain (history i s)
heard_history s i = ap (λ past. plain past) (sym (history-is i s))

pub past_length : (s : RunState) (i : ℕ) → length (heard_of i s.trace (node_at s.nodes i)) ≡ length s.trace - (node_at s.nodes i).unread
past_length s i = ap (λ (l : List NoticeKind). length l) (heard_history s i) ∙ plain-length (history i s) ∙ history-length i s

-- as an idle slot an error can be read where it could
plain_readable : (scenario : ScenarioParts) (slot : ℕ) (e : NoticeKind) → IsReadable scenario slot e → IsReadable scenario slot (error_as_idle e)
plain_readable scenario slot notice.Idle h = h
plain_readable scenario slot (notice.Got f) h = h
plain_readable scenario slot (notice.Sent f) h = h
plain_readable scenario slot notice.Bad h = h

plain_vector : (p : Parameters) (i slot : ℕ) (vector : Option Nodes) (e : NoticeKind) → IsReadableVector p i slot vector e
    → IsReadableVector p i slot vector (error_as_idle e)
plain_vector p i slot vector notice.Idle h = h
plain_vector p i slot vector (notice.Got f) h = h
plain_vector p i slot vector (notice.Sent f) h = h
plain_vector p i slot vector notice.Bad h = h

-- it is the next notice of what the node has read
pub next_notice_is : (scenario : ScenarioParts) (journal : List Step) → scenario.params.nodes ≤ most_nodes → (i : ℕ) (v : IncarnationsParts) (c : ControllerState) (notice : Notice)
    → (kept : IsKeptAt scenario (run scenario journal).trace i (node_at (run scenario journal).nodes i) v)
    → IsKeptAs scenario (run scenario journal).trace i (node_at (run scenario journal).nodes i) c → slice_get c.unread 0 ≡ Some notice
    → IsNextNotice (scenario_at scenario (run scenario journal) i) (heard_of i (run scenario journal).trace (node_at (run scenario journal).nodes i)) (heard_by kept.present.it notice)
next_notice_is scenario journal few i v c notice node kept first = record {
  slot = ap (λ (n : Notice). n.slot) it.is ∙ number ∙ sym (past_length s i);
  within = subst (λ k. k < scenario.params.slots) (sym (ap (λ (n : Notice). n.slot) it.is)) small;
  readable = subst (IsReadable (scenario_at scenario s i) notice.slot) (sym (heard_next scenario s i v notice o node it))
      (plain_readable (scenario_at scenario s i) notice.slot (given i (as_seen inc note)) (readable_for scenario inc notice.slot (given i (as_seen inc note))
      (subst (λ k. IsReadable scenario k (given i (as_seen inc note))) (sym (ap (λ (n : Notice). n.slot) it.is))
      (seen_readable scenario s i inc note (all_belong scenario journal few) stands))));
}
  where
    s : RunState
    s = run scenario journal

    o : IsOrderly scenario.params.nodes s
    o = orderly scenario journal

    it : IsOldest s.trace i (node_at s.nodes i) notice
    it = oldest scenario s.trace i (node_at s.nodes i) c notice kept (o.unread i) first

    inc : Incarnation
    inc = (node_at s.nodes i).present

    age : ℕ
    age = (node_at s.nodes i).unread - 1

    note : SlotNote
    note = note_at s.trace age

    age_within : (node_at s.nodes i).unread - 1 < length s.trace
    age_within = omega (arith, it.some, o.unread i)

    number : (note_at s.trace ((node_at s.nodes i).unread - 1)).slot ≡ length s.trace - (node_at s.nodes i).unread
    number = o.numbered ((node_at s.nodes i).unread - 1) age_within ∙ omega (arith, it.some, o.unread i)

    small : (note_at s.trace ((node_at s.nodes i).unread - 1)).slot < scenario.params.slots
    small = omega (arith, number, trace_short scenario journal, age_within, it.some)

    stands : Contains s.trace note
    stands = (age, age_within, sym (get_or_default s.trace age no_note note age_within))

-- what a running node reads next, after what it has heard
module _ (scenario : ScenarioParts) (journal : List Step) (few : scenario.params.nodes ≤ most_nodes) (i : ℕ) (v : IncarnationsParts) (c : ControllerState) (notice : Notice)
    (node : IsKeptAt scenario (run scenario journal).trace i (node_at (run scenario journal).nodes i) v)
    (kept : IsKeptAs scenario (run scenario journal).trace i (node_at (run scenario journal).nodes i) c) (running : c.stopped ≡ None)
    (first : slice_get c.unread 0 ≡ Some notice) where
  abbrev s : RunState
  s = run scenario journal

  abbrev p : IsPresentAt scenario (run scenario journal).trace i (node_at (run scenario journal).nodes i) v
  p = node.present

  abbrev follows : ScenarioParts
  follows = scenario_at scenario s i

  abbrev past : List NoticeKind
  past = heard_of i s.trace (node_at s.nodes i)

  it : IsToRead s i node.present.it notice
  it =
      let o : IsOrderly scenario.params.nodes s = orderly scenario journal in
      to_read scenario s i v c notice o (subst (λ n. i < n) o.count (runs_within s.nodes i (ap is_none (sym kept.stopped ∙ running)))) node kept running first

  slot : notice.slot ≡ length (history i s)
  slot =
      (next_notice_is scenario journal few i v c notice node kept first).slot ∙ ap (λ (l : List NoticeKind). length l) (heard_history s i)
      ∙ plain-length (history i s)

  -- of the node's own life signs there are so few with it that a life interval passed before each
  pub few_with_next : HasFewSigns (scenario_at scenario (run scenario journal) i) node.present.it.node
      ((heard_by node.present.it notice).kind ∷ heard_of i (run scenario journal).trace (node_at (run scenario journal).nodes i)) notice.slot
  few_with_next =
      subst (λ k. HasFewSigns follows k ((heard_by p.it notice).kind ∷ past) notice.slot) (sym p.number)
      (subst (λ n. HasFewSigns follows i (n ∷ past) notice.slot) (sym it.is)
      (subst (λ h. HasFewSigns follows i (error_as_idle (next_notice s i) ∷ h) notice.slot) (sym (heard_history s i))
      (subst (λ n. n * follows.params.life ≤ notice.slot) (sym (plain_signs_sent i (next_notice s i ∷ history i s)))
      (subst (HasFewSigns follows i (next_notice s i ∷ history i s)) (sym slot) (own_signs_few scenario journal i it.may)))))

  -- and its vector can be read
  pub vector_with_next : IsLegalScenario scenario → IsReadableVector scenario.params node.present.it.node notice.slot
      (knowledge_of (scenario_at scenario (run scenario journal) i) node.present.it.node (heard_of i (run scenario journal).trace (node_at (run scenario journal).nodes i))).vector
      (heard_by node.present.it notice).kind
  vector_with_next legal =
      subst (λ k. IsReadableVector scenario.params k notice.slot (knowledge_of follows k past).vector (heard_by p.it notice).kind) (sym p.number)
      (subst (IsReadableVector scenario.params i notice.slot (knowledge_of follows i past).vector) (sym it.is)
      (plain_vector scenario.params i notice.slot (knowledge_of follows i past).vector (next_notice s i)
      (subst (λ (st : Knowledge). IsReadableVector scenario.params i notice.slot st.vector (next_notice s i)) (sym knows)
      (subst (λ n. IsReadableVector scenario.params i n (knowledge_of follows i (history i s)).vector (next_notice s i)) (sym slot)
      (readable_vector scenario legal.in_range legal.members (omega (arith, legal.formulas.cycle)) journal i it.may)))))
    where
      knows : knowledge_of follows i past ≡ knowledge_of follows i (history i s)
      knows = ap (knowledge_of follows i) (heard_history s i) ∙ plain_knowledge follows i (history i s)

-- ---- that a turn can be made

pub can_turn : (scenario : ScenarioParts) (journal : List Step) (i : ℕ) (v : IncarnationsParts) (c : ControllerState) (out : Bounded Action) → IsLegalScenario scenario → scenario.inc ≡ 0
    → IsKeptAt scenario (run scenario journal).trace i (node_at (run scenario journal).nodes i) v → IsKeptAs scenario (run scenario journal).trace i (node_at (run scenario journal).nodes i) c
    → out ≡ record { items = []; room = actions_room scenario } → CanTurnNow v c out
can_turn scenario journal i v c out legal opening node kept empty = record {
  it = p.it;
  at = p.at;
  can = record {
    scenario = scenario_at scenario s i;
    past = heard_of i s.trace (node_at s.nodes i);
    legal = p.stands.legal;
    stands = p.stands;
    node = kept.number ∙ sym p.number;
    params = kept.params;
    room = kept.room;
    askable = λ running. subst (λ k. AreAskable (scenario_at scenario s i) k c.waiting) (sym p.number)
        (subst (AreAskable (scenario_at scenario s i) i) (sym kept.waiting)
        (Each-weaker (Waiting scenario s.trace i) (λ f. IsAskable (scenario_at scenario s i) i (identity_of f))
        (λ f h. askable_for scenario (node_at s.nodes i).present i (identity_of f) (h.askable (trace_short scenario journal))) (node_at s.nodes i).waiting
        ((all_belong scenario journal few).waiting i (ap is_none (sym kept.stopped ∙ running)))));
    stamped = λ running. subst (λ k. AreStamped k c.waiting) (sym p.inc)
        (subst (AreStamped (node_at s.nodes i).present.number) (sym kept.waiting)
        (tells_incarnation scenario opening journal i (ap is_none (sym kept.stopped ∙ running))));
    signs = λ running. subst (λ (w : List FrameParts). count_by is_sign w ≤ 2) (sym kept.waiting)
        (few_life_signs scenario journal longer i (ap is_none (sym kept.stopped ∙ running)));
    next = λ notice first. next_notice_is scenario journal few i v c notice node kept first;
    few = λ running notice first. few_with_next scenario journal few i v c notice node kept running first;
    vector = λ running notice first. vector_with_next scenario journal few i v c notice node kept running first legal;
    read = kept.read ∙ sym (past_length s i);
    free = ap (λ (b : Bounded Action). b.items) empty;
    actions = ap (λ (b : Bounded Action). b.room) empty;
  };
}
  where
    s : RunState
    s = run scenario journal

    p : IsPresentAt scenario (run scenario journal).trace i (node_at (run scenario journal).nodes i) v
    p = node.present

    few : scenario.params.nodes ≤ most_nodes
    few = few_nodes scenario.params legal.in_range

    longer : scenario.params.lag < scenario.params.life
    longer = omega (arith, legal.formulas.life, legal.in_range.bound.0)

-- ---- what the turn leaves

controller_turn : (scenario : ScenarioParts) (s : RunState) (i : ℕ) (c : ControllerState) → IsOrderly scenario.params.nodes s
    → MayTurn s i → IsKeptAs scenario s.trace i (node_at s.nodes i) c → c.stopped ≡ None
    → IsKeptAs scenario (after_turn scenario i s).trace i (node_at (after_turn scenario i s).nodes i)
    (turned (turn_effects (scenario_at scenario s i) i (next_notice s i ∷ history i s)) c)
controller_turn scenario s i c o may kept running =
    subst (λ (t : List SlotNote). IsKeptAs scenario t i (node_at (after_turn scenario i s).nodes i) (turned effects c)) (sym (after_turn-trace scenario i s))
    (subst (λ (n : NodeState). IsKeptAs scenario s.trace i n (turned effects c)) (sym (after_turn-node scenario i s may (o.unread i)))
    (kept_turn scenario s.trace i (node_at s.nodes i) c effects kept (o.unread i) may.unread running))
  where
    effects : List Effect
    effects = turn_effects (scenario_at scenario s i) i (next_notice s i ∷ history i s)

turn_past : (scenario : ScenarioParts) (s : RunState) (i : ℕ) → MayTurn s i → (node_at s.nodes i).unread ≤ length s.trace
    → heard_of i s.trace (node_at (after_turn scenario i s).nodes i) ≡ error_as_idle (next_notice s i) ∷ heard_of i s.trace (node_at s.nodes i)
turn_past scenario s i may short =
    ap (λ (t : List SlotNote). heard_of i t (node_at (after_turn scenario i s).nodes i)) (sym (after_turn-trace scenario i s))
    ∙ heard_history (after_turn scenario i s) i ∙ ap (λ past. plain past) (after_turn-history scenario i s may short)
    ∙ ap (λ past. error_as_idle (next_notice s i) ∷ past) (sym (heard_history s i))

node_turn : (scenario : ScenarioParts) (s : RunState) (i : ℕ) (v : IncarnationsParts) (after : NodeParts) → IsOrderly scenario.params.nodes s → AllInOrder s
    → MayTurn s i → (kept : IsKeptAt scenario s.trace i (node_at s.nodes i) v)
    → after.node ≡ kept.present.it.node → after.inc ≡ kept.present.it.inc → after.cycle ≡ kept.present.it.cycle
    → IsNodeOf (scenario_at scenario s i) (error_as_idle (next_notice s i) ∷ heard_of i s.trace (node_at s.nodes i)) after
    → IsKeptAt scenario (after_turn scenario i s).trace i (node_at (after_turn scenario i s).nodes i) (record v { nodes = slice_set v.nodes v.present after })
node_turn scenario s i v after o order may kept number inc cycle stands =
    subst (λ (t : List SlotNote). IsKeptAt scenario t i (node_at (after_turn scenario i s).nodes i) (record v { nodes = slice_set v.nodes v.present after }))
    (sym (after_turn-trace scenario i s))
    (kept_turned scenario s.trace i (node_at s.nodes i) (node_at (after_turn scenario i s).nodes i) v kept.present.it after (order i) (turn_same scenario i s i may (o.unread i)) kept
    kept.present.at number inc cycle (subst (λ past. IsNodeOf (scenario_at scenario s i) past after) (sym (turn_past scenario s i may (o.unread i))) stands))

-- controller and incarnations of a node are those of the run after its turn
pub record AreTurned (scenario : ScenarioParts) (s : RunState) (i : ℕ) (c : ControllerState) (v : IncarnationsParts) : Type 0 where
  pub controller : IsKeptAs scenario (after_turn scenario i s).trace i (node_at (after_turn scenario i s).nodes i) c
  pub node : IsKeptAt scenario (after_turn scenario i s).trace i (node_at (after_turn scenario i s).nodes i) v

pub turned_one : (scenario : ScenarioParts) (journal : List Step) (i : ℕ) (v v' : IncarnationsParts) (c c' : ControllerState) (notice : Notice) → IsLegalScenario scenario
    → i < scenario.params.nodes → IsKeptAs scenario (run scenario journal).trace i (node_at (run scenario journal).nodes i) c
    → IsKeptAt scenario (run scenario journal).trace i (node_at (run scenario journal).nodes i) v → c.stopped ≡ None → slice_get c.unread 0 ≡ Some notice
    → ((it : NodeParts) → slice_get v.nodes v.present ≡ Some it → (follows : ScenarioParts) (past : List NoticeKind) (notice : Notice) → Reads follows past notice it c
    → HasTurned follows past notice it v v' c c')
    → AreTurned scenario (run scenario journal) i c' v'
turned_one scenario journal i v v' c c' notice legal within kept node running first law =
    let p : IsPresentAt scenario s.trace i (node_at s.nodes i) v = node.present in
    let it : IsToRead s i p.it notice = to_read scenario s i v c notice o within node kept running first in
    let next : IsNextNotice follows past (heard_by p.it notice) = next_notice_is scenario journal (few_nodes scenario.params p.stands.legal.in_range) i v c notice node kept first in
    let few : HasFewSigns follows p.it.node ((heard_by p.it notice).kind ∷ past) notice.slot =
    few_with_next scenario journal (few_nodes scenario.params p.stands.legal.in_range) i v c notice node kept running first in
    let vector : IsReadableVector follows.params p.it.node notice.slot (knowledge_of follows p.it.node past).vector (heard_by p.it notice).kind =
    vector_with_next scenario journal (few_nodes scenario.params p.stands.legal.in_range) i v c notice node kept running first legal in
    let made : HasTurned follows past notice p.it v v' c c' =
    law p.it p.at follows past notice (record { stands = p.stands; next = next; few = few; vector = vector; running = running; oldest = first }) in
    let effects : turn_effects follows p.it.node ((heard_by p.it notice).kind ∷ past) ≡ turn_effects follows i (next_notice s i ∷ history i s) =
    ap (λ k. turn_effects follows k ((heard_by p.it notice).kind ∷ past)) p.number ∙ ap (λ n. turn_effects follows i (n ∷ past)) it.is
    ∙ ap (λ t. turn_effects follows i (error_as_idle (next_notice s i) ∷ t)) (heard_history s i) ∙ error_turn follows i (next_notice s i ∷ history i s) in
    let left : turned (turn_effects follows i (next_notice s i ∷ history i s)) c ≡ c' = sym (made.turn.controller ∙ ap (λ e. turned e c) effects) in
    record {
      controller = subst (IsKeptAs scenario (after_turn scenario i s).trace i (node_at (after_turn scenario i s).nodes i)) left
          (controller_turn scenario s i c o it.may kept running);
      node = subst (IsKeptAt scenario (after_turn scenario i s).trace i (node_at (after_turn scenario i s).nodes i)) (sym made.is)
          (node_turn scenario s i v made.after o (in_order scenario journal) it.may node made.number made.inc made.cycle
          (subst (λ n. IsNodeOf follows (n ∷ past) made.after) it.is made.turn.stands));
    }
  where
    s : RunState
    s = run scenario journal

    o : IsOrderly scenario.params.nodes (run scenario journal)
    o = orderly scenario journal

    follows : ScenarioParts
    follows = scenario_at scenario s i

    past : List NoticeKind
    past = heard_of i s.trace (node_at s.nodes i)

-- those of the other nodes are as they were
others_turn : {X : Type 0} (Is : List SlotNote → ℕ → NodeState → X → Type 0) (scenario : ScenarioParts) (s : RunState) (i : ℕ) (xs : List X) (x : X)
    → AreOfNodes (λ j z. Is s.trace j (node_at s.nodes j) z) scenario.params.nodes xs
    → Is (after_turn scenario i s).trace i (node_at (after_turn scenario i s).nodes i) x
    → AreOfNodes (λ j z. Is (after_turn scenario i s).trace j (node_at (after_turn scenario i s).nodes j) z) scenario.params.nodes (slice_set xs i x)
others_turn Is scenario s i xs x are here =
    one_changed (λ j z. Is s.trace j (node_at s.nodes j) z) (λ j z. Is (after_turn scenario i s).trace j (node_at (after_turn scenario i s).nodes j) z)
    scenario.params.nodes xs i x are here
    (λ j z other there.
    subst (λ (t : List SlotNote). Is t j (node_at (after_turn scenario i s).nodes j) z) (sym (after_turn-trace scenario i s))
    (subst (λ (n : NodeState). Is s.trace j n z) (sym (after_turn-other scenario i s j other)) there))

-- the controllers and the nodes after a turn that was done are those of the run after it
pub turned_on : (scenario : ScenarioParts) (journal : List Step) (i : ℕ) (nodes : List IncarnationsParts) (controllers : List ControllerState) (v v' : IncarnationsParts) (c c' : ControllerState) (r : StepReply) → IsLegalScenario scenario
    → AreControllersOf scenario (run scenario journal) controllers → AreNodesOf scenario (run scenario journal) nodes → i < length nodes
    → slice_get nodes i ≡ Some v → slice_get controllers i ≡ Some c → r ≡ step_reply (reply_of c)
    → ((it : NodeParts) → slice_get v.nodes v.present ≡ Some it → (follows : ScenarioParts) (past : List NoticeKind) (notice : Notice) → Reads follows past notice it c
    → HasTurned follows past notice it v v' c c')
    → IfDone r (AreControllersOf scenario (after_turn scenario i (run scenario journal)) (slice_set controllers i c')
    × AreNodesOf scenario (after_turn scenario i (run scenario journal)) (slice_set nodes i v')) (Unit {0})
turned_on scenario journal i nodes controllers v v' c c' r legal row nodes_are within at_node at is law = subst Q (sym is) (go c.stopped refl)
  where
    s : RunState
    s = run scenario journal

    Q : StepReply → Type 0
    Q x = IfDone x (AreControllersOf scenario (after_turn scenario i s) (slice_set controllers i c') × AreNodesOf scenario (after_turn scenario i s) (slice_set nodes i v')) (Unit {0})

    turns : (notice : Notice) → c.stopped ≡ None → slice_get c.unread 0 ≡ Some notice → Q Done
    turns notice running first =
        let turned : AreTurned scenario s i c' v' =
        turned_one scenario journal i v v' c c' notice legal (omega (arith, within, nodes_are.whole)) (row.each i c at) (nodes_are.each i v at_node) running first law in
        (others_turn (IsKeptAs scenario) scenario s i controllers c' row turned.controller, others_turn (IsKeptAt scenario) scenario s i nodes v' nodes_are turned.node)

    by_notice : (o : Option Notice) → slice_get c.unread 0 ≡ o → c.stopped ≡ None → Q (step_reply (reply_of c))
    by_notice None e running = rw (e, running) tt
    by_notice (Some notice) e running =
        let done : Done ≡ step_reply (reply_of c) = rw (e, running) refl in
        subst Q done (turns notice running e)

    go : (o : Option ℕ) → c.stopped ≡ o → Q (step_reply (reply_of c))
    go None running = by_notice (slice_get c.unread 0) refl running
    go (Some slot) e = rw e tt

-- a turn that is refused leaves them
pub not_turned : (nodes : List IncarnationsParts) (controllers : List ControllerState) (i : ℕ) (v v' : IncarnationsParts) (c c' : ControllerState) (answer : TurnReply)
    → slice_get nodes i ≡ Some v → slice_get controllers i ≡ Some c → IsLeft answer v v' c c'
    → IfDone (step_reply answer) (Unit {0}) ((slice_set controllers i c' ≡ controllers) × (slice_set nodes i v' ≡ nodes))
not_turned nodes controllers i v v' c c' (Turned slot) at_node at refused = tt
not_turned nodes controllers i v v' c c' (NothingYet now) at_node at refused =
    (ap (slice_set controllers i) refused.1 ∙ set_same controllers i c at, ap (slice_set nodes i) refused.0 ∙ set_same nodes i v at_node)
not_turned nodes controllers i v v' c c' (Stopped slot) at_node at refused =
    (ap (slice_set controllers i) refused.1 ∙ set_same controllers i c at, ap (slice_set nodes i) refused.0 ∙ set_same nodes i v at_node)
