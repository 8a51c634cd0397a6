-- From a quiet state on that has the Clean slot of a data frame behind it, no frame that accepts
-- the message waits or is carried, and a node that begins later sees nothing of the message.
use Rattle.std.proofs.Common.{◌≡◌, ℕ, zero, suc, ◌+◌, ◌-◌, ◌<◌, ◌≤◌, ◌⊎◌, ◌||◌, ◌++◌, inl, inr, true, false, List, [], ◌∷◌, length, refl, ap, sym, ◌∙◌, subst, arith, length-append}
use Rattle.std.specs.List.{list_any}
use Rattle.std.proofs.lemmas.Bool.{both_ways, cases_Bool, cases_eq, cases_lt, false≢true, or_cases, or_left, or_right}
use Rattle.cany_base.specs.declared.class.Class.TheVariants as class
use Rattle.cany_base.specs.declared.message.MsgKey.{MsgKey}
use Rattle.cany_base.specs.declared.notice.NoticeKind.{NoticeKind}
use Rattle.cany_base.specs.declared.slot_note.SlotNote.{SlotNote}
use Rattle.cany_base.specs.declared.step.Step.{Step}
use Rattle.cany_base.specs.declared.step.Step.TheVariants as step
use Rattle.cany_base.specs.Frame.{FrameParts}
use Rattle.cany_base.specs.Limits.{most_nodes}
use Rattle.cany_base.specs.Scenario.{ScenarioParts}
use Rattle.cany_model.specs.Bus.Frames.{Identity, identity_of, is_of, same_class}
use Rattle.cany_model.specs.Bus.History.{given, is_got, is_sent, seen, trace_for}
use Rattle.cany_model.specs.Bus.Restart.{after_restarts}
use Rattle.cany_model.specs.Runs.Run.{after_step, after_turn, is_done, proceed, reply, run_from}
use Rattle.cany_model.specs.Bus.Slot.{FaultScript, after_slot, script, slot_note_of}
use Rattle.cany_model.specs.Bus.State.{Incarnation, NodeState, RunState, node_at, runs}
use Rattle.cany_model.specs.Bus.Waiting.{waits}
use Rattle.cany_model.specs.Promises.Quiet.{IsQuiet, asks_as, asks_for_first_class, is_top}
use Rattle.cany_model.specs.Rules.Effect.{Effect, Ask, Withdraw, Enter, waiting_after}
use Rattle.cany_model.specs.Rules.Messages.{accept_of_key}
use Rattle.cany_model.specs.Rules.Totcan.{tot_of_key}
use Rattle.cany_model.specs.Rules.Turn.{effects_for, scenario_for, turn_effects}
use Rattle.cany_model.proofs.Among.{Among, Among-weaker, any-from_Among}
use Rattle.cany_model.proofs.Bus.Identities.{same_class_self, same_identity-true}
use Rattle.cany_model.proofs.Runs.Journals.{orderly_slot_step, step_is, step_refused}
use Rattle.cany_model.proofs.Bus.Restarts.{after_restarts-trace, restarts_or_stays}
use Rattle.cany_model.proofs.Runs.Runs.{IsKept, IsOrderly, orderly_slot, orderly_turn, slot_done, turn_done}
use Rattle.cany_model.proofs.Bus.Seen.{history-is, length-seen, trace_for-is}
use Rattle.cany_model.proofs.Bus.States.{note_at, runs_within}
use Rattle.cany_model.proofs.Runs.Steps.{MayTurn, after_slot-present, after_slot-trace, after_slot-unread, after_slot-waiting, after_turn-node, after_turn-other, after_turn-runs, after_turn-trace, running_before_slot}
use Rattle.cany_model.proofs.Rules.Waits.{Asks, waits-from_after}
use Rattle.cany_model.proofs.Rules.IncarnationFacts.{effects_for-is}
use Rattle.cany_model.proofs.Timed.Common.Ages.{Carried, Done, carries_clean, gave, past}
use Rattle.cany_model.proofs.Timed.Common.OwnSlots.{sees_from}
use Rattle.cany_model.proofs.Timed.Common.SeenAges.{Sees, carried_from}
use Rattle.cany_model.proofs.Timed.Order.TotRun.{past_next}
use Rattle.cany_model.proofs.Timed.Order.TotSlots.{carried_offer, got_carried, sent_carried, waits_before}
use Rattle.cany_model.proofs.Timed.Order.TotEffects.{AskCause, asked_then}

-- ---- a longer trace

pub at_older : (newer older : List SlotNote) (q : ℕ) → note_at (newer ++ older) (length newer + q) ≡ note_at older q
at_older [] older q = let e : 0 + q ≡ q = omega arith in ap (note_at older) e
at_older (note ∷ newer) older q =
    let e : suc (length newer) + q ≡ suc (length newer + q) = omega arith in
    ap (note_at (note ∷ (newer ++ older))) e ∙ at_older newer older q

pub past_older : (i : ℕ) (inc : Incarnation) (newer older : List SlotNote) (q : ℕ)
    → past i (seen inc (newer ++ older)) (length newer + q) ≡ past i (seen inc older) q
past_older i inc [] older q = let e : 0 + q ≡ q = omega arith in ap (past i (seen inc older)) e
past_older i inc (note ∷ newer) older q =
    let e : suc (length newer) + q ≡ suc (length newer + q) = omega arith in
    ap (past i (seen inc (note ∷ (newer ++ older)))) e ∙ past_older i inc newer older q

-- ---- a quiet state

of_accept : (m : MsgKey) (f : FrameParts) → accept_of_key m ≡ identity_of f → same_class f.class class.Accept ≡ true
of_accept m f same = ap (λ (x : Identity). same_class x.class class.Accept) (sym same) ∙ same_class_self class.Accept

waits_top : (m : MsgKey) (w : List FrameParts) → waits (accept_of_key m) w ≡ true → list_any (λ f. is_top f.class) w ≡ true
waits_top m [] h = h
waits_top m (f ∷ w) h = elim (or_cases (is_of (accept_of_key m) f) (waits (accept_of_key m) w) h) [
  | inl here ↦
      let accept = of_accept m f (same_identity-true (accept_of_key m) (identity_of f) here) in
      let first : (same_class f.class class.Accept || same_class f.class class.Rha) ≡ true =
      or_left (same_class f.class class.Accept) (same_class f.class class.Rha) accept in
      or_left (is_top f.class) (list_any (λ g. is_top g.class) w)
      (or_left (same_class f.class class.Accept || same_class f.class class.Rha) (same_class f.class class.Els) first)
  | inr there ↦ or_right (is_top f.class) (list_any (λ g. is_top g.class) w) (waits_top m w there)
]

asks_accept : (m : MsgKey) (e : Effect) → Asks (accept_of_key m) e → asks_for_first_class e ≡ true
asks_accept m (Ask f) same = or_left (same_class f.class class.Accept) (same_class f.class class.Rha) (of_accept m f same)
asks_accept m (Withdraw x) none = absurd none
asks_accept m (Enter entry) none = absurd none

-- node i asks for the frame that accepts the message
abbrev pub AsksFor : MsgKey → ℕ → ScenarioParts → List NoticeKind → Type 0
AsksFor m i scenario past = Among (Asks (accept_of_key m)) (turn_effects scenario i past)

-- a running node waits with no frame that accepts, and asks for none at a notice that it has not
-- read
pub quiet_waits : (scenario : ScenarioParts) (s : RunState) → IsQuiet scenario s → (i : ℕ) → runs (node_at s.nodes i) ≡ true → (m : MsgKey)
    → waits (accept_of_key m) (node_at s.nodes i).waiting ≡ true → ⊥
quiet_waits scenario s quiet i running m h =
    both_ways (list_any (λ f. is_top f.class) (node_at s.nodes i).waiting) (quiet.waits i running) (waits_top m (node_at s.nodes i).waiting h)

pub quiet_asks : (scenario : ScenarioParts) (s : RunState) → IsQuiet scenario s → (i : ℕ) → runs (node_at s.nodes i) ≡ true → (m : MsgKey) (age : ℕ)
    → age < (node_at s.nodes i).unread
    → let inc = (node_at s.nodes i).present in AsksFor m i (scenario_for scenario inc) (past i (seen inc s.trace) age) → ⊥
unfolding asks_as
quiet_asks scenario s quiet i running m age unread h =
    let inc = (node_at s.nodes i).present in
    let was : List NoticeKind = past i (trace_for inc.number inc s.trace) age in
    let read : List NoticeKind = past i (seen inc s.trace) age in
    let effects : List Effect = turn_effects (scenario_for scenario inc) i read in
    let same : effects_for inc.number scenario inc i was ≡ effects =
    effects_for-is scenario inc i was ∙ ap (λ t. turn_effects (scenario_for scenario inc) i (past i t age)) (trace_for-is inc s.trace) in
    let none : list_any asks_for_first_class effects ≡ false = ap (list_any asks_for_first_class) (sym same) ∙ quiet.asks i running age unread in
    both_ways (list_any asks_for_first_class effects) none
    (any-from_Among asks_for_first_class effects (Among-weaker (Asks (accept_of_key m)) (λ e. asks_for_first_class e ≡ true) (asks_accept m) effects h))

-- ---- since a state

-- the node ran then, in the same incarnation, and has read what it had read
pub record IsStaying (base : RunState) (newer : List SlotNote) (i : ℕ) (node : NodeState) : Type 0 where
  pub ran : runs (node_at base.nodes i) ≡ true
  pub same : node.present ≡ (node_at base.nodes i).present
  pub unread : node.unread ≤ length newer + (node_at base.nodes i).unread

-- it began later, and sees no slot that ran before
pub record IsLater (base : RunState) (node : NodeState) : Type 0 where
  pub later : 0 < node.present.number
  pub from : length base.trace ≤ node.present.from

pub record NoAcceptanceSince (m : MsgKey) (base s : RunState) : Type 0 where
  pub newer : List SlotNote
  pub trace : s.trace ≡ newer ++ base.trace
  pub not_carried : (c : ℕ) → c < length newer → Carried s.trace c (accept_of_key m) → ⊥
  pub who : (i : ℕ) → runs (node_at s.nodes i) ≡ true → IsStaying base newer i (node_at s.nodes i) ⊎ IsLater base (node_at s.nodes i)
  pub waits : (i : ℕ) → runs (node_at s.nodes i) ≡ true → waits (accept_of_key m) (node_at s.nodes i).waiting ≡ true → ⊥

-- a data frame that was carried Clean is not carried again
abbrev pub IsCarriedOnce : MsgKey → List SlotNote → Type 0
IsCarriedOnce m T = (c q : ℕ) → c < q → Carried T c (tot_of_key m) → Done T q m → ⊥

abbrev NoAcceptanceIfCarriedOnce : MsgKey → RunState → RunState → Type 0
NoAcceptanceIfCarriedOnce m base s = IsCarriedOnce m s.trace → NoAcceptanceSince m base s

staying_slot : (base : RunState) (newer : List SlotNote) (note : SlotNote) (i : ℕ) (node after : NodeState) → after.present ≡ node.present
    → after.unread ≡ node.unread + 1 → IsStaying base newer i node ⊎ IsLater base node → IsStaying base (note ∷ newer) i after ⊎ IsLater base after
staying_slot base newer note i node after same more (inl stays) =
    inl (record { ran = stays.ran; same = same ∙ stays.same; unread = omega (arith, more, stays.unread) })
staying_slot base newer note i node after same more (inr later) = inr (record {
  later = omega (arith, later.later, ap (λ (inc : Incarnation). inc.number) same);
  from = omega (arith, later.from, ap (λ (inc : Incarnation). inc.from) same);
})

no_acceptance_slot : (m : MsgKey) (base s : RunState) (rules : FaultScript) → length s.nodes ≤ most_nodes → NoAcceptanceIfCarriedOnce m base s → NoAcceptanceIfCarriedOnce m base (after_slot rules s)
no_acceptance_slot m base s rules few before once =
    let h = before (λ c q less a d. subst (IsCarriedOnce m) (after_slot-trace rules s) once (suc c) (suc q) (omega (arith, less)) a d) in
    record {
      newer = slot_note_of rules s ∷ h.newer;
      trace = after_slot-trace rules s ∙ ap (λ t. slot_note_of rules s ∷ t) h.trace;
      not_carried = λ c below carried. not_carried h c below (subst (λ t. Carried t c (accept_of_key m)) (after_slot-trace rules s) carried);
      who = λ i running.
          let ran = (running_before_slot rules s i running).0 in
          let within = runs_within s.nodes i ran in
          staying_slot base h.newer (slot_note_of rules s) i (node_at s.nodes i) (node_at (after_slot rules s).nodes i)
          (after_slot-present rules s i within) (after_slot-unread rules s i within) (h.who i ran);
      waits = λ i running w.
          let ran = (running_before_slot rules s i running).0 in
          h.waits i ran (waits_before (accept_of_key m) (given i (slot_note_of rules s)) (node_at s.nodes i).waiting
          (subst (λ (l : List FrameParts). waits (accept_of_key m) l ≡ true) (after_slot-waiting rules s i ran) w)).0;
    }
  where
    not_carried : (h : NoAcceptanceSince m base s) (c : ℕ) → c < suc (length h.newer) → Carried (slot_note_of rules s ∷ s.trace) c (accept_of_key m) → ⊥
    not_carried h zero below carried = let o = carried_offer rules s (accept_of_key m) few carried in h.waits o.0 o.1.running o.1.waiting
    not_carried h (suc c) below carried = h.not_carried c (omega (arith, below)) carried

no_acceptance_restarts : (scenario : ScenarioParts) (m : MsgKey) (base s : RunState) → 0 < length s.trace → NoAcceptanceIfCarriedOnce m base s
    → NoAcceptanceIfCarriedOnce m base (after_restarts scenario s)
no_acceptance_restarts scenario m base s some before once =
    let h = before (subst (IsCarriedOnce m) (after_restarts-trace scenario s) once) in
    let length_is : length s.trace ≡ length h.newer + length base.trace = ap length h.trace ∙ length-append h.newer base.trace in
    record {
      newer = h.newer;
      trace = after_restarts-trace scenario s ∙ h.trace;
      not_carried = λ c below carried. h.not_carried c below (subst (λ t. Carried t c (accept_of_key m)) (after_restarts-trace scenario s) carried);
      who = λ i running. elim (restarts_or_stays scenario s i) [
        | inl new ↦ rw new.is (inr (record { later = omega arith; from = omega (arith, some, length_is) }))
        | inr same ↦ rw same (h.who i (sym (ap (λ node. runs node) same) ∙ running))
      ];
      waits = λ i running. elim (restarts_or_stays scenario s i) [
        | inl new ↦ rw new.is (λ w. false≢true w)
        | inr same ↦ rw same (h.waits i (sym (ap (λ node. runs node) same) ∙ running))
      ];
    }

-- ---- a turn since then

-- a notice that is as old as the state, does not come to a node that began later
pub unseen_later : (base : RunState) (newer T : List SlotNote) (node : NodeState) → T ≡ newer ++ base.trace
    → ((age : ℕ) → age < length T → (note_at T age).slot ≡ length T - 1 - age) → IsLater base node → (age : ℕ) → length newer ≤ age → age < length T
    → Sees node.present T age → ⊥
unseen_later base newer T node is numbered later age old there sees =
    let length_is : length T ≡ length newer + length base.trace = ap length is ∙ length-append newer base.trace in
    let from = sees_from node.present T age sees later.later in
    let number = numbered age there in
    let began = later.from in
    omega (arith, length_is, from, number, began, old, there)

-- of the node whose turn it is, over variables: `left` is what it has not read after the turn
turn_silent : (scenario : ScenarioParts) (m : MsgKey) (base : RunState) (newer T : List SlotNote) (i : ℕ) (node : NodeState) (left q : ℕ)
    → T ≡ newer ++ base.trace → IsQuiet scenario base → ((age : ℕ) → age < length T → (note_at T age).slot ≡ length T - 1 - age)
    → ((c : ℕ) → c < length newer → Carried T c (accept_of_key m) → ⊥) → IsCarriedOnce m T → Done T q m → length newer ≤ q
    → IsStaying base newer i node ⊎ IsLater base node → node.unread ≡ suc left → node.unread ≤ length T
    → (waits (accept_of_key m) node.waiting ≡ true → ⊥)
    → let now : List NoticeKind = gave i (seen node.present T) left ∷ past i (seen node.present T) node.unread in
    waits (accept_of_key m) (waiting_after (turn_effects (scenario_for scenario node.present) i now) node.waiting) ≡ true → ⊥
turn_silent scenario m base newer T i node left q is quiet numbered not_carried once d since who next short none h =
    elim (asked_then sc i (gave i (seen inc T) left) (past i (seen inc T) node.unread) node.waiting m h) [
      | inl old ↦ none old
      | inr asks ↦ elim (cases_lt left (length newer)) [
        | inl fresh ↦ at_fresh fresh asks.1
        | inr old ↦ elim who [
          | inr later ↦ unseen_later base newer T node is numbered later left old (omega (arith, next, short)) (seen_cause asks.1)
          | inl stays ↦ at_old old stays
        ]
      ]
    ]
  where
    inc : Incarnation
    inc = node.present

    sc : ScenarioParts
    sc = scenario_for scenario inc

    got_there : is_got (accept_of_key m) (gave i (seen inc T) left) ≡ true → Sees inc T left × Carried T left (accept_of_key m)
    got_there got = carried_from inc T left (accept_of_key m) (got_carried (accept_of_key m) i (note_at (seen inc T) left) got)

    sent_there : is_sent (tot_of_key m) (gave i (seen inc T) left) ≡ true → Sees inc T left × Carried T left (tot_of_key m)
    sent_there sent = carried_from inc T left (tot_of_key m) (sent_carried (tot_of_key m) i (note_at (seen inc T) left) sent).0

    seen_cause : AskCause sc.params i m (gave i (seen inc T) left) (past i (seen inc T) node.unread) → Sees inc T left
    seen_cause (inl sent) = (sent_there sent.0).0
    seen_cause (inr got) = (got_there got.0).0

    at_fresh : left < length newer → AskCause sc.params i m (gave i (seen inc T) left) (past i (seen inc T) node.unread) → ⊥
    at_fresh fresh (inl sent) = once left q (omega (arith, fresh, since)) (sent_there sent.0).1 d
    at_fresh fresh (inr got) = not_carried left fresh (got_there got.0).1

    at_old : length newer ≤ left → IsStaying base newer i node → ⊥
    at_old old stays =
        let v : ℕ = left - length newer in
        let at : left ≡ length newer + v = omega (arith, old) in
        let whole : past i (seen inc T) left ≡ gave i (seen inc T) left ∷ past i (seen inc T) node.unread =
        past_next i (seen inc T) left (omega (arith, next, short, length-seen inc T))
        ∙ ap (λ u. gave i (seen inc T) left ∷ past i (seen inc T) u) (sym next) in
        let older : past i (seen inc T) left ≡ past i (seen inc base.trace) v =
        ap (λ t. past i (seen inc t) left) is ∙ ap (past i (seen inc (newer ++ base.trace))) at ∙ past_older i inc newer base.trace v in
        elim (waits-from_after (accept_of_key m) (turn_effects sc i (gave i (seen inc T) left ∷ past i (seen inc T) node.unread)) node.waiting h) [
          | inl old ↦ none old
          | inr asks ↦
              quiet_asks scenario base quiet i stays.ran m v (omega (arith, at, next, stays.unread))
              (subst (λ (k : Incarnation). AsksFor m i (scenario_for scenario k) (past i (seen k base.trace) v)) stays.same
              (subst (AsksFor m i sc) (sym whole ∙ older) asks))
        ]

read_one : (base : RunState) (newer : List SlotNote) (i : ℕ) (node : NodeState) (w : List FrameParts)
    → IsStaying base newer i node ⊎ IsLater base node
    → let after : NodeState = record node { unread = node.unread - 1; waiting = w } in IsStaying base newer i after ⊎ IsLater base after
read_one base newer i node w (inl stays) = inl (record { ran = stays.ran; same = stays.same; unread = omega (arith, stays.unread) })
read_one base newer i node w (inr later) = inr (record { later = later.later; from = later.from })

no_acceptance_turn : (scenario : ScenarioParts) (m : MsgKey) (base s : RunState) → IsQuiet scenario base → (q : ℕ) → Done base.trace q m → (i : ℕ)
    → IsOrderly scenario.params.nodes s → MayTurn s i → NoAcceptanceIfCarriedOnce m base s → NoAcceptanceIfCarriedOnce m base (after_turn scenario i s)
no_acceptance_turn scenario m base s quiet q d i o may before once =
    let once' : IsCarriedOnce m s.trace = subst (IsCarriedOnce m) (after_turn-trace scenario i s) once in
    let h = before once' in
    let node = node_at s.nodes i in
    let after : ℕ → NodeState = λ k. node_at (after_turn scenario i s).nodes k in
    let short = o.unread i in
    let some = may.unread in
    let next : node.unread ≡ suc (node.unread - 1) = omega (arith, some) in
    let at : note_at s.trace (length h.newer + q) ≡ note_at base.trace q =
    ap (λ t. note_at t (length h.newer + q)) h.trace ∙ at_older h.newer base.trace q in
    let d' : Done s.trace (length h.newer + q) m = subst (λ (n : SlotNote). carries_clean (tot_of_key m) n ≡ true) (sym at) d in
    let ran : (j : ℕ) → runs (after j) ≡ true → runs (node_at s.nodes j) ≡ true =
    λ j running. sym (after_turn-runs scenario i s j may short) ∙ running in
    record {
      newer = h.newer;
      trace = after_turn-trace scenario i s ∙ h.trace;
      not_carried = λ c below carried. h.not_carried c below (subst (λ t. Carried t c (accept_of_key m)) (after_turn-trace scenario i s) carried);
      who = λ j running. elim (cases_eq j i) [
        | inl same ↦
            subst (λ k. IsStaying base h.newer k (after k) ⊎ IsLater base (after k)) (sym same)
            (subst (λ (n : NodeState). IsStaying base h.newer i n ⊎ IsLater base n) (sym (after_turn-node scenario i s may short))
            (read_one base h.newer i node (waiting_after _ _) (h.who i may.running)))
        | inr other ↦ rw (after_turn-other scenario i s j other) (h.who j (ran j running))
      ];
      waits = λ j running. elim (cases_eq j i) [
        | inl same ↦
            subst (λ k. waits (accept_of_key m) (after k).waiting ≡ true → ⊥) (sym same)
            (subst (λ (n : NodeState). waits (accept_of_key m) n.waiting ≡ true → ⊥) (sym (after_turn-node scenario i s may short))
            (rw (history-is i s)
            (turn_silent scenario m base h.newer s.trace i node (node.unread - 1) (length h.newer + q) h.trace quiet o.numbered h.not_carried once' d'
            (omega arith) (h.who i may.running) next short (h.waits i may.running))))
        | inr other ↦ rw (after_turn-other scenario i s j other) (h.waits j (ran j running))
      ];
    }

-- ---- the rest of the journal

kept_after : (scenario : ScenarioParts) (P : RunState → Type 0) → IsKept scenario P → (s : RunState) (rest : List Step)
    → IsOrderly scenario.params.nodes s → P s → P (run_from scenario s rest)
unfolding run_from proceed
kept_after scenario P keeps s [] o p = p
kept_after scenario P keeps s (next ∷ rest) o p =
    let after = one next in
    kept_after scenario P keeps (after_step scenario s next) rest after.0 after.1
  where
    done_step : (made : Step) → is_done (reply scenario s made) ≡ true
        → IsOrderly scenario.params.nodes (proceed scenario s made) × P (proceed scenario s made)
    done_step step.Slot done =
        let rules = script scenario.rules in
        let some : 0 < length (after_slot rules s).trace = subst (λ trace. 0 < length trace) (sym (after_slot-trace rules s)) (omega arith) in (
          orderly_slot_step scenario s o,
          keeps.restarts (after_slot rules s) (orderly_slot scenario.params.nodes rules s o) some (keeps.slot s o (slot_done scenario s done) p),
        )
    done_step (step.Turn i) done =
        let may = turn_done scenario s i o.count done in
        (orderly_turn scenario.params.nodes scenario i s may o, keeps.turn s i o may p)

    one : (made : Step) → IsOrderly scenario.params.nodes (after_step scenario s made) × P (after_step scenario s made)
    one made = elim (cases_Bool (is_done (reply scenario s made))) [
      | inl done ↦ subst (λ t. IsOrderly scenario.params.nodes t × P t) (sym (step_is scenario s made done)) (done_step made done)
      | inr refused ↦ subst (λ t. IsOrderly scenario.params.nodes t × P t) (sym (step_refused scenario s made refused)) (o, p)
    ]

pub no_acceptance_after : (scenario : ScenarioParts) → scenario.params.nodes ≤ most_nodes → (m : MsgKey) (base : RunState)
    → IsOrderly scenario.params.nodes base → IsQuiet scenario base → (q : ℕ) → Done base.trace q m → (rest : List Step)
    → IsCarriedOnce m (run_from scenario base rest).trace
    → NoAcceptanceSince m base (run_from scenario base rest)
no_acceptance_after scenario few m base o quiet q d rest =
    kept_after scenario (NoAcceptanceIfCarriedOnce m base)
    (record {
      slot = λ s ordered may h. no_acceptance_slot m base s (script scenario.rules) (subst (λ n. n ≤ most_nodes) (sym ordered.count) few) h;
      restarts = λ s ordered some h. no_acceptance_restarts scenario m base s some h;
      turn = λ s i ordered may h. no_acceptance_turn scenario m base s quiet q d i ordered may h;
    })
    base rest o
    (λ once. record {
      newer = [];
      trace = refl;
      not_carried = λ c below carried. omega (arith, below);
      who = λ i running. inl (record { ran = running; same = refl; unread = omega arith });
      waits = λ i running w. quiet_waits scenario base quiet i running m w;
    })
