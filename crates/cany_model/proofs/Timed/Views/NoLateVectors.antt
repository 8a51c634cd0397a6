-- From a quiet slot of the exchange of a membership cycle on no vector of the cycle is carried, and
-- nobody waits with one.
use Rattle.std.proofs.Common.{◌≡◌, ℕ, suc, ◌+◌, ◌-◌, ◌*◌, ◌<◌, ◌≤◌, ◌⊎◌, inl, inr, Bool, true, false, nat_lt, List, [], ◌∷◌, ◌++◌, length, map, drop, Option, Some, None, Contains, refl, ap, sym, ◌∙◌, subst, arith, append-nil, append_assoc, length-append, length-drop}
use Rattle.std.proofs.Math.Nat.{div-lt_iff_lt-mul}
use Rattle.std.specs.List.{AllByRecursion, list_any}
use Rattle.std.proofs.Math.Seq.{drop-append-add}
use Rattle.std.proofs.lemmas.Bool.{and_from, both_ways, cases_eq, cases_lt, cases_order, lt-ltb}
use Rattle.std.proofs.lemmas.List.{length-map, map-append}
use Rattle.std.proofs.lemmas.Nat.{le-div}
use Rattle.cany_base.specs.Limits.{most_nodes}
use Rattle.cany_base.specs.declared.class.Class.TheVariants as class
use Rattle.cany_base.specs.declared.format.Format.{Format}
use Rattle.cany_base.specs.declared.notice.NoticeKind.{NoticeKind}
use Rattle.cany_base.specs.declared.notice.NoticeKind.TheVariants.{Idle, Got, Sent, Bad}
use Rattle.cany_base.specs.declared.slot_note.SlotNote.{SlotNote}
use Rattle.cany_base.specs.declared.step.Step.{Step}
use Rattle.cany_base.specs.declared.step.Step.TheVariants as step
use Rattle.cany_base.specs.Frame.{FrameParts}
use Rattle.cany_base.specs.Nodes.{Nodes}
use Rattle.cany_base.specs.Params.{Parameters}
use Rattle.cany_base.specs.Scenario.{ScenarioParts}
use Rattle.cany_model.specs.Bus.Frames.{Identity, identity_of, is_of, same_class}
use Rattle.cany_model.specs.Bus.History.{as_seen, given, history, seen, trace_for}
use Rattle.cany_model.specs.Bus.Restart.{after_restarts, first_cycle}
use Rattle.cany_model.specs.Runs.Run.{after_step, after_turn, is_done, proceed, reply, run}
use Rattle.cany_model.specs.Bus.Slot.{FaultScript, after_slot, script, slot_note_of}
use Rattle.cany_model.specs.Bus.State.{Incarnation, NodeState, RunState, node_at, opening, runs}
use Rattle.cany_model.specs.Promises.Quiet.{IsQuiet, asks_as, asks_at, asks_for_first_class}
use Rattle.cany_model.specs.Rules.Effect.{waiting_after}
use Rattle.cany_model.specs.Rules.Notices.{is_early_frame}
use Rattle.cany_model.specs.Rules.Turn.{scenario_for, turn_effects}
use Rattle.cany_model.specs.Rules.Vectors.{rha_of, vector_in}
use Rattle.cany_model.proofs.Among.{Contains-cons, Contains-head}
use Rattle.cany_model.proofs.Bus.Identities.{same_class_self, same_identity-true}
use Rattle.cany_model.proofs.Runs.Journals.{run_push, step_is, step_refused}
use Rattle.cany_model.proofs.Bus.Notes.{given-Got, note_of-offered}
use Rattle.cany_model.proofs.Bus.Restarts.{after_restarts-trace, restarts_or_stays}
use Rattle.cany_model.proofs.Runs.Runs.{IsOrderly, orderly, turn_done}
use Rattle.cany_model.proofs.Bus.Seen.{Numbered, history-is, length-seen, seen_frame, trace_for-is}
use Rattle.cany_model.proofs.Bus.States.{each_in_front, note_at, runs_within}
use Rattle.cany_model.proofs.Runs.Steps.{MayTurn, after_slot-present, after_slot-trace, after_slot-unread, after_slot-waiting, after_turn-node, after_turn-other, after_turn-present, after_turn-runs, after_turn-trace, next_notice, running_before_slot}
use Rattle.cany_model.proofs.Promises.OwnSlotsAlone.{AllWaitForOwnSlots, IsTimely, own_slots_alone_run, own_slots_alone_turns, run_numbered}
use Rattle.cany_model.proofs.Promises.FirstCycles.{has_first_cycle}
use Rattle.cany_model.proofs.Promises.KeptVectors.{vector_at}
use Rattle.cany_model.proofs.Promises.LateVectors.{late_vectors}
use Rattle.cany_model.proofs.Rules.IncarnationFacts.{effects_for-is}
use Rattle.cany_model.proofs.Rules.Site.VectorFacts.{carries_vector}
use Rattle.cany_model.proofs.Runs.PresentIncarnations.{each_present}
use Rattle.cany_model.proofs.Timed.Common.Ages.{gave, past}
use Rattle.cany_model.proofs.Timed.Order.NoLateAcceptances.{IsStaying}
use Rattle.cany_model.proofs.Timed.Order.TotRun.{past_next}
use Rattle.cany_model.proofs.Timed.Views.VectorHeld.{held_none, held_some}
use Rattle.cany_model.proofs.Timed.Views.VectorQuiet.{CarriedLate, SeesCycle, held_unasked, none_held}
use Rattle.cany_model.proofs.Timed.Views.VectorTurns.{turn_ends, turn_exchanges, turn_other, turn_outside}
use Rattle.cany_model.proofs.Timed.Views.VectorLastEffect.{IsCycle, brings, brought_last_effect}
use Rattle.cany_model.proofs.Timed.Common.LastEffect.{NoEffect, Withdrawn, by_last_effect, held, held_after, last_effect}

-- ---- incarnations

-- one that is not from the first slot on is that of a restarted node
pub later_from : (scenario : ScenarioParts) (journal : List Step) (i : ℕ) → 0 < (node_at (run scenario journal).nodes i).present.from
    → 0 < (node_at (run scenario journal).nodes i).present.number
later_from scenario journal i some =
    each_present scenario (λ inc. 0 < inc.from → 0 < inc.number) (λ from. absurd (omega (arith, from))) (λ slot inc from. omega arith) journal i some

-- the first cycle of a slot is the first that does not start before it
first_after : (p : Parameters) (slot k : ℕ) → 0 < p.cycle → k * p.cycle < slot → k < first_cycle p slot
first_after p slot k some after =
    let next : suc k * p.cycle ≡ k * p.cycle + p.cycle = grind arith in
    let least : suc k ≤ first_cycle p slot = le-div (suc k) (slot + (p.cycle - 1)) p.cycle some (omega (arith, next, after, some)) in
    omega (arith, least)

first_before : (p : Parameters) (slot k : ℕ) → 0 < p.cycle → slot ≤ k * p.cycle → first_cycle p slot ≤ k
first_before p slot k some before =
    let next : suc k * p.cycle ≡ k * p.cycle + p.cycle = grind arith in
    let below : first_cycle p slot < suc k = (div-lt_iff_lt-mul some).1 (omega (arith, next, before, some)) in
    omega (arith, below)

-- so an incarnation that takes part at the start of a cycle sees its vectors, and one that takes
-- part only later does not
pub sees_cycle : (scenario : ScenarioParts) (journal : List Step) (k i : ℕ) → 0 < scenario.params.cycle
    → (node_at (run scenario journal).nodes i).present.from ≤ k * scenario.params.cycle
    → SeesCycle scenario.params k (node_at (run scenario journal).nodes i).present
sees_cycle scenario journal k i some from = record {
  from = from;
  first = λ later.
      let inc : Incarnation = (node_at (run scenario journal).nodes i).present in
      omega (arith, has_first_cycle scenario journal i later, first_before scenario.params inc.from k some from);
}

pub record IsAfterCycle (k : ℕ) (inc : Incarnation) : Type 0 where
  pub later : 0 < inc.number
  pub cycle : k < inc.cycle

pub after_cycle : (scenario : ScenarioParts) (journal : List Step) (k i : ℕ) → 0 < scenario.params.cycle
    → k * scenario.params.cycle < (node_at (run scenario journal).nodes i).present.from
    → IsAfterCycle k (node_at (run scenario journal).nodes i).present
after_cycle scenario journal k i some from =
    let inc : Incarnation = (node_at (run scenario journal).nodes i).present in
    let later = later_from scenario journal i (omega (arith, from)) in
    record { later = later; cycle = omega (arith, has_first_cycle scenario journal i later, first_after scenario.params inc.from k some from) }

-- ---- vectors of a cycle are carried after its start

carried_late_of : (p : Parameters) (k : ℕ) (trace : List SlotNote) → Numbered trace
    → ((note : SlotNote) (f : FrameParts) → Contains trace note → note.frame ≡ Some f → f.class ≡ class.Rha → f.number * p.cycle < note.slot)
    → CarriedLate p k trace
carried_late_of p k [] numbered h = tt
carried_late_of p k (note ∷ trace) numbered h = (
  λ f frame rha number.
      let late = h note f (Contains-head note trace) frame rha in
      let same : f.number * p.cycle ≡ k * p.cycle = ap (λ n. n * p.cycle) number in
      omega (arith, late, same, numbered.0),
  carried_late_of p k trace numbered.1 (λ n f there. h n f (Contains-cons note n trace there)),
)

pub carried_late : (scenario : ScenarioParts) (journal : List Step) → scenario.params.nodes ≤ most_nodes → (k : ℕ)
    → CarriedLate scenario.params k (run scenario journal).trace
carried_late scenario journal few k =
    let s : RunState = run scenario journal in
    carried_late_of scenario.params k s.trace (run_numbered scenario.params.nodes s (orderly scenario journal))
    (late_vectors scenario journal few).carried

-- ---- from a front of a journal on

-- what holds of the run of a front, and is kept by each step that is done, holds of the run of the
-- journal
kept_after : (scenario : ScenarioParts) (P : RunState → Type 0)
    → ((front : List Step) (next : Step) → is_done (reply scenario (run scenario front) next) ≡ true → P (run scenario front)
    → P (proceed scenario (run scenario front) next))
    → (front rest : List Step) → P (run scenario front) → P (run scenario (front ++ rest))
kept_after scenario P keeps front [] h = subst (λ journal. P (run scenario journal)) (sym (append-nil front)) h
kept_after scenario P keeps front (next ∷ rest) h =
    subst (λ journal. P (run scenario journal)) (append_assoc front (next ∷ []) rest)
    (kept_after scenario P keeps (front ++ next ∷ []) rest
    (subst P (sym (run_push scenario (opening scenario.params.nodes) front next))
    (by_reply (is_done (reply scenario (run scenario front) next)) refl)))
  where
    by_reply : (b : Bool) → is_done (reply scenario (run scenario front) next) ≡ b → P (after_step scenario (run scenario front) next)
    by_reply true done = subst P (sym (step_is scenario (run scenario front) next done)) (keeps front next done h)
    by_reply false refused = subst P (sym (step_refused scenario (run scenario front) next refused)) h

-- ---- nothing of the cycle

-- the slot carried no vector of the cycle
abbrev pub NoVector : ℕ → SlotNote → Type 0
NoVector k note = (f : FrameParts) → note.frame ≡ Some f → f.class ≡ class.Rha → f.number ≡ k → ⊥

-- nobody waits with one of it
abbrev pub NoneWaits : ℕ → RunState → Type 0
NoneWaits k s = (i : ℕ) → runs (node_at s.nodes i) ≡ true → (r : ℕ) → held (rha_of k r) (node_at s.nodes i).waiting ≡ []

-- since an earlier state no slot carried one of it, nobody waits with one, and a node that takes
-- part since the cycle starts ran then
pub record NoVectorSince (p : Parameters) (k : ℕ) (base s : RunState) : Type 0 where
  pub newer : List SlotNote
  pub trace : s.trace ≡ newer ++ base.trace
  pub no_vectors : AllByRecursion (NoVector k) newer
  pub there : (i : ℕ) → runs (node_at s.nodes i) ≡ true → (node_at s.nodes i).present.from ≤ k * p.cycle → IsStaying base newer i (node_at s.nodes i)
  pub none : NoneWaits k s

no_vector_first : (scenario : ScenarioParts) (k : ℕ) (base : RunState) → IsQuiet scenario base → NoVectorSince scenario.params k base base
no_vector_first scenario k base quiet = record {
  newer = [];
  trace = refl;
  no_vectors = tt;
  there = λ i running from. record { ran = running; same = refl; unread = omega arith };
  none = λ i running r. none_held k r (node_at base.nodes i).waiting (quiet.waits i running);
}

-- a frame that is none of the cycle's waits is carried
no_vector : (k : ℕ) (rules : FaultScript) (s : RunState) → NoneWaits k s → NoVector k (slot_note_of rules s)
no_vector k rules s none f frame rha number =
    let offer = note_of-offered rules s f frame in
    let mine : rha_of k f.node ≡ identity_of f = λ d. record { class = sym rha d; number = sym number d; node = f.node } in
    held_some (rha_of k f.node) f (node_at s.nodes offer.node).waiting mine offer.waits (none offer.node offer.running f.node)

no_vector_slot : (p : Parameters) (k : ℕ) (base : RunState) (rules : FaultScript) (s : RunState) → NoVectorSince p k base s
    → NoVectorSince p k base (after_slot rules s)
no_vector_slot p k base rules s h = record {
  newer = slot_note_of rules s ∷ h.newer;
  trace = after_slot-trace rules s ∙ ap (λ t. slot_note_of rules s ∷ t) h.trace;
  no_vectors = (no_vector k rules s h.none, h.no_vectors);
  there = λ i running from.
      let ran = (running_before_slot rules s i running).0 in
      let below = runs_within s.nodes i ran in
      let same = after_slot-present rules s i below in
      let was = h.there i ran (omega (arith, from, ap (λ (inc : Incarnation). inc.from) same)) in
      record { ran = was.ran; same = same ∙ was.same; unread = omega (arith, was.unread, after_slot-unread rules s i below) };
  none = λ i running r.
      let ran = (running_before_slot rules s i running).0 in
      ap (held (rha_of k r)) (after_slot-waiting rules s i ran)
      ∙ held_none (rha_of k r) (given i (slot_note_of rules s)) (node_at s.nodes i).waiting (h.none i ran r);
}

no_vector_restarts : (scenario : ScenarioParts) (k : ℕ) (base s : RunState) → k * scenario.params.cycle < length base.trace
    → NoVectorSince scenario.params k base s → NoVectorSince scenario.params k base (after_restarts scenario s)
no_vector_restarts scenario k base s from h = record {
  newer = h.newer;
  trace = after_restarts-trace scenario s ∙ h.trace;
  no_vectors = h.no_vectors;
  there = λ i running early. elim (restarts_or_stays scenario s i) [
    | inl new ↦
        let long : length s.trace ≡ length h.newer + length base.trace = ap length h.trace ∙ length-append h.newer base.trace in
        absurd (omega (arith, early, ap (λ (node : NodeState). node.present.from) new.is, long, from))
    | inr same ↦
        let was = h.there i (sym (ap (λ node. runs node) same) ∙ running)
        (omega (arith, early, ap (λ (node : NodeState). node.present.from) same)) in
        record {
          ran = was.ran;
          same = ap (λ (node : NodeState). node.present) same ∙ was.same;
          unread = omega (arith, was.unread, ap (λ (node : NodeState). node.unread) same);
        }
  ];
  none = λ i running r. elim (restarts_or_stays scenario s i) [
    | inl new ↦ ap (λ (node : NodeState). held (rha_of k r) node.waiting) new.is
    | inr same ↦
        ap (λ (node : NodeState). held (rha_of k r) node.waiting) same ∙ h.none i (sym (ap (λ node. runs node) same) ∙ running) r
  ];
}

-- ---- a turn

-- a notice of a slot that carried none of the cycle brings none
pub brings_none : (format : Format) (i k : ℕ) (note : SlotNote) → NoVector k note → brings format k (given i note) ≡ None
brings_none format i k note none = by_notice (given i note) refl
  where
    by_vector : (f : FrameParts) → given i note ≡ Got f → (o : Option Nodes) → vector_in format k f ≡ o → o ≡ None
    by_vector f got None is = refl
    by_vector f got (Some w) is = let of = carries_vector format k f w is in absurd (none f (given-Got i note f got).0 of.0 of.1)

    by_notice : (e : NoticeKind) → given i note ≡ e → brings format k e ≡ None
    by_notice Idle got = refl
    by_notice Bad got = refl
    by_notice (Sent f) got = refl
    by_notice (Got f) got = by_vector f got (vector_in format k f) refl

module _ (scenario : ScenarioParts) (k i : ℕ) (c : IsCycle scenario.params k) where
  -- the turn of such a notice after the start of the cycle asks for no vector of it
  asks_no_vector : (e : NoticeKind) (before : List NoticeKind) → k * scenario.params.cycle < length before → brings scenario.params.format k e ≡ None
      → (last_effect (rha_of k i) (turn_effects scenario i (e ∷ before)) ≡ NoEffect) ⊎ (last_effect (rha_of k i) (turn_effects scenario i (e ∷ before)) ≡ Withdrawn)
  asks_no_vector e before from none = elim (cases_order (length before) (k * scenario.params.cycle + scenario.params.bound)) [
    | inl at ↦ elim (turn_ends scenario k i c e before at).last_effect [ inl gone ↦ inr gone | inr no_effect ↦ inl no_effect.0 ]
    | inr (inl earlier) ↦ inl ((turn_exchanges scenario k i c e before from earlier).last_effect
        ∙ ap (brought_last_effect scenario.params scenario.inc k i (e ∷ before) (vector_at scenario i before)) none)
    | inr (inr later) ↦ inl (turn_outside scenario k i c e before (inr later))
  ]

  no_vector_notice : (e : NoticeKind) (before : List NoticeKind) → k * scenario.params.cycle < length before → brings scenario.params.format k e ≡ None
      → (w : List FrameParts) (r : ℕ) → held (rha_of k r) w ≡ [] → held (rha_of k r) (waiting_after (turn_effects scenario i (e ∷ before)) w) ≡ []
  no_vector_notice e before from none w r free =
      held_after (rha_of k r) (turn_effects scenario i (e ∷ before)) w ∙ elim (cases_eq r i) [
        | inl mine ↦
            subst (λ q. by_last_effect (last_effect (rha_of k q) (turn_effects scenario i (e ∷ before))) (held (rha_of k q) w) ≡ []) (sym mine)
            (elim (asks_no_vector e before from none) [
              | inl no_effect ↦ ap (λ z. by_last_effect z (held (rha_of k i) w)) no_effect ∙ subst (λ q. held (rha_of k q) w ≡ []) mine free
              | inr gone ↦ ap (λ z. by_last_effect z (held (rha_of k i) w)) gone
            ])
        | inr other ↦
            ap (λ z. by_last_effect z (held (rha_of k r) w)) (turn_other scenario i e before k r (λ q. other (ap (λ (y : Identity). y.node) q))) ∙ free
      ]

-- The turn of a notice of the newer slots, none of which carried a vector of the cycle, or of one
-- of the older slots that were unread when none of their turns would have asked for a vector.
no_vector_waits : (scenario : ScenarioParts) (k i : ℕ) → IsCycle scenario.params k → (newer older : List SlotNote) → AllByRecursion (NoVector k) newer
    → k * scenario.params.cycle < length older → (u unread : ℕ) → 0 < u → u ≤ length (newer ++ older) → u ≤ length newer + unread
    → ((age : ℕ) → age < unread → list_any asks_for_first_class (turn_effects scenario i (past i older age)) ≡ false)
    → (w : List FrameParts) (r : ℕ) → held (rha_of k r) w ≡ []
    → held (rha_of k r) (waiting_after (turn_effects scenario i (gave i (newer ++ older) (u - 1) ∷ past i (newer ++ older) u)) w) ≡ []
no_vector_waits scenario k i c newer older no_vectors from u unread some short few asks w r free = elim (cases_lt (u - 1) (length newer)) [
  | inl new ↦
      let size : length (past i (newer ++ older) u) ≡ length (newer ++ older) - u =
      length-map (drop u (newer ++ older)) (given i) ∙ length-drop u (newer ++ older) in
      no_vector_notice scenario k i c (gave i (newer ++ older) (u - 1)) (past i (newer ++ older) u)
      (omega (arith, size, length-append newer older, from, new, some))
      (brings_none scenario.params.format i k (note_at (newer ++ older) (u - 1)) (each_in_front (NoVector k) newer older (u - 1) no_vectors new)) w r free
  | inr old ↦
      let m : ℕ = u - 1 - length newer in
      let split : u - 1 ≡ length newer + m = omega (arith, old) in
      let next : suc (u - 1) ≡ u = omega (arith, some) in
      let whole : past i (newer ++ older) (u - 1) ≡ gave i (newer ++ older) (u - 1) ∷ past i (newer ++ older) u =
      past_next i (newer ++ older) (u - 1) (omega (arith, some, short))
      ∙ ap (λ n. gave i (newer ++ older) (u - 1) ∷ past i (newer ++ older) n) next in
      let there : past i (newer ++ older) (u - 1) ≡ past i older m =
      ap (map (given i)) (ap (λ n. drop n (newer ++ older)) split ∙ drop-append-add newer older m) in
      held_unasked k r (turn_effects scenario i (gave i (newer ++ older) (u - 1) ∷ past i (newer ++ older) u)) w
      (subst (λ read. list_any asks_for_first_class (turn_effects scenario i read) ≡ false) (sym there ∙ whole) (asks m (omega (arith, some, few, old)))) free
]

-- what an incarnation sees carries none either
pub no_vector_seen : (k : ℕ) (inc : Incarnation) (notes : List SlotNote) → AllByRecursion (NoVector k) notes → AllByRecursion (NoVector k) (seen inc notes)
no_vector_seen k inc [] h = tt
no_vector_seen k inc (note ∷ notes) h = (λ f frame. h.0 f (seen_frame inc note f frame), no_vector_seen k inc notes h.1)

-- none of the unread notices makes the node ask, told by what its incarnation sees
pub unasked_seen : (scenario : ScenarioParts) (s : RunState) (i age : ℕ) → asks_at scenario s i age ≡ false
    → let inc = (node_at s.nodes i).present in
    list_any asks_for_first_class (turn_effects (scenario_for scenario inc) i (past i (seen inc s.trace) age)) ≡ false
unfolding asks_as
unasked_seen scenario s i age h =
    let inc : Incarnation = (node_at s.nodes i).present in
    sym (ap (list_any asks_for_first_class) (effects_for-is scenario inc i (map (given i) (drop age (trace_for inc.number inc s.trace))))
    ∙ ap (λ trace. list_any asks_for_first_class (turn_effects (scenario_for scenario inc) i (map (given i) (drop age trace)))) (trace_for-is inc s.trace)) ∙ h

-- one of a later cycle waits with none
none_early : (k r : ℕ) (inc : Incarnation) → k < inc.cycle → (w : List FrameParts) → AllByRecursion (IsTimely inc) w → held (rha_of k r) w ≡ []
none_early k r inc later [] h = refl
none_early k r inc later (f ∷ w) h = rw (other (is_of (rha_of k r) f) refl) (none_early k r inc later w h.1)
  where
    other : (b : Bool) → is_of (rha_of k r) f ≡ b → is_of (rha_of k r) f ≡ false
    other false e = e
    other true e =
        let same : rha_of k r ≡ identity_of f = same_identity-true (rha_of k r) (identity_of f) e in
        let rha : same_class f.class class.Rha ≡ true = sym (ap (λ (x : Identity). same_class x.class class.Rha) same) ∙ same_class_self class.Rha in
        let number : k ≡ f.number = ap (λ (x : Identity). x.number) same in
        absurd (both_ways (is_early_frame inc.cycle f) h.0
        (and_from (same_class f.class class.Rha) (nat_lt f.number inc.cycle) rha (lt-ltb f.number inc.cycle (omega (arith, number, later)))))

module _ (scenario : ScenarioParts) (k : ℕ) (c : IsCycle scenario.params k) (base s : RunState) (quiet : IsQuiet scenario base)
    (from : k * scenario.params.cycle < length base.trace) (i : ℕ) (may : MayTurn s i) (o : IsOrderly scenario.params.nodes s)
  where
    abbrev start : ℕ
    start = k * scenario.params.cycle

    abbrev inc : Incarnation
    inc = (node_at s.nodes i).present

    abbrev after : RunState
    after = after_turn scenario i s

    turn_none : AllWaitForOwnSlots after → (start < inc.from → IsAfterCycle k inc) → NoVectorSince scenario.params k base s → (r : ℕ)
        → held (rha_of k r) (node_at after.nodes i).waiting ≡ []
    turn_none own_slots_alone late h r = elim (cases_lt start inc.from) [
      | inl l ↦
          let same : (node_at after.nodes i).present ≡ inc = after_turn-present scenario i s i may (o.unread i) in
          let is = late l in
          let number = ap (λ (n : Incarnation). n.number) same in
          let cycle = ap (λ (n : Incarnation). n.cycle) same in
          none_early k r (node_at after.nodes i).present (omega (arith, cycle, is.cycle)) (node_at after.nodes i).waiting
          ((own_slots_alone i (after_turn-runs scenario i s i may (o.unread i) ∙ may.running)).timely (omega (arith, number, is.later)))
      | inr early ↦
          let was = h.there i may.running early in
          let u : ℕ = (node_at s.nodes i).unread in
          let w : List FrameParts = (node_at s.nodes i).waiting in
          let newer : List SlotNote = seen inc h.newer in
          let older : List SlotNote = seen inc base.trace in
          let whole : seen inc s.trace ≡ newer ++ older = ap (seen inc) h.trace ∙ map-append (as_seen inc) h.newer base.trace in
          let waits : (node_at after.nodes i).waiting ≡ waiting_after (turn_effects (scenario_for scenario inc) i (next_notice s i ∷ history i s)) w =
          ap (λ (node : NodeState). node.waiting) (after_turn-node scenario i s may (o.unread i)) in
          let read : next_notice s i ∷ history i s ≡ gave i (newer ++ older) (u - 1) ∷ past i (newer ++ older) u =
          ap (λ l. next_notice s i ∷ l) (history-is i s) ∙ ap (λ t. gave i t (u - 1) ∷ past i t u) whole in
          let unasked : (age : ℕ) → age < (node_at base.nodes i).unread
          → list_any asks_for_first_class (turn_effects (scenario_for scenario inc) i (past i older age)) ≡ false =
          λ age l.
          subst (λ (n : Incarnation). list_any asks_for_first_class (turn_effects (scenario_for scenario n) i (past i (seen n base.trace) age)) ≡ false)
          (sym was.same) (unasked_seen scenario base i age (quiet.asks i was.ran age l)) in
          ap (held (rha_of k r)) (waits ∙ ap (λ l. waiting_after (turn_effects (scenario_for scenario inc) i l) w) read)
          ∙ no_vector_waits (scenario_for scenario inc) k i c newer older (no_vector_seen k inc h.newer h.no_vectors)
          (omega (arith, from, length-seen inc base.trace))
          u (node_at base.nodes i).unread may.unread (omega (arith, o.unread i, ap length whole, length-seen inc s.trace))
          (omega (arith, was.unread, length-seen inc h.newer)) unasked w r (h.none i may.running r)
    ]

    no_vector_turn : AllWaitForOwnSlots after → (start < inc.from → IsAfterCycle k inc) → NoVectorSince scenario.params k base s → NoVectorSince scenario.params k base after
    no_vector_turn own_slots_alone late h =
        let short = o.unread i in
        let ran : (j : ℕ) → runs (node_at after.nodes j) ≡ true → runs (node_at s.nodes j) ≡ true =
        λ j running. sym (after_turn-runs scenario i s j may short) ∙ running in
        record {
          newer = h.newer;
          trace = after_turn-trace scenario i s ∙ h.trace;
          no_vectors = h.no_vectors;
          there = λ j running early.
              let same = after_turn-present scenario i s j may short in
              let was = h.there j (ran j running) (omega (arith, early, ap (λ (n : Incarnation). n.from) same)) in
              record {
                ran = was.ran;
                same = same ∙ was.same;
                unread = elim (cases_eq j i) [
                  | inl mine ↦
                      let now : (node_at after.nodes i).unread ≡ (node_at s.nodes i).unread - 1 =
                      ap (λ (node : NodeState). node.unread) (after_turn-node scenario i s may short) in
                      let old = subst (λ m. (node_at s.nodes m).unread ≤ length h.newer + (node_at base.nodes m).unread) mine was.unread in
                      subst (λ m. (node_at after.nodes m).unread ≤ length h.newer + (node_at base.nodes m).unread) (sym mine)
                      (omega (arith, now, old))
                  | inr other ↦ omega (arith, was.unread, ap (λ (node : NodeState). node.unread) (after_turn-other scenario i s j other))
                ];
              };
          none = λ j running r. elim (cases_eq j i) [
            | inl mine ↦ subst (λ m. held (rha_of k r) (node_at after.nodes m).waiting ≡ []) (sym mine) (turn_none own_slots_alone late h r)
            | inr other ↦
                ap (λ (node : NodeState). held (rha_of k r) node.waiting) (after_turn-other scenario i s j other) ∙ h.none j (ran j running) r
          ];
        }

-- ---- the rest of a journal

no_vector_step : (scenario : ScenarioParts) (k : ℕ) → IsCycle scenario.params k → (base : RunState) → IsQuiet scenario base
    → k * scenario.params.cycle < length base.trace → (front : List Step) (next : Step) → is_done (reply scenario (run scenario front) next) ≡ true
    → NoVectorSince scenario.params k base (run scenario front) → NoVectorSince scenario.params k base (proceed scenario (run scenario front) next)
unfolding proceed
no_vector_step scenario k c base quiet from front step.Slot done h =
    let rules : FaultScript = script scenario.rules in
    no_vector_restarts scenario k base (after_slot rules (run scenario front)) from (no_vector_slot scenario.params k base rules (run scenario front) h)
no_vector_step scenario k c base quiet from front (step.Turn i) done h =
    let s : RunState = run scenario front in
    let o = orderly scenario front in
    let may = turn_done scenario s i o.count done in
    no_vector_turn scenario k c base s quiet from i may o (own_slots_alone_turns scenario i s may o (own_slots_alone_run scenario front))
    (after_cycle scenario front k i (omega (arith, c.long))) h

-- so the run of a journal is no_vectors after a quiet slot of it
pub no_vector_cycle : (scenario : ScenarioParts) (k : ℕ) → IsCycle scenario.params k → (front rest : List Step) → IsQuiet scenario (run scenario front)
    → k * scenario.params.cycle < length (run scenario front).trace
    → NoVectorSince scenario.params k (run scenario front) (run scenario (front ++ rest))
no_vector_cycle scenario k c front rest quiet from =
    kept_after scenario (NoVectorSince scenario.params k (run scenario front)) (no_vector_step scenario k c (run scenario front) quiet from) front rest
    (no_vector_first scenario k (run scenario front) quiet)
