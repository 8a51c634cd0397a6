-- Few life signs: each node, whatever its incarnations, sends at most one in any bound + lag
-- consecutive slots.
use Rattle.std.proofs.Common.{◌≡◌, ℕ, zero, suc, ◌+◌, ◌-◌, ◌<◌, ◌≤◌, ◌⊎◌, ◌==◌, inl, inr, Bool, true, false, List, [], ◌∷◌, ◌++◌, Contains, count_by, drop, length, take, refl, ap, sym, ◌∙◌, subst, arith, length-drop}
use Rattle.std.specs.List.{AllByRecursion}
use Rattle.std.proofs.lemmas.Bool.{and_from, and_parts, cases_Bool, eq-eqb, false≢true}
use Rattle.std.proofs.lemmas.List.{append-nil, append_assoc, length-map}
use Rattle.std.proofs.lemmas.List.Elements.{All-contains, All-from_recursion, All-tail}
use Rattle.cany_base.specs.declared.class.Class.TheVariants as class
use Rattle.cany_base.specs.declared.notice.NoticeKind.{NoticeKind}
use Rattle.cany_base.specs.declared.notice.NoticeKind.TheVariants.{Idle, Got, Sent, Bad}
use Rattle.cany_base.specs.declared.slot_note.SlotNote.{SlotNote}
use Rattle.cany_base.specs.declared.step.Step.{Step}
use Rattle.cany_base.specs.declared.step.Step.TheVariants as step
use Rattle.cany_base.specs.Frame.{FrameParts}
use Rattle.cany_base.specs.Limits.{most_nodes}
use Rattle.cany_base.specs.Params.{MeetsFormulas, Parameters}
use Rattle.cany_base.specs.Scenario.{ScenarioParts}
use Rattle.cany_model.specs.Bus.Frames.{Identity, identity_of, same_class}
use Rattle.cany_model.specs.Bus.History.{as_seen, given, is_hidden, seen}
use Rattle.cany_model.specs.Bus.Restart.{after_restarts}
use Rattle.cany_model.specs.Runs.Run.{after_step, after_turn, is_done, proceed, reply, run}
use Rattle.cany_model.specs.Bus.Slot.{FaultScript, after_slot, script, slot_note_of, is_clean}
use Rattle.cany_model.specs.Bus.State.{Incarnation, NodeState, RunState, node_at, opening, runs}
use Rattle.cany_model.specs.Promises.Hypothesis.{IsWithin, is_partial_slot_of, is_silent_slot}
use Rattle.cany_model.specs.Promises.Windows.{HasFewAccepts, HasFewLifeSigns, HasFewVectors, is_clean_of}
use Rattle.cany_model.specs.Rules.Effect.{waiting_after}
use Rattle.cany_model.specs.Rules.Life.{is_own_sign, life_signs_sent}
use Rattle.cany_model.specs.Rules.Turn.{scenario_for, turn_effects}
use Rattle.cany_model.proofs.Among.{Among-from_Contains, Among-weaker, count-from_Among, count-grows}
use Rattle.cany_model.proofs.Bus.Carried.{carried_frame, is_sent-from}
use Rattle.cany_model.proofs.Runs.Journals.{run_none, run_push, step_is, step_refused}
use Rattle.cany_model.proofs.Bus.Notes.{given-Sent, given_idle, given_sender, note_of-offered, note_of-slot, sender_waits, waiting_sends}
use Rattle.cany_model.proofs.Bus.Restarts.{after_restarts-trace, restarts_or_stays}
use Rattle.cany_model.proofs.Runs.Runs.{IsOrderly, MaySlot, opening_within, orderly, slot_done, turn_done}
use Rattle.cany_model.proofs.Bus.Seen.{length-seen}
use Rattle.cany_model.proofs.Bus.States.{no_note, node_at-opening, note_at, runs_within}
use Rattle.cany_model.proofs.Runs.Steps.{MayTurn, after_slot-present, after_slot-trace, after_slot-unread, after_turn-node, after_turn-present, after_turn-trace, running_before_slot, each_turned, Each-kept}
use Rattle.cany_model.proofs.Promises.Diffusion.{Lived, Turned, past_of}
use Rattle.cany_model.proofs.Promises.EachNode.{EachRunning, IsNodes, each_running, slot_lived, turn_turned}
use Rattle.cany_model.proofs.Promises.FewLifeSigns.{last_life}
use Rattle.cany_model.proofs.Promises.OwnSlotsAlone.{AllWaitForOwnSlots, own_slots_alone_run, sent_plain}
use Rattle.cany_model.proofs.Promises.FewLifeSignsWaiting.{IsOwnSign, turn_idle, turn_more, turn_numbers}
use Rattle.cany_model.proofs.Promises.SignCounts.{is_els, sent_one}
use Rattle.cany_model.proofs.Rules.Site.LifeCounts.{due_at, due_in, last_cases}
use Rattle.cany_model.proofs.Timed.Common.Ages.{gave, past}
use Rattle.cany_model.proofs.Timed.Common.Counting.{at_most_1, cover_window, window_at}
use Rattle.cany_model.proofs.Timed.Common.OwnSlots.{HasOwnSlots, IsLongBefore, OwnSlots, own_slots, sees_from, sent_when}
use Rattle.cany_model.proofs.Timed.Common.SeenAges.{to_seen}
use Rattle.cany_model.proofs.Timed.Order.TotSlots.{clean_success}
use Rattle.cany_model.proofs.Timed.Windows.SignKept.{NodeSigns, slot_signs, turn_signs}
use Rattle.cany_model.proofs.Timed.Windows.SignTops.{FewTops, few_tops, topped}
use Rattle.cany_model.proofs.Timed.Windows.OwnLifeSigns.{SendsSign, last_since, sign_there}
use Rattle.cany_model.proofs.Timed.Windows.TopFrames.{is_top_slot}

-- ---- the life signs that wait name the node

abbrev OwnSigns : ScenarioParts → List SlotNote → ℕ → NodeState → Type 0
OwnSigns scenario trace i node = AllByRecursion (IsOwnSign i (life_signs_sent i (past_of i trace node))) node.waiting

own_signs : (scenario : ScenarioParts) → IsNodes scenario (OwnSigns scenario)
unfolding life_signs_sent
own_signs scenario = record {
  new = λ trace i node new. rw new.waiting tt;
  slot = λ note trace i node after same l h.
      rw (l.past, l.kept) (Each-kept (IsOwnSign i (life_signs_sent i (past_of i trace node))) (given i note) node.waiting h);
  turn = λ trace i node after same t h.
      let before = past_of i trace node in
      let sc : ScenarioParts = scenario_for scenario node.present in
      let waiting : after.waiting ≡ waiting_after (turn_effects sc i (t.notice ∷ before)) node.waiting =
      t.waiting ∙ ap (λ read. waiting_after (turn_effects sc i read) node.waiting) t.past in
      rw (t.past, waiting)
      (turn_numbers sc i t.notice before node.waiting (life_signs_sent i before) (count-grows (is_own_sign i) t.notice before) h);
}

-- so a node that waits with one, sends one of its own
own_node : (scenario : ScenarioParts) (s : RunState) → EachRunning (OwnSigns scenario) s → (i : ℕ) → runs (node_at s.nodes i) ≡ true
    → (f : FrameParts) → Contains (node_at s.nodes i).waiting f → is_els f ≡ true → f.node ≡ i
own_node scenario s all i running f there els =
    let node = node_at s.nodes i in
    let P : FrameParts → Type 0 = IsOwnSign i (life_signs_sent i (past_of i (seen node.present s.trace) node)) in
    (All-contains P node.waiting f (All-from_recursion P node.waiting (all i running)) there els).0

-- ---- who sent a life sign

-- one that the slot carried Clean was that of a node which sent it
abbrev HasSigner : ℕ → SlotNote → Type 0
HasSigner nodes note = is_clean_of class.Els note ≡ true → (i : ℕ) × (i < nodes) × (is_own_sign i (given i note) ≡ true)

slot_signer : (scenario : ScenarioParts) (rules : FaultScript) (s : RunState) → scenario.params.nodes ≤ most_nodes → IsOrderly scenario.params.nodes s
    → EachRunning (OwnSigns scenario) s → HasSigner scenario.params.nodes (slot_note_of rules s)
slot_signer scenario rules s few o own h =
    let note = slot_note_of rules s in
    let parts = and_parts _ (is_clean note.verdict) h in
    let f = carried_frame (λ g. same_class g.class class.Els) note parts.0 in
    let offer = note_of-offered rules s f.what f.frame in
    let there : offer.node < length s.nodes = runs_within s.nodes offer.node offer.running in
    let below : offer.node < scenario.params.nodes = omega (arith, there, o.count) in
    let sender = waiting_sends rules s f.what offer.node (omega (arith, below, few)) f.frame offer.running offer.waits in
    let sent = given_sender offer.node note f.what f.frame sender (clean_success note.verdict parts.1) in
    let node : f.what.node ≡ offer.node = own_node scenario s own offer.node offer.running f.what offer.waits f.passes in (
      offer.node,
      below,
      ap (is_own_sign offer.node) sent
          ∙ and_from (same_class f.what.class class.Els) (f.what.node == offer.node) f.passes (eq-eqb f.what.node offer.node node),
    )

-- ---- the count

-- a node's own signs are sent so far apart
abbrev Apart : Parameters → List SlotNote → Type 0
Apart p trace = (i a b : ℕ) → a < b → SendsSign i trace a → SendsSign i trace b → a + (p.bound + p.lag) ≤ b

each_at : (P : SlotNote → Type 0) (trace : List SlotNote) (age : ℕ) → AllByRecursion P trace → P no_note → P (note_at trace age)
each_at P [] age all none = none
each_at P (note ∷ trace) zero all none = all.0
each_at P (note ∷ trace) (suc age) all none = each_at P trace age all.1 none

few_here : (p : Parameters) (trace : List SlotNote) → AllByRecursion (HasSigner p.nodes) trace → Apart p trace → HasFewLifeSigns p trace
few_here p trace signers apart newest =
    let by : ℕ → SlotNote → Bool = λ i note. is_own_sign i (given i note) in
    let size : ℕ = p.bound + p.lag in
    let all = cover_window (is_clean_of class.Els) refl by p.nodes 1 size newest trace
    (λ age h. each_at (HasSigner p.nodes) trace age signers (λ none. absurd (false≢true none)) h)
    (λ i. at_most_1 (by i) (take size (drop newest trace)) (λ a b l x y.
    let idle : by i no_note ≡ false = ap (is_own_sign i) (given_idle i no_note refl) in
    let one = window_at (by i) idle size newest a trace x in
    let two = window_at (by i) idle size newest b trace y in
    let far = apart i one.0 two.0 (omega (arith, one.1, two.1, l)) one.3 two.3 in
    omega (arith, far, one.1, two.1, two.2))) in
    omega (arith, all)

-- ---- what is kept

-- of a running node, by the whole trace
abbrev SignNode : ScenarioParts → List SlotNote → ℕ → NodeState → Type 0
SignNode scenario trace i node =
    let own = seen node.present trace in
    let last : ℕ = last_life scenario node.present i (past_of i own node) in
    NodeSigns scenario.params i trace own node.unread last (count_by is_els node.waiting)

record SignsKept (scenario : ScenarioParts) (s : RunState) : Type 0 where
  pub signers : AllByRecursion (HasSigner scenario.params.nodes) s.trace
  pub apart : Apart scenario.params s.trace
  pub nodes : (i : ℕ) → runs (node_at s.nodes i) ≡ true → SignNode scenario s.trace i (node_at s.nodes i)

signs_as : (p : Parameters) (i : ℕ) (trace : List SlotNote) {own own' : List SlotNote} {unread unread' last last' waiting : ℕ}
    → own' ≡ own → unread' ≡ unread → last' ≡ last → NodeSigns p i trace own unread last waiting → NodeSigns p i trace own' unread' last' waiting
signs_as p i trace a b c h = rw (a, b, c) h

-- ---- one node: a slot and a turn

sign_slot : (scenario : ScenarioParts) (note : SlotNote) (trace : List SlotNote) (i : ℕ) (node after : NodeState) → after.present ≡ node.present
    → after.unread ≡ suc node.unread → Lived (as_seen node.present note) (seen node.present trace) i node after
    → (0 < count_by is_els node.waiting → is_top_slot note ≡ true) → node.unread ≤ scenario.params.lag
    → SignNode scenario trace i node → SignNode scenario (note ∷ trace) i after
sign_slot scenario note trace i node after same unread l top lag h =
    let inc = node.present in
    let own = seen inc trace in
    let shown = as_seen inc note in
    let last : ℕ = last_life scenario inc i (past_of i own node) in
    let seen_same : seen after.present (note ∷ trace) ≡ shown ∷ own = ap (λ (k : Incarnation). seen k (note ∷ trace)) same in
    let last_same : last_life scenario after.present i (past_of i (seen after.present (note ∷ trace)) after) ≡ last =
    ap (λ (k : Incarnation). last_life scenario k i (past_of i (seen k (note ∷ trace)) after)) same ∙ ap (last_life scenario inc i) l.past in
    signs_as scenario.params i (note ∷ trace) seen_same unread last_same
    (slot_signs scenario.params i note shown trace own node.unread last (count_by is_els node.waiting) (count_by is_els after.waiting)
    top (sent_one shown own i node after l) lag h)

sign_turn : (scenario : ScenarioParts) → MeetsFormulas scenario.params → (trace : List SlotNote) (i : ℕ) (node after : NodeState)
    → after.present ≡ node.present → node.unread ≡ suc after.unread → node.unread ≤ length trace
    → Turned (turn_effects (scenario_for scenario node.present)) (seen node.present trace) i node after → FewTops scenario.params trace
    → SignNode scenario trace i node → SignNode scenario trace i after
sign_turn scenario formulas trace i node after same unread there t few h =
    let inc = node.present in
    let sc : ScenarioParts = scenario_for scenario inc in
    let own = seen inc trace in
    let before = past_of i own node in
    let last : ℕ = last_life scenario inc i before in
    let now : ℕ = last_life scenario inc i (t.notice ∷ before) in
    let seen_same : seen after.present trace ≡ own = ap (λ (k : Incarnation). seen k trace) same in
    let last_same : last_life scenario after.present i (past_of i (seen after.present trace) after) ≡ now =
    ap (λ (k : Incarnation). last_life scenario k i (past_of i (seen k trace) after)) same ∙ ap (last_life scenario inc i) t.past in
    let size : length before + node.unread ≡ length trace =
    let l = length-map (drop node.unread own) (given i) ∙ length-drop node.unread own in
    omega (arith, l, length-seen inc trace, there) in
    let left : after.waiting ≡ waiting_after (turn_effects sc i (t.notice ∷ before)) node.waiting =
    t.waiting ∙ ap (λ read. waiting_after (turn_effects sc i read) node.waiting) t.past in
    let waiting : count_by is_els after.waiting ≡ count_by is_els (waiting_after (turn_effects sc i (t.notice ∷ before)) node.waiting) =
    ap (count_by is_els) left in
    let older : NodeSigns scenario.params i trace own (suc after.unread) last (count_by is_els node.waiting) =
    subst (λ n. NodeSigns scenario.params i trace own n last (count_by is_els node.waiting)) unread h in
    signs_as scenario.params i trace seen_same refl last_same
    (turn_signs scenario.params formulas i trace own after.unread last now (count_by is_els node.waiting) (count_by is_els after.waiting) few
    (elim (last_cases sc i t.notice before) [ inl kept ↦ inl kept | inr set ↦ inr (omega (arith, set, size, unread)) ])
    (elim (cases_Bool (due_in sc i t.notice before)) [
      | inl due ↦
          let at = due_at sc i t.notice before due in
          inr (omega (arith, waiting, turn_more sc i t.notice before node.waiting), omega (arith, at, size, unread))
      | inr idle ↦ inl (omega (arith, waiting, turn_idle sc i t.notice before node.waiting idle))
    ])
    (λ a from s.
    let since = last_since sc i own after.unread a from s in
    let read : last_life scenario inc i (past i own after.unread) ≡ now = ap (last_life scenario inc i) t.past in
    omega (arith, since, read, length-seen inc trace))
    older)

-- ---- two signs of one node

-- the life sign that a slot gave a node as sent
record SignSent (rules : FaultScript) (s : RunState) (i : ℕ) : Type 0 where
  pub running : runs (node_at s.nodes i) ≡ true
  pub waited : 0 < count_by is_els (node_at s.nodes i).waiting
  pub plain : is_hidden (node_at s.nodes i).present (slot_note_of rules s) ≡ false

sign_sent : (rules : FaultScript) (s : RunState) (i : ℕ) → AllWaitForOwnSlots s → is_own_sign i (given i (slot_note_of rules s)) ≡ true → SignSent rules s i
sign_sent rules s i own_slots_alone h = by_notice (given i (slot_note_of rules s)) refl h
  where
    by_notice : (e : NoticeKind) → given i (slot_note_of rules s) ≡ e → is_own_sign i e ≡ true → SignSent rules s i
    by_notice Idle is own = absurd (false≢true own)
    by_notice Bad is own = absurd (false≢true own)
    by_notice (Got f) is own = absurd (false≢true own)
    by_notice (Sent f) is own =
        let parts = given-Sent i (slot_note_of rules s) f is in
        let sender = sender_waits rules s f i parts.0 parts.1 in
        let waiting = (node_at s.nodes i).waiting in
        let els : is_els f ≡ true = (and_parts (same_class f.class class.Els) (f.node == i) own).0 in
        record {
          running = sender.0;
          waited = count-from_Among is_els waiting
              (Among-weaker (λ g. g ≡ f) (λ g. is_els g ≡ true) (λ g e. rw e els) waiting (Among-from_Contains waiting f sender.1));
          plain = sent_plain rules s i (own_slots_alone i sender.0) f parts.0 parts.1;
        }

-- an older one is one that the node's incarnation sees, or was sent by an earlier one long before
older_sign : (p : Parameters) (nodes : ℕ) (s : RunState) (i : ℕ) (inc : Incarnation) → IsOrderly nodes s → HasOwnSlots p s.trace i inc → (age : ℕ)
    → SendsSign i s.trace age → SendsSign i (seen inc s.trace) age ⊎ IsLongBefore p inc s.trace age
older_sign p nodes s i inc o own age h = by_notice (gave i s.trace age) refl h
  where
    by_notice : (e : NoticeKind) → gave i s.trace age ≡ e → is_own_sign i e ≡ true
        → SendsSign i (seen inc s.trace) age ⊎ IsLongBefore p inc s.trace age
    by_notice Idle is sign = absurd (false≢true sign)
    by_notice Bad is sign = absurd (false≢true sign)
    by_notice (Got f) is sign = absurd (false≢true sign)
    by_notice (Sent f) is sign =
        let x : Identity = identity_of f in
        elim (sent_when p nodes s i inc o own age x (is_sent-from x f (gave i s.trace age) is refl)) [
          | inl plain ↦ inl (to_seen (λ note. is_own_sign i (given i note) ≡ true) inc s.trace age plain h)
          | inr before ↦ inr before
        ]

slot_far : (scenario : ScenarioParts) → MeetsFormulas scenario.params → (rules : FaultScript) (s : RunState) → IsOrderly scenario.params.nodes s
    → AllWaitForOwnSlots s → OwnSlots scenario s → SignsKept scenario s → (i : ℕ) → is_own_sign i (given i (slot_note_of rules s)) ≡ true
    → (age : ℕ) → SendsSign i s.trace age → scenario.params.bound + scenario.params.lag ≤ suc age
slot_far scenario formulas rules s o own_slots_alone own h i now age before =
    let inc = (node_at s.nodes i).present in
    let sent = sign_sent rules s i own_slots_alone now in
    let since = (h.nodes i sent.running).waits sent.waited in
    elim (older_sign scenario.params scenario.params.nodes s i inc o (own i sent.running) age before) [
      | inl seen ↦ let far = since.far age seen in let life = formulas.life in omega (arith, far, life)
      | inr long ↦
          let from = sees_from inc (slot_note_of rules s ∷ s.trace) 0 sent.plain long.later in
          let far = long.far in
          omega (arith, from, note_of-slot rules s, far)
    ]

apart_more : (p : Parameters) (note : SlotNote) (trace : List SlotNote)
    → ((i : ℕ) → is_own_sign i (given i note) ≡ true → (age : ℕ) → SendsSign i trace age → p.bound + p.lag ≤ suc age)
    → Apart p trace → Apart p (note ∷ trace)
apart_more p note trace far apart i zero zero l a b = absurd (omega (arith, l))
apart_more p note trace far apart i zero (suc older) l a b = let e = far i a older b in omega (arith, e)
apart_more p note trace far apart i (suc newer) zero l a b = absurd (omega (arith, l))
apart_more p note trace far apart i (suc newer) (suc older) l a b = let e = apart i newer older (omega (arith, l)) a b in omega (arith, e)

-- ---- steps

signs_opening : (scenario : ScenarioParts) → SignsKept scenario (opening scenario.params.nodes)
signs_opening scenario = record {
  signers = tt;
  apart = λ i a b l x y. absurd (let none = sign_there i [] a x in omega (arith, none));
  nodes = λ i running.
      rw (node_at-opening scenario.params.nodes i (opening_within scenario.params.nodes i running)) (record {
        lag = omega arith;
        one = omega arith;
        waits = λ some. absurd (omega (arith, some));
        sent = λ a l s. absurd (omega (arith, l));
      });
}

-- what is known of each state of a run
record IsKnown (scenario : ScenarioParts) (s : RunState) : Type 0 where
  pub orderly : IsOrderly scenario.params.nodes s
  pub own_slots_alone : AllWaitForOwnSlots s
  pub slots : OwnSlots scenario s
  pub signs : EachRunning (OwnSigns scenario) s

known : (scenario : ScenarioParts) (journal : List Step) → IsKnown scenario (run scenario journal)
known scenario journal = record {
  orderly = orderly scenario journal;
  own_slots_alone = own_slots_alone_run scenario journal;
  slots = own_slots scenario journal;
  signs = each_running scenario (OwnSigns scenario) (own_signs scenario) journal;
}

signs_slot : (scenario : ScenarioParts) → scenario.params.nodes ≤ most_nodes → MeetsFormulas scenario.params → (rules : FaultScript) (s : RunState)
    → MaySlot scenario s → IsKnown scenario s → SignsKept scenario s → SignsKept scenario (after_slot rules s)
signs_slot scenario few formulas rules s may k h = record {
  signers = subst (AllByRecursion (HasSigner scenario.params.nodes)) (sym (after_slot-trace rules s))
      (slot_signer scenario rules s few k.orderly k.signs, h.signers);
  apart = subst (Apart scenario.params) (sym (after_slot-trace rules s))
      (apart_more scenario.params (slot_note_of rules s) s.trace (slot_far scenario formulas rules s k.orderly k.own_slots_alone k.slots h) h.apart);
  nodes = λ i running.
      let ran = (running_before_slot rules s i running).0 in
      let below = runs_within s.nodes i ran in
      subst (λ trace. SignNode scenario trace i (node_at (after_slot rules s).nodes i)) (sym (after_slot-trace rules s))
      (sign_slot scenario (slot_note_of rules s) s.trace i (node_at s.nodes i) (node_at (after_slot rules s).nodes i)
      (after_slot-present rules s i below) (omega (arith, after_slot-unread rules s i below)) (slot_lived rules s i (k.own_slots_alone i ran) ran)
      (topped rules s i ran) (may.lag i ran) (h.nodes i ran));
}

signs_restarts : (scenario : ScenarioParts) (s : RunState) → SignsKept scenario s → SignsKept scenario (after_restarts scenario s)
signs_restarts scenario s h = record {
  signers = subst (AllByRecursion (HasSigner scenario.params.nodes)) (sym (after_restarts-trace scenario s)) h.signers;
  apart = subst (Apart scenario.params) (sym (after_restarts-trace scenario s)) h.apart;
  nodes = λ i running.
      subst (λ trace. SignNode scenario trace i (node_at (after_restarts scenario s).nodes i)) (sym (after_restarts-trace scenario s))
      (elim (restarts_or_stays scenario s i) [
        | inl new ↦ rw new.is (record {
          lag = omega arith;
          one = omega arith;
          waits = λ some. absurd (omega (arith, some));
          sent = λ a l s. absurd (omega (arith, l));
        })
        | inr same ↦ rw same (h.nodes i (sym (ap (λ node. runs node) same) ∙ running))
      ]);
}

signs_turn : (scenario : ScenarioParts) → MeetsFormulas scenario.params → (s : RunState) (i : ℕ) → MayTurn s i → IsOrderly scenario.params.nodes s
    → FewTops scenario.params s.trace → SignsKept scenario s → SignsKept scenario (after_turn scenario i s)
signs_turn scenario formulas s i may o few h = record {
  signers = subst (AllByRecursion (HasSigner scenario.params.nodes)) (sym (after_turn-trace scenario i s)) h.signers;
  apart = subst (Apart scenario.params) (sym (after_turn-trace scenario i s)) h.apart;
  nodes = each_turned scenario i s may (o.unread i) (SignNode scenario) own h.nodes;
}
  where
    own : SignNode scenario s.trace i (node_at (after_turn scenario i s).nodes i)
    own =
        let left : (node_at (after_turn scenario i s).nodes i).unread ≡ (node_at s.nodes i).unread - 1 =
        ap (λ (node : NodeState). node.unread) (after_turn-node scenario i s may (o.unread i)) in
        sign_turn scenario formulas s.trace i (node_at s.nodes i) (node_at (after_turn scenario i s).nodes i)
        (after_turn-present scenario i s i may (o.unread i)) (let some = may.unread in omega (arith, left, some)) (o.unread i)
        (turn_turned scenario i s may (o.unread i)) few (h.nodes i may.running)

-- ---- every run

-- what the count rests on, of the trace
record Premises (p : Parameters) (trace : List SlotNote) : Type 0 where
  pub within : IsWithin p trace
  pub accepts : HasFewAccepts p trace
  pub vectors : HasFewVectors p trace

-- it holds of the older slots alone
premises_before : (p : Parameters) (note : SlotNote) (trace : List SlotNote) → Premises p (note ∷ trace) → Premises p trace
premises_before p note trace h = record {
  within = record {
    silent = All-tail (λ n. is_silent_slot n ≡ false) note trace h.within.silent;
    omit = λ x. let all = h.within.omit x in omega (arith, all, count-grows (is_partial_slot_of x) note trace);
    errors = λ age. h.within.errors (suc age);
  };
  accepts = λ newest. h.accepts (suc newest);
  vectors = λ newest. h.vectors (suc newest);
}

abbrev KeptWithin : ScenarioParts → RunState → Type 0
KeptWithin scenario s = Premises scenario.params s.trace → SignsKept scenario s

done_step : (scenario : ScenarioParts) → scenario.params.nodes ≤ most_nodes → MeetsFormulas scenario.params → (s : RunState) → IsKnown scenario s
    → KeptWithin scenario s → (next : Step) → is_done (reply scenario s next) ≡ true → KeptWithin scenario (proceed scenario s next)
unfolding proceed
done_step scenario few formulas s k h step.Slot done premises =
    let rules : FaultScript = script scenario.rules in
    let trace : (after_restarts scenario (after_slot rules s)).trace ≡ slot_note_of rules s ∷ s.trace =
    after_restarts-trace scenario (after_slot rules s) ∙ after_slot-trace rules s in
    signs_restarts scenario (after_slot rules s)
    (signs_slot scenario few formulas rules s (slot_done scenario s done) k
    (h (premises_before scenario.params (slot_note_of rules s) s.trace (subst (Premises scenario.params) trace premises))))
done_step scenario few formulas s k h (step.Turn i) done premises =
    let before : Premises scenario.params s.trace = subst (Premises scenario.params) (after_turn-trace scenario i s) premises in
    let kept = h before in
    signs_turn scenario formulas s i (turn_done scenario s i k.orderly.count done) k.orderly
    (few_tops scenario.params formulas s.trace before.within before.accepts before.vectors (few_here scenario.params s.trace kept.signers kept.apart))
    kept

any_step : (scenario : ScenarioParts) → scenario.params.nodes ≤ most_nodes → MeetsFormulas scenario.params → (s : RunState) → IsKnown scenario s
    → KeptWithin scenario s → (next : Step) → KeptWithin scenario (after_step scenario s next)
any_step scenario few formulas s k h next = elim (cases_Bool (is_done (reply scenario s next))) [
  | inl done ↦ subst (KeptWithin scenario) (sym (step_is scenario s next done)) (done_step scenario few formulas s k h next done)
  | inr refused ↦ subst (KeptWithin scenario) (sym (step_refused scenario s next refused)) h
]

from_front : (scenario : ScenarioParts) → scenario.params.nodes ≤ most_nodes → MeetsFormulas scenario.params → (front rest : List Step)
    → KeptWithin scenario (run scenario front) → KeptWithin scenario (run scenario (front ++ rest))
from_front scenario few formulas front [] h = subst (λ journal. KeptWithin scenario (run scenario journal)) (sym (append-nil front)) h
from_front scenario few formulas front (next ∷ rest) h =
    subst (λ journal. KeptWithin scenario (run scenario journal)) (append_assoc front (next ∷ []) rest)
    (from_front scenario few formulas (front ++ next ∷ []) rest
    (subst (KeptWithin scenario) (sym (run_push scenario (opening scenario.params.nodes) front next))
    (any_step scenario few formulas (run scenario front) (known scenario front) h next)))

signs_kept : (scenario : ScenarioParts) → scenario.params.nodes ≤ most_nodes → MeetsFormulas scenario.params → (journal : List Step)
    → KeptWithin scenario (run scenario journal)
signs_kept scenario few formulas journal =
    from_front scenario few formulas [] journal
    (subst (KeptWithin scenario) (sym (run_none scenario (opening scenario.params.nodes))) (λ premises. signs_opening scenario))

-- The life signs of each window are few, where the frames that accept and the vectors are.
pub few_signs_of : (scenario : ScenarioParts) (journal : List Step) → scenario.params.nodes ≤ most_nodes → MeetsFormulas scenario.params
    → IsWithin scenario.params (run scenario journal).trace → HasFewAccepts scenario.params (run scenario journal).trace
    → HasFewVectors scenario.params (run scenario journal).trace → HasFewLifeSigns scenario.params (run scenario journal).trace
few_signs_of scenario journal few formulas within accepts vectors =
    let kept = signs_kept scenario few formulas journal (record { within = within; accepts = accepts; vectors = vectors }) in
    few_here scenario.params (run scenario journal).trace kept.signers kept.apart

pub few_signs : (scenario : ScenarioParts) (journal : List Step) → scenario.params.nodes ≤ most_nodes → MeetsFormulas scenario.params
    → IsWithin scenario.params (run scenario journal).trace
    → ((front rest : List Step) → journal ≡ front ++ rest
    → HasFewAccepts scenario.params (run scenario front).trace × HasFewVectors scenario.params (run scenario front).trace)
    → HasFewLifeSigns scenario.params (run scenario journal).trace
few_signs scenario journal few formulas within fewer =
    let both = fewer journal [] (sym (append-nil journal)) in
    few_signs_of scenario journal few formulas within both.0 both.1
