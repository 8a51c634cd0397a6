-- One order: what a correct node has delivered by TOTCAN begins the order of the slots in which it
-- takes part.
use Rattle.std.proofs.Common.{◌≡◌, ℕ, suc, ◌+◌, ◌-◌, ◌<◌, ◌≤◌, ◌⊎◌, ◌&&◌, inl, inr, not, Bool, true, false, List, [], ◌∷◌, length, map, drop, Option, Some, None, nat_lt, refl, ap, sym, ◌∙◌, subst, arith, drop-drop, ◌++◌}
use Rattle.std.proofs.lemmas.Bool.{and_from, and_left, and_right, both_ways, cases_Bool, cases_lt, cond_both, le-ltb, not_from_false}
use Rattle.std.proofs.lemmas.List.{drop-map, map-append}
use Rattle.std.proofs.lemmas.List.Elements.{recursion_from_All}
use Rattle.cany_base.specs.declared.message.MsgKey.{MsgKey}
use Rattle.cany_base.specs.declared.message.Service.TheVariants.{Tot}
use Rattle.cany_base.specs.declared.notice.NoticeKind.{NoticeKind}
use Rattle.cany_base.specs.declared.slot_note.SlotNote.{SlotNote}
use Rattle.cany_base.specs.declared.step.Step.{Step}
use Rattle.cany_base.specs.Frame.{FrameParts}
use Rattle.cany_base.specs.Limits.{most_nodes}
use Rattle.cany_base.specs.Params.{Parameters}
use Rattle.cany_base.specs.Scenario.{ScenarioParts}
use Rattle.cany_model.specs.Bus.Frames.{identity_of, same_class, same_identity}
use Rattle.cany_model.specs.Bus.History.{given, history, seen}
use Rattle.cany_model.specs.Bus.Restart.{after_restarts}
use Rattle.cany_model.specs.Runs.Run.{after_turn, run}
use Rattle.cany_model.specs.Bus.Slot.{after_slot, script}
use Rattle.cany_model.specs.Bus.State.{Incarnation, NodeState, RunState, node_at, runs}
use Rattle.cany_model.specs.Promises.Hypothesis.{IsWithin, is_silent_slot}
use Rattle.cany_model.specs.Promises.Order.{Content, FollowsOrder, HasOneOrder, content_of, is_accepted_by_some, order, tot_deliveries, has_accepted}
use Rattle.cany_model.specs.Promises.Settled.{IsCorrect, is_settled}
use Rattle.cany_model.specs.Rules.Log.{log}
use Rattle.cany_model.specs.Rules.Messages.{Message, is_service, message_key}
use Rattle.cany_model.specs.Rules.Totcan.{delivered, done, is_accepted, is_among, is_clear, is_pending, is_place, is_recent, message_in, new_among, tot_in, tot_of_key, totcan}
use Rattle.cany_model.specs.Rules.Turn.{scenario_at}
use Rattle.cany_model.proofs.Among.{Among, Among-append_left, Among-append_right, Among-from_Contains, Among-from_any, Among-from_map, Among-weaker}
use Rattle.cany_model.proofs.Bus.Identities.{same_identity-true}
use Rattle.cany_model.proofs.Bus.Restarts.{restarts_or_stays}
use Rattle.cany_model.proofs.Runs.Runs.{IsOrderly, along_run, opening_within, orderly}
use Rattle.cany_model.proofs.Bus.Seen.{history-is, length-seen}
use Rattle.cany_model.proofs.Bus.States.{node_at-opening, note_at, runs_within}
use Rattle.cany_model.proofs.Runs.Steps.{after_slot-present, after_turn-present, after_turn-runs, running_before_slot}
use Rattle.cany_model.proofs.Promises.SettledFacts.{settled_none_ahead, settled_read}
use Rattle.cany_model.proofs.Rules.Services.DoneFacts.{IsNamed, are_through, done_exactly, is_done, through_is_clear}
use Rattle.cany_model.proofs.Rules.Services.PlaceFacts.{Place}
use Rattle.cany_model.proofs.Rules.Protocols.{totcan_is_one}
use Rattle.cany_model.proofs.Timed.Order.Accepted.{accepted_done, accepted_on, seen_first, some_node}
use Rattle.cany_model.proofs.Timed.Order.Accepts.{AcceptedAt}
use Rattle.cany_model.proofs.Timed.Common.Ages.{Done, carried_there, clean_carried, gave, open_from, past}
use Rattle.cany_model.proofs.Timed.Order.AcceptanceRelays.{heard_holds}
use Rattle.cany_model.proofs.Timed.Order.DeliveredPrefix.{Reads, delivered_first, done_place}
use Rattle.cany_model.proofs.Timed.Order.OrderAt.{DataFirst, frames_by, frames_in, order_seen}
use Rattle.cany_model.proofs.Timed.Order.OrderLog.{content_in, log_delivers, named_delivered}
use Rattle.cany_model.proofs.Timed.Order.TotKept.{NoSilent, TotKept}
use Rattle.cany_model.proofs.Timed.Order.TotRun.{past_next}

-- ---- a running node of a run

-- what the argument uses of a state
pub record Ground (scenario : ScenarioParts) (s : RunState) : Type 0 where
  pub orderly : IsOrderly scenario.params.nodes s
  pub plain : NoSilent s.trace
  pub tot : TotKept scenario s
  pub accepted : AcceptedAt scenario s

-- what node i sees of it
abbrev pub seen_by : RunState → ℕ → List SlotNote
seen_by s i = seen (node_at s.nodes i).present s.trace

-- and has read
abbrev pub read_by : RunState → ℕ → List NoticeKind
read_by s i = past i (seen_by s i) (node_at s.nodes i).unread

first_of : (scenario : ScenarioParts) (s : RunState) → Ground scenario s → (i : ℕ) → DataFirst (seen_by s i)
first_of scenario s k i = seen_first scenario s.trace (node_at s.nodes i).present k.plain k.orderly.numbered k.tot.trace

unread_few : (scenario : ScenarioParts) (s : RunState) → Ground scenario s → (i : ℕ) → (node_at s.nodes i).unread ≤ length (seen_by s i)
unread_few scenario s k i =
    let few = k.orderly.unread i in
    omega (arith, few, length-seen (node_at s.nodes i).present s.trace)

-- one running node that has accepted the message is enough
pub accepted_by_one : (scenario : ScenarioParts) (s : RunState) → Ground scenario s → (i : ℕ) → runs (node_at s.nodes i) ≡ true → (m : MsgKey)
    → is_accepted scenario.params.bound i m (read_by s i) ≡ true → is_accepted_by_some scenario s m ≡ true
accepted_by_one scenario s k i running m h =
    let below : i < scenario.params.nodes = let w = runs_within s.nodes i running in let count = k.orderly.count in omega (arith, w, count) in
    some_node (λ j. runs (node_at s.nodes j) && has_accepted scenario s m j) scenario.params.nodes i below
    (and_from (runs (node_at s.nodes i)) (has_accepted scenario s m i) running
    (ap (is_accepted scenario.params.bound i m) (history-is i s) ∙ h))

reads_of : (scenario : ScenarioParts) (s : RunState) → Ground scenario s → (i : ℕ) → runs (node_at s.nodes i) ≡ true
    → (v : ℕ) → (node_at s.nodes i).unread ≤ v → Reads scenario.params (seen_by s i) i v (is_accepted_by_some scenario s)
reads_of scenario s k i running v from =
    let inc = (node_at s.nodes i).present in
    let few = k.orderly.numbered in
    record {
      heard = (k.tot.nodes i running).heard;
      accepted_done = λ m h. accepted_done scenario s.trace inc k.plain few k.tot.trace i v m h;
      accepted_test = λ m h. accepted_by_one scenario s k i running m
          (accepted_on scenario s.trace inc k.plain few k.tot.trace i (node_at s.nodes i).unread v m from h);
      test_accepted = λ m q d passes late. k.accepted m i q v running d passes from late;
    }

-- ---- one whose closing was read

none_pending : (p : Parameters) (i : ℕ) (P : List NoticeKind) (age : ℕ) (o : Option FrameParts) → p.bound ≤ age → is_pending p i P age o ≡ false
none_pending p i P age None h = refl
none_pending p i P age (Some f) h =
    and_left (is_place age P (message_in f) && nat_lt age p.bound) (not (is_accepted p.bound i (message_in f) P))
    (and_right (is_place age P (message_in f)) (nat_lt age p.bound) (le-ltb age p.bound h))

pub clear_old : (p : Parameters) (i : ℕ) (P : List NoticeKind) (age : ℕ) (l : List NoticeKind) → p.bound ≤ age → is_clear p i P age l ≡ true
unfolding is_clear
clear_old p i P age [] h = refl
clear_old p i P age (e ∷ l) h =
    and_from (not (is_pending p i P age (tot_in e))) (is_clear p i P (age + 1) l)
    (not_from_false (is_pending p i P age (tot_in e)) (none_pending p i P age (tot_in e) h)) (clear_old p i P (age + 1) l (omega (arith, h)))

drop_past : (i n u q : ℕ) (T : List SlotNote) → u + n ≡ q → drop n (past i T u) ≡ past i T q
drop_past i n u q T e = drop-map (given i) n (drop u T) ∙ ap (map (given i)) (drop-drop n u T ∙ ap (λ k. drop k T) e)

same_named : (key : MsgKey) (f g : FrameParts) → IsNamed key f → same_identity (identity_of f) (identity_of g) ≡ true → IsNamed key g
same_named key f g named same =
    let x : identity_of f ≡ identity_of g = same_identity-true (identity_of f) (identity_of g) same in
    (λ k. record { origin = (sym x k).node; seq = (sym x k).number }) ∙ named

new_named : (key : MsgKey) (a l : List FrameParts) → Among (IsNamed key) l → Among (IsNamed key) a ⊎ Among (IsNamed key) (new_among a l)
new_named key a [] h = absurd h
new_named key a (f ∷ l) (inr h) = elim (new_named key a l h) [
  | inl had ↦ inl had
  | inr new ↦ inr (cond_both (not (is_among a f)) (f ∷ new_among a l) (new_among a l) (Among (IsNamed key)) (λ _. inr new) (λ _. new))
]
new_named key a (f ∷ l) (inl named) = elim (cases_Bool (is_among a f)) [
  | inl had ↦ inl (Among-weaker (λ g. same_identity (identity_of f) (identity_of g) ≡ true) (IsNamed key) (λ g same. same_named key f g named same) a
      (Among-from_any (λ g. same_identity (identity_of f) (identity_of g)) a had))
  | inr none ↦ inr (rw (not_from_false (is_among a f) none) (inl named))
]

-- what is done was delivered
delivered_done : (p : Parameters) (i : ℕ) (key : MsgKey) (e : NoticeKind) (before : List NoticeKind) → Among (IsNamed key) (done p i (e ∷ before))
    → Among (IsNamed key) (delivered p i (e ∷ before))
unfolding delivered
delivered_done p i key e before h =
    let early : List FrameParts = delivered p i before in
    let new : List FrameParts = new_among early (done p i (e ∷ before)) in
    elim (new_named key early (done p i (e ∷ before)) h) [
      | inl had ↦ Among-append_left (IsNamed key) early new had
      | inr fresh ↦ Among-append_right (IsNamed key) early new fresh
    ]

-- a message of the order, whose data frame a running node saw carried Clean and whose closing it
-- has read, the node has delivered
pub has_delivered : (scenario : ScenarioParts) (s : RunState) → Ground scenario s → (m : MsgKey) (q i : ℕ) → runs (node_at s.nodes i) ≡ true
    → Done (seen_by s i) q m → is_accepted_by_some scenario s m ≡ true → (node_at s.nodes i).unread + scenario.params.bound ≤ q
    → Among (IsNamed m) (delivered scenario.params i (read_by s i))
has_delivered scenario s k m q i running d by_some read =
    let p : Parameters = scenario.params in
    let T : List SlotNote = seen_by s i in
    let u : ℕ = (node_at s.nodes i).unread in
    let P : List NoticeKind = past i T u in
    let n : ℕ = q - u in
    let first = first_of scenario s k i in
    let reads = reads_of scenario s k i running u (omega arith) in
    let there : q < length T = carried_there (tot_of_key m) T q (clean_carried (tot_of_key m) (note_at T q) d) in
    let age : u + n ≡ q = omega (arith, read) in
    let w : Place m P = record {
      age = n;
      notice = gave i T q;
      older = past i T (suc q);
      at = drop_past i n u q T age ∙ past_next i T q there;
      is = heard_holds i T reads.heard m q d;
      newest = done_place p T i u (is_accepted_by_some scenario s) first reads m n q (sym age) d;
    } in
    let clear : are_through p i P (n + 1) (past i T (suc q)) ≡ true =
    through_is_clear p i P (n + 1) (past i T (suc q)) ∙ clear_old p i P (n + 1) (past i T (suc q)) (omega (arith, read, age)) in
    let is : is_done p i P (are_through p i P (n + 1) (past i T (suc q))) m ≡ true =
    and_from (is_accepted p.bound i m P) (are_through p i P (n + 1) (past i T (suc q))) (reads.test_accepted m q d by_some read) clear in
    let done_there : Among (IsNamed m) (done p i P) = (done_exactly p i m P w).1 is in
    let now : P ≡ gave i T u ∷ past i T (suc u) = past_next i T u (omega (arith, there, read)) in
    subst (λ (l : List NoticeKind). Among (IsNamed m) (delivered p i l)) (sym now)
    (delivered_done p i m (gave i T u) (past i T (suc u)) (subst (λ (l : List NoticeKind). Among (IsNamed m) (done p i l)) now done_there))

-- ---- a node that never restarted takes part in all slots

abbrev FirstFrom : RunState → Type 0
FirstFrom s = (i : ℕ) → runs (node_at s.nodes i) ≡ true → (node_at s.nodes i).present.number ≡ 0 → (node_at s.nodes i).present.from ≡ 0

same_first : (inc after : Incarnation) → after ≡ inc → (inc.number ≡ 0 → inc.from ≡ 0) → after.number ≡ 0 → after.from ≡ 0
same_first inc after same h first = ap (λ (n : Incarnation). n.from) same ∙ h (sym (ap (λ (n : Incarnation). n.number) same) ∙ first)

restarts_first : (scenario : ScenarioParts) (s : RunState) → FirstFrom s → FirstFrom (after_restarts scenario s)
restarts_first scenario s h i running = elim (restarts_or_stays scenario s i) [
  | inl new ↦ λ first. let never = sym (ap (λ (n : NodeState). n.present.number) new.is) ∙ first in absurd (omega (arith, never))
  | inr same ↦
      same_first (node_at s.nodes i).present (node_at (after_restarts scenario s).nodes i).present (ap (λ (n : NodeState). n.present) same)
      (h i (sym (ap (λ (n : NodeState). runs n) same) ∙ running))
]

first_from : (scenario : ScenarioParts) (journal : List Step) → FirstFrom (run scenario journal)
first_from scenario journal =
    along_run scenario FirstFrom
    (λ i running first.
    ap (λ (n : NodeState). n.present.from) (node_at-opening scenario.params.nodes i (opening_within scenario.params.nodes i running)))
    (record {
      slot = λ s o may h i running.
          let ran = (running_before_slot (script scenario.rules) s i running).0 in
          same_first (node_at s.nodes i).present (node_at (after_slot (script scenario.rules) s).nodes i).present
          (after_slot-present (script scenario.rules) s i (runs_within s.nodes i ran)) (h i ran);
      restarts = λ s o some h. restarts_first scenario s h;
      turn = λ s i o may h j running.
          same_first (node_at s.nodes j).present (node_at (after_turn scenario i s).nodes j).present
          (after_turn-present scenario i s j may (o.unread i)) (h j (sym (after_turn-runs scenario i s j may (o.unread i)) ∙ running));
    })
    journal

-- ---- what a correct node has delivered

tot_itself : (m : Message) → m.service ≡ Tot → is_service m.service Tot ≡ true
unfolding is_service same_class
tot_itself m tot = ap (λ by. is_service by Tot) tot

-- a settled message is closed at a correct node
closed : (scenario : ScenarioParts) (s : RunState) (m : Message) → m.service ≡ Tot → is_settled scenario s m ≡ true → (i : ℕ) → IsCorrect scenario s i
    → is_recent scenario.params.bound (message_key m) (history i s) ≡ false
closed scenario s m tot settled i correct =
    sym (ap (λ b. b && is_recent scenario.params.bound (message_key m) (history i s)) (tot_itself m tot))
    ∙ settled_none_ahead scenario s m settled i correct totcan totcan_is_one

-- so its data frame, if it was carried Clean, is older than the bound
closed_age : (scenario : ScenarioParts) (s : RunState) → Ground scenario s → (m : Message) → m.service ≡ Tot → is_settled scenario s m ≡ true
    → (i : ℕ) → IsCorrect scenario s i → (q : ℕ) → Done (seen_by s i) q (message_key m) → (node_at s.nodes i).unread + scenario.params.bound ≤ q
closed_age scenario s k m tot settled i correct q d =
    let u : ℕ = (node_at s.nodes i).unread in
    let read : u ≡ 0 = settled_read scenario s m settled i correct.running in
    let held = heard_holds i (seen_by s i) (k.tot.nodes i correct.running).heard (message_key m) q d in
    elim (cases_lt q (u + scenario.params.bound)) [
      | inr old ↦ old
      | inl young ↦
          absurd (both_ways (is_recent scenario.params.bound (message_key m) (history i s)) (closed scenario s m tot settled i correct)
          (ap (λ p. is_recent scenario.params.bound (message_key m) p) (history-is i s)
          ∙ open_from scenario.params.bound i u q (message_key m) (seen_by s i) (omega (arith, read)) young held))
    ]

-- the order of the slots in which node i takes part, by the frames that it sees
order_of : (scenario : ScenarioParts) (journal : List Step) (i : ℕ) → runs (node_at (run scenario journal).nodes i) ≡ true
    → order scenario (run scenario journal) (node_at (run scenario journal).nodes i).present.from
    ≡ map content_in (frames_by (is_accepted_by_some scenario (run scenario journal)) (seen_by (run scenario journal) i))
order_of scenario journal i running =
    let s : RunState = run scenario journal in
    order_seen (is_accepted_by_some scenario s) (node_at s.nodes i).present (first_from scenario journal i running) s.trace

pub follows : (scenario : ScenarioParts) (journal : List Step) → scenario.params.nodes ≤ most_nodes → Ground scenario (run scenario journal)
    → (i : ℕ) → IsCorrect scenario (run scenario journal) i → FollowsOrder scenario (run scenario journal) i
follows scenario journal few k i correct =
    let s : RunState = run scenario journal in
    let test : MsgKey → Bool = is_accepted_by_some scenario s in
    let u : ℕ = (node_at s.nodes i).unread in
    let front = delivered_first scenario.params (seen_by s i) i u test (first_of scenario s k i)
    (λ v from. reads_of scenario s k i correct.running v from) (unread_few scenario s k i) in
    let entries : tot_deliveries (log scenario s i) ≡ map content_in (delivered scenario.params i (read_by s i)) =
    log_delivers (scenario_at scenario s i) i (history i s) ∙ ap (λ p. map content_in (delivered scenario.params i p)) (history-is i s) in
    record {
      rest = map content_in front.0;
      prefix = order_of scenario journal i correct.running ∙ ap (map content_in) front.1
          ∙ map-append content_in (delivered scenario.params i (read_by s i)) front.0
          ∙ ap (λ l. l ++ map content_in front.0) (sym entries);
      settled = λ m stands tot settled there.
          let inside : Among (λ c. c ≡ content_of m) (map content_in (frames_by test (seen_by s i))) =
          subst (Among (λ c. c ≡ content_of m)) (order_of scenario journal i correct.running)
          (Among-from_Contains (order scenario s (node_at s.nodes i).present.from) (content_of m) there) in
          let f = frames_in test (λ f. content_in f ≡ content_of m) (seen_by s i)
          (Among-from_map content_in (λ c. c ≡ content_of m) (frames_by test (seen_by s i)) inside) in
          let key : message_in f.0 ≡ message_key m = ap (λ (c : Content). c.msg) f.1 in
          let d : Done (seen_by s i) f.3.0 (message_key m) = subst (λ (n : MsgKey). Done (seen_by s i) f.3.0 n) key f.3.1 in
          let passes : test (message_key m) ≡ true = ap test (sym key) ∙ f.2 in
          let all = has_delivered scenario s k (message_key m) f.3.0 i correct.running d passes
          (closed_age scenario s k m tot settled i correct f.3.0 d) in
          named_delivered scenario journal few i correct m stands tot
          (subst (λ p. Among (λ g. message_in g ≡ message_key m) (delivered scenario.params i p)) (sym (history-is i s)) all);
    }

pub ground_of : (scenario : ScenarioParts) (journal : List Step) → IsWithin scenario.params (run scenario journal).trace
    → TotKept scenario (run scenario journal) → AcceptedAt scenario (run scenario journal) → Ground scenario (run scenario journal)
ground_of scenario journal within tot accepted = record {
  orderly = orderly scenario journal;
  plain = recursion_from_All (λ note. is_silent_slot note ≡ false) (run scenario journal).trace within.silent;
  tot = tot;
  accepted = accepted;
}

-- every correct node follows the one order
pub one_order : (scenario : ScenarioParts) (journal : List Step) → scenario.params.nodes ≤ most_nodes
    → IsWithin scenario.params (run scenario journal).trace → TotKept scenario (run scenario journal) → AcceptedAt scenario (run scenario journal)
    → HasOneOrder scenario (run scenario journal)
one_order scenario journal few within tot accepted i correct = follows scenario journal few (ground_of scenario journal within tot accepted) i correct
