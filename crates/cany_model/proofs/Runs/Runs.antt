-- What every run has, and how an invariant is proved of every run.
use Rattle.std.specs.Prelude.{◌≡◌, ℕ, zero, suc, ◌+◌, ◌-◌, ◌<◌, ◌≤◌, ◌≢◌, ◌==◌, Bool, true, false, ◌&&◌, nat_lt, nat_le, if◌then◌else◌, List, [], ◌∷◌, Option, Some, None, is_none, length, drop, slice_index_or, refl}
use Rattle.std.proofs.Common.{sym, ap, ◌∙◌, subst, inl, inr, arith, ltb-false, leb-false, length-drop}
use Rattle.std.proofs.lemmas.Bool.{false≢true, cases_lt, cases_eq, eqb-false, ne_eqb, lt-leb, le-ltb}
use Rattle.std.proofs.lemmas.List.{length-map, get_or-map, get_or-drop, length-replicate, nil_from_length}
use Rattle.cany_base.specs.declared.slot_note.SlotNote.{SlotNote}
use Rattle.cany_model.specs.Bus.Slot.{FaultScript, slot_note_of, after_slot, script}
use Rattle.cany_model.specs.Bus.State.{NodeState, RunState, fresh, opening, node_at, runs, slots_run}
use Rattle.cany_base.specs.declared.notice.NoticeKind.{NoticeKind}
use Rattle.cany_model.specs.Bus.History.{given, history, seen}
use Rattle.cany_model.specs.Bus.Restart.{after_restarts}
use Rattle.cany_base.specs.Scenario.{ScenarioParts}
use Rattle.cany_model.specs.Runs.Run.{after_turn, first_lagging, reply, is_done, proceed, after_step, run_from, run}
use Rattle.cany_base.specs.declared.step.Step.{Step}
use Rattle.cany_base.specs.declared.step.Step.TheVariants as step
use Rattle.cany_model.proofs.Bus.Notes.{note_of-slot}
use Rattle.cany_model.proofs.Bus.Restarts.{after_restarts-length, after_restarts-trace, restarts_or_stays}
use Rattle.cany_model.proofs.Bus.Seen.{history-is, length-seen}
use Rattle.cany_model.proofs.Bus.States.{no_note, node_at-opening, node_at_past, note_at, runs_within}
use Rattle.cany_model.proofs.Runs.Steps.{MayTurn, after_slot-length, after_slot-trace, after_slot-unread, after_turn-length, after_turn-node, after_turn-other, after_turn-trace}

-- ---- every state of a run

-- the nodes are those of the scenario, no node has more unread than there are notes, and a note
-- says which slot it is of
pub record IsOrderly (nodes : ℕ) (s : RunState) : Type 0 where
  pub count : length s.nodes ≡ nodes
  pub unread : (i : ℕ) → (node_at s.nodes i).unread ≤ length s.trace
  pub numbered : (age : ℕ) → age < length s.trace → (note_at s.trace age).slot ≡ length s.trace - 1 - age

-- what holds where a slot is done
pub record MaySlot (scenario : ScenarioParts) (s : RunState) : Type 0 where
  pub room : length s.trace < scenario.params.slots
  pub lag : (i : ℕ) → runs (node_at s.nodes i) ≡ true → (node_at s.nodes i).unread ≤ scenario.params.lag

absent_unread : (nodes : List NodeState) (i : ℕ) → length nodes ≤ i → (node_at nodes i).unread ≡ 0
absent_unread nodes i h = ap (λ node. node.unread) (node_at_past nodes i h)

pub opening_within : (nodes i : ℕ) → runs (node_at (opening nodes).nodes i) ≡ true → i < nodes
opening_within nodes i h = subst (λ n. i < n) (length-replicate nodes fresh) (runs_within (opening nodes).nodes i h)

pub orderly_opening : (nodes : ℕ) → IsOrderly nodes (opening nodes)
orderly_opening nodes = record {
  count = length-replicate nodes fresh;
  unread = λ i. elim (cases_lt i nodes) [
    | inl below ↦ omega (arith, ap (λ node. node.unread) (node_at-opening nodes i below))
    | inr past ↦ omega (arith, absent_unread (opening nodes).nodes i (subst (λ n. n ≤ i) (sym (length-replicate nodes fresh)) past))
  ];
  numbered = λ age h. absurd (omega arith);
}

slot_unread : (rules : FaultScript) (s : RunState) (i : ℕ) → (node_at s.nodes i).unread ≤ length s.trace
    → (node_at (after_slot rules s).nodes i).unread ≤ suc (length s.trace)
slot_unread rules s i h =
    elim (cases_lt i (length s.nodes)) [
      | inl below ↦ omega (arith, after_slot-unread rules s i below)
      | inr past ↦ omega (arith, absent_unread (after_slot rules s).nodes i (omega (arith, after_slot-length rules s)))
    ]

numbered_more : (note : SlotNote) (trace : List SlotNote) → note.slot ≡ length trace
    → ((age : ℕ) → age < length trace → (note_at trace age).slot ≡ length trace - 1 - age)
    → (age : ℕ) → age < suc (length trace) → (note_at (note ∷ trace) age).slot ≡ suc (length trace) - 1 - age
numbered_more note trace e before zero h = omega arith
numbered_more note trace e before (suc age) h = let older = before age (omega arith) in omega (arith, older)

pub orderly_slot : (nodes : ℕ) (rules : FaultScript) (s : RunState) → IsOrderly nodes s → IsOrderly nodes (after_slot rules s)
unfolding after_slot
orderly_slot nodes rules s o = record {
  count = after_slot-length rules s ∙ o.count;
  unread = λ i. slot_unread rules s i (o.unread i);
  numbered = numbered_more (slot_note_of rules s) s.trace (note_of-slot rules s) o.numbered;
}

restarts_unread : (scenario : ScenarioParts) (s : RunState) (i : ℕ) → (node_at s.nodes i).unread ≤ length s.trace
    → (node_at (after_restarts scenario s).nodes i).unread ≤ length s.trace
restarts_unread scenario s i h = elim (restarts_or_stays scenario s i) [
  | inl new ↦ rw new.is (omega arith)
  | inr same ↦ rw same h
]

pub orderly_restarts : (nodes : ℕ) (scenario : ScenarioParts) (s : RunState) → IsOrderly nodes s → IsOrderly nodes (after_restarts scenario s)
orderly_restarts nodes scenario s o = record {
  count = after_restarts-length scenario s ∙ o.count;
  unread = λ i. subst (λ trace. (node_at (after_restarts scenario s).nodes i).unread ≤ length trace) (sym (after_restarts-trace scenario s))
      (restarts_unread scenario s i (o.unread i));
  numbered = λ age. subst (λ trace. age < length trace → (note_at trace age).slot ≡ length trace - 1 - age) (sym (after_restarts-trace scenario s)) (o.numbered age);
}

turn_unread : (scenario : ScenarioParts) (i : ℕ) (s : RunState) (j : ℕ) → MayTurn s i → ((k : ℕ) → (node_at s.nodes k).unread ≤ length s.trace)
    → (node_at (after_turn scenario i s).nodes j).unread ≤ length s.trace
turn_unread scenario i s j may all =
    elim (cases_eq j i) [
      | inl same ↦
          let here : (node_at (after_turn scenario i s).nodes i).unread ≡ (node_at s.nodes i).unread - 1 =
          ap (λ node. node.unread) (after_turn-node scenario i s may (all i)) in
          let short : (node_at s.nodes i).unread ≤ length s.trace = all i in
          subst (λ k. (node_at (after_turn scenario i s).nodes k).unread ≤ length s.trace) (sym same) (omega arith)
      | inr other ↦
          let there : (node_at (after_turn scenario i s).nodes j).unread ≡ (node_at s.nodes j).unread =
          ap (λ node. node.unread) (after_turn-other scenario i s j other) in
          let short : (node_at s.nodes j).unread ≤ length s.trace = all j in
          omega arith
    ]

pub orderly_turn : (nodes : ℕ) (scenario : ScenarioParts) (i : ℕ) (s : RunState) → MayTurn s i → IsOrderly nodes s → IsOrderly nodes (after_turn scenario i s)
orderly_turn nodes scenario i s may o = record {
  count = after_turn-length scenario i s ∙ o.count;
  unread = λ j. subst (λ trace. (node_at (after_turn scenario i s).nodes j).unread ≤ length trace) (sym (after_turn-trace scenario i s))
      (turn_unread scenario i s j may o.unread);
  numbered = λ age. subst (λ trace. age < length trace → (note_at trace age).slot ≡ length trace - 1 - age) (sym (after_turn-trace scenario i s)) (o.numbered age);
}

none_lags : (lag k : ℕ) (nodes : List NodeState) → first_lagging lag k nodes ≡ None
    → (i : ℕ) → runs (node_at nodes i) ≡ true → (node_at nodes i).unread ≤ lag
unfolding first_lagging node_at
none_lags lag k [] h i running = absurd (false≢true running)
none_lags lag k (node ∷ nodes) h i running = by_test (none_lags lag (k + 1) nodes) (runs node && nat_lt lag node.unread) refl
  where
    some_is_none : (x : ℕ × ℕ) → Some x ≡ None → ⊥
    some_is_none x e = cc

    first : (n : ℕ) → (runs node && nat_lt lag node.unread) ≡ false → ((j : ℕ) → runs (node_at nodes j) ≡ true → (node_at nodes j).unread ≤ lag)
        → runs (node_at (node ∷ nodes) n) ≡ true → (node_at (node ∷ nodes) n).unread ≤ lag
    first zero quiet rest r = ltb-false lag node.unread (sym (ap (λ b. b && nat_lt lag node.unread) r) ∙ quiet)
    first (suc n) quiet rest r = rest n r

    by_test : (first_lagging lag (k + 1) nodes ≡ None → (j : ℕ) → runs (node_at nodes j) ≡ true → (node_at nodes j).unread ≤ lag)
        → (b : Bool) → (runs node && nat_lt lag node.unread) ≡ b → (node_at (node ∷ nodes) i).unread ≤ lag
    by_test rest true e = absurd (some_is_none (k, node.unread) (rw e at h))
    by_test rest false e = first i e (rest (rw e at h)) running

pub slot_done : (scenario : ScenarioParts) (s : RunState) → is_done (reply scenario s step.Slot) ≡ true → MaySlot scenario s
unfolding reply
slot_done scenario s h = by_room (nat_le scenario.params.slots (slots_run s)) refl
  where
    by_lag : (found : Option (ℕ × ℕ)) → first_lagging scenario.params.lag 0 s.nodes ≡ found
        → nat_le scenario.params.slots (slots_run s) ≡ false → MaySlot scenario s
    by_lag None e room = record {
      room = leb-false scenario.params.slots (length s.trace) room;
      lag = none_lags scenario.params.lag 0 s.nodes e;
    }
    by_lag (Some found) e room = absurd (false≢true (rw (room, e) at h))

    by_room : (b : Bool) → nat_le scenario.params.slots (slots_run s) ≡ b → MaySlot scenario s
    by_room true e = absurd (false≢true (rw e at h))
    by_room false e = by_lag (first_lagging scenario.params.lag 0 s.nodes) refl e

pub turn_done : (scenario : ScenarioParts) (s : RunState) (i : ℕ) → length s.nodes ≡ scenario.params.nodes
    → is_done (reply scenario s (step.Turn i)) ≡ true → MayTurn s i
unfolding reply
turn_done scenario s i count h = by_number (nat_le scenario.params.nodes i) refl
  where
    by_unread : (b : Bool) → ((node_at s.nodes i).unread == 0) ≡ b → (node_at s.nodes i).stopped ≡ None
        → nat_le scenario.params.nodes i ≡ false → MayTurn s i
    by_unread true e running there = absurd (false≢true (rw (there, running, e) at h))
    by_unread false e running there =
        let some : (node_at s.nodes i).unread ≢ 0 = eqb-false (node_at s.nodes i).unread 0 e in
        let below : i < scenario.params.nodes = leb-false scenario.params.nodes i there in
        record { there = omega arith; running = rw running; unread = omega arith }

    by_stop : (o : Option ℕ) → (node_at s.nodes i).stopped ≡ o → nat_le scenario.params.nodes i ≡ false → MayTurn s i
    by_stop None e there = by_unread ((node_at s.nodes i).unread == 0) refl e there
    by_stop (Some slot) e there = absurd (false≢true (rw (there, e) at h))

    by_number : (b : Bool) → nat_le scenario.params.nodes i ≡ b → MayTurn s i
    by_number true e = absurd (false≢true (rw e at h))
    by_number false e = by_stop (node_at s.nodes i).stopped refl e

-- and where these hold, the step is done

none_lag : (lag k : ℕ) (nodes : List NodeState) → ((i : ℕ) → runs (node_at nodes i) ≡ true → (node_at nodes i).unread ≤ lag)
    → first_lagging lag k nodes ≡ None
unfolding first_lagging node_at
none_lag lag k [] h = refl
none_lag lag k (node ∷ nodes) h = rw (first (runs node) refl) (none_lag lag (k + 1) nodes (λ i running. h (suc i) running))
  where
    first : (b : Bool) → runs node ≡ b → (runs node && nat_lt lag node.unread) ≡ false
    first true running = rw (running, le-ltb lag node.unread (h 0 running)) refl
    first false stopped = rw stopped refl

pub slot_is_done : (scenario : ScenarioParts) (s : RunState) → MaySlot scenario s → is_done (reply scenario s step.Slot) ≡ true
unfolding reply
slot_is_done scenario s may = rw (lt-leb scenario.params.slots (length s.trace) may.room, none_lag scenario.params.lag 0 s.nodes may.lag) refl

pub turn_is_done : (scenario : ScenarioParts) (s : RunState) (i : ℕ) → length s.nodes ≡ scenario.params.nodes → MayTurn s i
    → is_done (reply scenario s (step.Turn i)) ≡ true
unfolding reply
turn_is_done scenario s i count may =
    rw (lt-leb scenario.params.nodes i (omega (arith, may.there)), no_stop (node_at s.nodes i).stopped may.running, ne_eqb (node_at s.nodes i).unread 0 (omega (arith, may.unread))) refl
  where
    no_stop : (o : Option ℕ) → is_none o ≡ true → o ≡ None
    no_stop None h = refl
    no_stop (Some slot) h = absurd (false≢true h)

-- What a done step keeps: a slot, then the restarts at its end, or a turn.
pub record IsKept (scenario : ScenarioParts) (P : RunState → Type 0) : Type 0 where
  pub slot : (s : RunState) → IsOrderly scenario.params.nodes s → MaySlot scenario s → P s → P (after_slot (script scenario.rules) s)
  pub restarts : (s : RunState) → IsOrderly scenario.params.nodes s → 0 < length s.trace → P s → P (after_restarts scenario s)
  pub turn : (s : RunState) (i : ℕ) → IsOrderly scenario.params.nodes s → MayTurn s i → P s → P (after_turn scenario i s)

kept_step : (scenario : ScenarioParts) (P : RunState → Type 0) → IsKept scenario P → (s : RunState) (step : Step)
    → IsOrderly scenario.params.nodes s → P s → is_done (reply scenario s step) ≡ true
    → IsOrderly scenario.params.nodes (proceed scenario s step) × P (proceed scenario s step)
unfolding proceed
kept_step scenario P keeps s step.Slot o p done =
    let rules : FaultScript = script scenario.rules in
    let o' = orderly_slot scenario.params.nodes rules s o in
    let some : 0 < length (after_slot rules s).trace = subst (λ trace. 0 < length trace) (sym (after_slot-trace rules s)) (omega arith) in (
      orderly_restarts scenario.params.nodes scenario (after_slot rules s) o',
      keeps.restarts (after_slot rules s) o' some (keeps.slot s o (slot_done scenario s done) p),
    )
kept_step scenario P keeps s (step.Turn i) o p done =
    let may = turn_done scenario s i o.count done in
    (orderly_turn scenario.params.nodes scenario i s may o, keeps.turn s i o may p)

kept_any_step : (scenario : ScenarioParts) (P : RunState → Type 0) → IsKept scenario P → (s : RunState) (step : Step)
    → IsOrderly scenario.params.nodes s → P s
    → IsOrderly scenario.params.nodes (after_step scenario s step) × P (after_step scenario s step)
unfolding after_step
kept_any_step scenario P keeps s step o p = by_reply (is_done (reply scenario s step)) refl
  where
    by_reply : (b : Bool) → is_done (reply scenario s step) ≡ b
        → IsOrderly scenario.params.nodes (if b then proceed scenario s step else s) × P (if b then proceed scenario s step else s)
    by_reply true done = kept_step scenario P keeps s step o p done
    by_reply false e = (o, p)

kept_from : (scenario : ScenarioParts) (P : RunState → Type 0) → IsKept scenario P → (s : RunState) (journal : List Step)
    → IsOrderly scenario.params.nodes s → P s
    → IsOrderly scenario.params.nodes (run_from scenario s journal) × P (run_from scenario s journal)
unfolding run_from
kept_from scenario P keeps s [] o p = (o, p)
kept_from scenario P keeps s (step ∷ journal) o p =
    let next = kept_any_step scenario P keeps s step o p in
    kept_from scenario P keeps (after_step scenario s step) journal next.0 next.1

-- What holds at first, and is kept by each slot and each turn that is done, holds of every run: of
-- any journal, legal or not.
pub along_run : (scenario : ScenarioParts) (P : RunState → Type 0) → P (opening scenario.params.nodes) → IsKept scenario P
    → (journal : List Step) → P (run scenario journal)
along_run scenario P first keeps journal =
    (kept_from scenario P keeps (opening scenario.params.nodes) journal (orderly_opening scenario.params.nodes) first).1

pub orderly : (scenario : ScenarioParts) (journal : List Step) → IsOrderly scenario.params.nodes (run scenario journal)
orderly scenario journal =
    (kept_from scenario (λ s. Unit {0}) (record { slot = λ s o may p. tt; restarts = λ s o some p. tt; turn = λ s i o may p. tt })
    (opening scenario.params.nodes) journal (orderly_opening scenario.params.nodes) tt).0

-- ---- the entries of a history

pub history-length : (i : ℕ) (s : RunState) → length (history i s) ≡ length s.trace - (node_at s.nodes i).unread
history-length i s =
    let node = node_at s.nodes i in
    ap length (history-is i s) ∙ length-map (drop node.unread (seen node.present s.trace)) (given i)
    ∙ length-drop node.unread (seen node.present s.trace) ∙ ap (λ n. n - node.unread) (length-seen node.present s.trace)

-- an entry is what the slot at that age gave the incarnation
pub history-at : (i : ℕ) (s : RunState) (k : ℕ) (d : NoticeKind) → k < length (history i s)
    → slice_index_or (history i s) k d ≡ given i (note_at (seen (node_at s.nodes i).present s.trace) ((node_at s.nodes i).unread + k))
history-at i s k d h =
    let node = node_at s.nodes i in
    let trace = seen node.present s.trace in
    ap (λ past. slice_index_or past k d) (history-is i s)
    ∙ get_or-map (given i) (drop node.unread trace) k no_note d
    (subst (λ n. k < n) (ap length (history-is i s) ∙ length-map (drop node.unread trace) (given i)) h)
    ∙ ap (λ note. given i note) (get_or-drop node.unread trace k no_note)

pub history-opening : (nodes i : ℕ) → history i (opening nodes) ≡ []
history-opening nodes i = nil_from_length (history i (opening nodes)) (history-length i (opening nodes) ∙ omega arith)
