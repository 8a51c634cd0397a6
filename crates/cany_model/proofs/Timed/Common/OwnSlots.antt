-- What a node has sent lies in slots that its present incarnation sees, or more than bound + lag
-- slots before the first one in which that takes part. So in one window of bound + lag slots only
-- one incarnation of a node sends.
use Rattle.std.proofs.Common.{◌≡◌, ℕ, zero, suc, ◌+◌, ◌-◌, ◌<◌, ◌≤◌, ◌⊎◌, inl, inr, true, false, List, [], ◌∷◌, length, ap, sym, ◌∙◌, subst, arith}
use Rattle.std.proofs.lemmas.Bool.{cases_Bool, cases_lt, both_ways, false≢true}
use Rattle.cany_base.specs.declared.slot_note.SlotNote.{SlotNote}
use Rattle.cany_base.specs.declared.step.Step.{Step}
use Rattle.cany_base.specs.Params.{Parameters}
use Rattle.cany_base.specs.Scenario.{ScenarioParts}
use Rattle.cany_model.specs.Bus.Frames.{Identity}
use Rattle.cany_model.specs.Bus.History.{given, is_hidden, is_sent}
use Rattle.cany_model.specs.Bus.Restart.{after_restarts, next_incarnation}
use Rattle.cany_model.specs.Runs.Run.{after_turn, run}
use Rattle.cany_model.specs.Bus.Slot.{FaultScript, after_slot, script, slot_note_of}
use Rattle.cany_model.specs.Bus.State.{Incarnation, RunState, node_at, opening, runs, slots_run}
use Rattle.cany_model.proofs.Bus.Carried.{is_sent-true}
use Rattle.cany_model.proofs.Bus.Notes.{given-Sent}
use Rattle.cany_model.proofs.Bus.Restarts.{after_restarts-trace, restarts_or_stays}
use Rattle.cany_model.proofs.Runs.Runs.{IsOrderly, along_run, opening_within}
use Rattle.cany_model.proofs.Bus.Seen.{early_hidden, hidden_why}
use Rattle.cany_model.proofs.Bus.States.{node_at-opening, note_at, runs_within}
use Rattle.cany_model.proofs.Runs.Steps.{MayTurn, after_slot-present, after_slot-trace, after_turn-present, after_turn-runs, after_turn-trace, running_before_slot}
use Rattle.cany_model.proofs.Promises.OwnSlotsAlone.{AllWaitForOwnSlots, own_slots_alone_opening, own_slots_alone_kept, sent_plain}
use Rattle.cany_model.proofs.Timed.Common.Ages.{Sends, gave_none}
use Rattle.cany_model.proofs.Timed.Common.SeenAges.{Sees}

-- of the present incarnation of node i and the whole trace
pub record HasOwnSlots (p : Parameters) (trace : List SlotNote) (i : ℕ) (inc : Incarnation) : Type 0 where
  pub starts : 0 < inc.number → inc.since + (p.bound + p.lag) ≤ inc.from
  pub begun : inc.since ≤ length trace
  pub sent : (age : ℕ) (x : Identity) → Sends i trace age x → Sees inc trace age ⊎ ((note_at trace age).slot < inc.since)

abbrev pub OwnSlots : ScenarioParts → RunState → Type 0
OwnSlots scenario s = (i : ℕ) → runs (node_at s.nodes i) ≡ true → HasOwnSlots scenario.params s.trace i (node_at s.nodes i).present

pub sent_there : (i : ℕ) (trace : List SlotNote) (age : ℕ) (x : Identity) → Sends i trace age x → age < length trace
sent_there i [] age x h = absurd (false≢true (sym (ap (is_sent x) (gave_none i age)) ∙ h))
sent_there i (note ∷ trace) zero x h = omega arith
sent_there i (note ∷ trace) (suc age) x h = omega (arith, sent_there i trace age x h)

-- ---- along a run

own_opening : (scenario : ScenarioParts) → OwnSlots scenario (opening scenario.params.nodes)
own_opening scenario i running =
    rw (node_at-opening scenario.params.nodes i (opening_within scenario.params.nodes i running))
    (record {
      starts = λ later. absurd (omega (arith, later));
      begun = omega arith;
      sent = λ age x h. absurd (false≢true (sym (ap (is_sent x) (gave_none i age)) ∙ h));
    })

own_more : (p : Parameters) (note : SlotNote) (trace : List SlotNote) (i : ℕ) (inc : Incarnation)
    → ((x : Identity) → is_sent x (given i note) ≡ true → is_hidden inc note ≡ false) → HasOwnSlots p trace i inc → HasOwnSlots p (note ∷ trace) i inc
own_more p note trace i inc plain h = record { starts = h.starts; begun = omega (arith, h.begun); sent = sent }
  where
    sent : (age : ℕ) (x : Identity) → Sends i (note ∷ trace) age x → Sees inc (note ∷ trace) age ⊎ ((note_at (note ∷ trace) age).slot < inc.since)
    sent zero x now = inl (plain x now)
    sent (suc age) x before = h.sent age x before

own_slot : (scenario : ScenarioParts) (rules : FaultScript) (s : RunState) → AllWaitForOwnSlots s → OwnSlots scenario s → OwnSlots scenario (after_slot rules s)
own_slot scenario rules s own_slots_alone all i running =
    let ran = (running_before_slot rules s i running).0 in
    let inc = (node_at s.nodes i).present in
    let note = slot_note_of rules s in
    subst (λ t. HasOwnSlots scenario.params t i (node_at (after_slot rules s).nodes i).present) (sym (after_slot-trace rules s))
    (subst (λ (k : Incarnation). HasOwnSlots scenario.params (slot_note_of rules s ∷ s.trace) i k)
    (sym (after_slot-present rules s i (runs_within s.nodes i ran)))
    (own_more scenario.params note s.trace i inc (λ x h.
    let g = is_sent-true x (given i note) h in
    let parts = given-Sent i note g.what g.was in
    sent_plain rules s i (own_slots_alone i ran) g.what parts.0 parts.1) (all i ran)))

-- all slots that ran come before the first one of an incarnation that begins
own_new : (p : Parameters) (nodes : ℕ) (s : RunState) (i : ℕ) (inc : Incarnation) → IsOrderly nodes s → 0 < length s.trace
    → HasOwnSlots p s.trace i (next_incarnation p (slots_run s - 1) inc)
own_new p nodes s i inc o some = record {
  starts = λ later. omega arith;
  begun = omega (arith, some);
  sent = λ age x h.
      let there = sent_there i s.trace age x h in
      let number = o.numbered age there in
      inr (omega (arith, there, number, some));
}

own_restarts : (scenario : ScenarioParts) (s : RunState) → IsOrderly scenario.params.nodes s → 0 < length s.trace → OwnSlots scenario s
    → OwnSlots scenario (after_restarts scenario s)
own_restarts scenario s o some all i running =
    subst (λ t. HasOwnSlots scenario.params t i (node_at (after_restarts scenario s).nodes i).present) (sym (after_restarts-trace scenario s))
    (elim (restarts_or_stays scenario s i) [
      | inl new ↦ rw new.is (own_new scenario.params scenario.params.nodes s i (node_at s.nodes i).present o some)
      | inr same ↦ rw same (all i (sym (ap (λ node. runs node) same) ∙ running))
    ])

own_turn : (scenario : ScenarioParts) (s : RunState) (i : ℕ) → IsOrderly scenario.params.nodes s → MayTurn s i → OwnSlots scenario s
    → OwnSlots scenario (after_turn scenario i s)
own_turn scenario s i o may all j running =
    subst (λ t. HasOwnSlots scenario.params t j (node_at (after_turn scenario i s).nodes j).present) (sym (after_turn-trace scenario i s))
    (subst (λ (k : Incarnation). HasOwnSlots scenario.params s.trace j k) (sym (after_turn-present scenario i s j may (o.unread i)))
    (all j (sym (after_turn-runs scenario i s j may (o.unread i)) ∙ running)))

pub own_slots : (scenario : ScenarioParts) (journal : List Step) → OwnSlots scenario (run scenario journal)
own_slots scenario journal =
    (along_run scenario (λ s. AllWaitForOwnSlots s × OwnSlots scenario s) (own_slots_alone_opening scenario.params.nodes, own_opening scenario)
    (own_slots_alone_kept scenario (OwnSlots scenario) (record {
      slot = λ s o own_slots_alone h. own_slot scenario (script scenario.rules) s own_slots_alone h;
      restarts = λ s o some h. own_restarts scenario s o some h;
      turn = λ s i o may h. own_turn scenario s i o may h;
    })) journal).1

-- ---- what follows

-- a slot that a restarted node sees does not come before its first one
pub sees_from : (inc : Incarnation) (trace : List SlotNote) (age : ℕ) → Sees inc trace age → 0 < inc.number → inc.from ≤ (note_at trace age).slot
sees_from inc trace age plain later = elim (cases_lt (note_at trace age).slot inc.from) [
  | inl early ↦ absurd (both_ways (is_hidden inc (note_at trace age)) plain (early_hidden inc (note_at trace age) later early))
  | inr late ↦ late
]

-- the slot lies more than bound + lag slots before the first one of a restarted node
pub record IsLongBefore (p : Parameters) (inc : Incarnation) (trace : List SlotNote) (age : ℕ) : Type 0 where
  pub later : 0 < inc.number
  pub there : age < length trace
  pub far : length trace + (p.bound + p.lag) ≤ inc.from + age

pub sent_when : (p : Parameters) (nodes : ℕ) (s : RunState) (i : ℕ) (inc : Incarnation) → IsOrderly nodes s → HasOwnSlots p s.trace i inc
    → (age : ℕ) (x : Identity) → Sends i s.trace age x → Sees inc s.trace age ⊎ IsLongBefore p inc s.trace age
sent_when p nodes s i inc o own age x h = elim (cases_Bool (is_hidden inc (note_at s.trace age))) [
  | inr plain ↦ inl plain
  | inl hidden ↦ elim (own.sent age x h) [
    | inl plain ↦ inl plain
    | inr before ↦
        let later = (hidden_why inc (note_at s.trace age) hidden).0 in
        let there = sent_there i s.trace age x h in
        let number = o.numbered age there in
        let starts = own.starts later in
        inr (record { later = later; there = there; far = omega (arith, before, there, number, starts) })
  ]
]

-- so two slots in which a node sends, of which its present incarnation sees only the newer, lie
-- more than bound + lag slots apart
pub sent_apart : (p : Parameters) (nodes : ℕ) (s : RunState) (inc : Incarnation) → IsOrderly nodes s → (newer older : ℕ) → newer < length s.trace
    → Sees inc s.trace newer → IsLongBefore p inc s.trace older → newer + (p.bound + p.lag) < older
sent_apart p nodes s inc o newer older there plain before =
    let from = sees_from inc s.trace newer plain before.later in
    let number = o.numbered newer there in
    omega (arith, from, number, before.far, there)
