-- Each whole run within the fault hypothesis that goes on long enough after its last load has every
-- message settled.
use Rattle.std.proofs.Common.{◌≡◌, ℕ, zero, suc, ◌+◌, ◌*◌, ◌<◌, ◌≤◌, ◌||◌, inl, inr, Bool, true, if◌then◌else◌, nat_le, nat_lt, List, [], ◌∷◌, length, ap, arith}
use Rattle.std.proofs.lemmas.Bool.{and_parts, cond_both, leb-true, or_left}
use Rattle.cany_base.specs.declared.message.SendAsk.{SendAsk}
use Rattle.cany_base.specs.declared.slot_note.SlotNote.{SlotNote}
use Rattle.cany_base.specs.declared.step.Step.{Step}
use Rattle.cany_base.specs.Params.{MeetsFormulas, Parameters}
use Rattle.cany_base.specs.Scenario.{IsLegalScenario, ScenarioParts}
use Rattle.cany_base.proofs.ParamsFacts.{few_nodes}
use Rattle.cany_model.specs.Bus.State.{RunState, slots_run}
use Rattle.cany_model.specs.Promises.Hypothesis.{IsWithin, is_error_slot}
use Rattle.cany_model.specs.Rules.Messages.{Message, messages_after, messages_of}
use Rattle.cany_model.specs.Runs.Run.{IsWhole, all_read, run}
use Rattle.cany_model.proofs.Among.{Among-from_Contains}
use Rattle.cany_model.proofs.Bus.States.{note_at}
use Rattle.cany_model.proofs.Rules.Services.MessageKeys.{IsOneOf}
use Rattle.cany_model.proofs.Runs.Runs.{orderly}
use Rattle.cany_model.proofs.Timed.Guarantees.{slots_are_quiet}
use Rattle.cany_settle.specs.LastEvent.{ask_slots, greater, greatest, is_event, is_lower_slot, is_stop_slot, last_event, last_slot, send_slots}
use Rattle.cany_settle.specs.LongEnough.{AllSettled, IsLongEnough, last_load, short_tail, tail}
use Rattle.cany_settle.proofs.Resting.{AreScriptedBy, NoLowerSlotAfter, greater-left, greater-right, lower_there}
use Rattle.cany_settle.proofs.Rests.{idle_slot, nodes_rest}
use Rattle.cany_settle.proofs.Settles.{settles}

-- ---- the last load

pub last_slot_above : (test : SlotNote → Bool) (T : List SlotNote) (q : ℕ) → q < length T → test (note_at T q) ≡ true
    → (note_at T q).slot ≤ last_slot test T
unfolding last_slot
last_slot_above test [] q there passes = absurd (omega (arith, there))
last_slot_above test (note ∷ T) zero there passes = rw passes (greater-left note.slot (last_slot test T))
last_slot_above test (note ∷ T) (suc q) there passes =
    let older = last_slot_above test T q (omega (arith, there)) passes in
    let more = greater-right (if test note then note.slot else 0) (last_slot test T) in
    omega (arith, older, more)

no_lower_after : (T : List SlotNote) (last : ℕ) → last_slot is_lower_slot T ≤ last → NoLowerSlotAfter last T
no_lower_after T last short q lower = let above = last_slot_above is_lower_slot T q (lower_there T q lower) lower in omega (arith, above, short)

scripted_by : (earlier sends : List SendAsk) (m : Message) → IsOneOf (messages_after earlier sends) m → m.slot ≤ greatest (send_slots sends)
unfolding greatest messages_after
scripted_by earlier [] m h = absurd h
scripted_by earlier (send ∷ sends) m (inl here) =
    let at = ap (λ (k : Message). k.slot) here in
    let more = greater-left send.slot (greatest (send_slots sends)) in
    omega (arith, at, more)
scripted_by earlier (send ∷ sends) m (inr there) =
    let older = scripted_by (send ∷ earlier) sends m there in
    let more = greater-right send.slot (greatest (send_slots sends)) in
    omega (arith, older, more)

-- ---- the laws

pub settles_soon : (scenario : ScenarioParts) (journal : List Step) → IsLegalScenario scenario → scenario.from ≡ 0
    → IsWithin scenario.params (run scenario journal).trace → IsWhole scenario journal
    → last_load scenario (run scenario journal) + short_tail scenario.params ≤ scenario.params.slots → AllSettled scenario (run scenario journal)
settles_soon scenario journal legal begins within whole long m stands =
    let s : RunState = run scenario journal in
    let last : ℕ = last_load scenario s in
    let ended = and_parts (nat_le scenario.params.slots (slots_run s)) (all_read s) whole in
    let ran : scenario.params.slots ≤ slots_run s = leb-true scenario.params.slots (slots_run s) ended.0 in
    let no_lower : NoLowerSlotAfter last s.trace =
    no_lower_after s.trace last (greater-right (greatest (send_slots scenario.sends)) (last_slot is_lower_slot s.trace)) in
    let scripted : AreScriptedBy last scenario =
    λ k is.
    let by = scripted_by [] scenario.sends k is in
    let more = greater-left (greatest (send_slots scenario.sends)) (last_slot is_lower_slot s.trace) in
    omega (arith, by, more) in
    let quiets = slots_are_quiet scenario journal (few_nodes scenario.params legal.in_range) legal.formulas legal.members within in
    let idle = idle_slot scenario journal last quiets no_lower (omega (arith, long, ran)) in
    settles scenario last s (orderly scenario journal) begins no_lower scripted ended.1 (omega (arith, long, ran))
    (nodes_rest scenario last scripted journal no_lower idle) m (Among-from_Contains (messages_of scenario.sends) m stands)

-- two cycles are no less
tail_is_longer : (p : Parameters) → MeetsFormulas p → short_tail p ≤ tail p
tail_is_longer p meets =
    let cycle = meets.cycle in
    let confirm = meets.confirm in
    let bound = meets.bound in
    cond_both (nat_lt p.confirm (p.bound + p.lag)) (p.bound + p.lag) p.confirm (λ time. time + (p.bound + p.lag) + 1 ≤ 2 * p.cycle)
    (λ _. omega (arith, cycle, bound)) (λ _. omega (arith, cycle, confirm, bound))

greater_least : (a b c : ℕ) → a ≤ c → b ≤ c → greater a b ≤ c
greater_least a b c h k = cond_both (nat_lt a b) b a (λ d. d ≤ c) (λ _. k) (λ _. h)

-- a later slot passes a test that an earlier one passes
last_slot_more : (test wider : SlotNote → Bool) → ((note : SlotNote) → test note ≡ true → wider note ≡ true) → (T : List SlotNote)
    → last_slot test T ≤ last_slot wider T
unfolding last_slot
last_slot_more test wider gives [] = omega arith
last_slot_more test wider gives (note ∷ T) =
    let older = last_slot_more test wider gives T in
    let now = greater-left (if wider note then note.slot else 0) (last_slot wider T) in
    let later = greater-right (if wider note then note.slot else 0) (last_slot wider T) in
    greater_least (if test note then note.slot else 0) (last_slot test T) (greater (if wider note then note.slot else 0) (last_slot wider T))
    (cond_both (test note) note.slot 0 (λ slot. slot ≤ greater (if wider note then note.slot else 0) (last_slot wider T))
    (λ passes. rw (gives note passes) (greater-left note.slot (last_slot wider T))) (λ _. omega arith))
    (omega (arith, older, later))

-- the last load is one of the events
load_is_event : (scenario : ScenarioParts) (s : RunState) → last_load scenario s ≤ last_event scenario s
load_is_event scenario s =
    let sends : ℕ = greatest (send_slots scenario.sends) in
    let asks : ℕ = greater (greatest (ask_slots scenario.joins)) (greatest (ask_slots scenario.leaves)) in
    let events : ℕ = last_slot is_event s.trace in
    let a = greater-left sends asks in
    let b = greater-left (greater sends asks) events in
    let c = greater-right (greater sends asks) events in
    let lower = last_slot_more is_lower_slot is_event
    (λ note h. or_left (is_lower_slot note || is_error_slot note) (is_stop_slot note) (or_left (is_lower_slot note) (is_error_slot note) h)) s.trace in
    greater_least sends (last_slot is_lower_slot s.trace) (last_event scenario s) (omega (arith, a, b)) (omega (arith, lower, c))

pub settles_in_the_end : (scenario : ScenarioParts) (journal : List Step) → IsLegalScenario scenario → scenario.from ≡ 0
    → IsWithin scenario.params (run scenario journal).trace → IsWhole scenario journal → IsLongEnough scenario (run scenario journal)
    → AllSettled scenario (run scenario journal)
settles_in_the_end scenario journal legal begins within whole long =
    let last = load_is_event scenario (run scenario journal) in
    let longer = tail_is_longer scenario.params legal.formulas in
    settles_soon scenario journal legal begins within whole (omega (arith, long, last, longer))
