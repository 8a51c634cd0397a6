-- The last event lies in the run.
use Rattle.std.proofs.Common.{ℕ, suc, ◌<◌, Bool, if◌then◌else◌, nat_lt, List, [], ◌∷◌, length, map, All, arith}
use Rattle.std.specs.List.{AllByRecursion}
use Rattle.std.proofs.lemmas.Bool.{cond_both}
use Rattle.std.proofs.lemmas.List.Elements.{recursion_from_All}
use Rattle.cany_base.specs.declared.message.NodeAsk.{NodeAsk}
use Rattle.cany_base.specs.declared.slot_note.SlotNote.{SlotNote}
use Rattle.cany_base.specs.declared.step.Step.{Step}
use Rattle.cany_base.specs.Params.{Parameters}
use Rattle.cany_base.specs.Scenario.{IsAskOf, IsLegalScenario, IsSendOf, ScenarioParts}
use Rattle.cany_model.specs.Runs.Run.{run}
use Rattle.cany_model.proofs.Among.{Each-weaker}
use Rattle.cany_model.proofs.Bus.States.{note_at}
use Rattle.cany_model.proofs.Runs.Journals.{trace_short}
use Rattle.cany_model.proofs.Runs.Runs.{orderly}
use Rattle.cany_settle.specs.LastEvent.{ask_slots, greater, greatest, is_event, last_event, last_slot, send_slots}

both_below : (a b n : ℕ) → a < n → b < n → greater a b < n
both_below a b n h k = cond_both (nat_lt a b) b a (λ c. c < n) (λ _. k) (λ _. h)

greatest_below : {X : Type 0} (f : X → ℕ) (n : ℕ) → 0 < n → (xs : List X) → AllByRecursion (λ x. f x < n) xs → greatest (map f xs) < n
unfolding greatest
greatest_below f n some [] h = some
greatest_below f n some (x ∷ xs) h = both_below (f x) (greatest (map f xs)) n h.0 (greatest_below f n some xs h.1)

last_slot_below : (test : SlotNote → Bool) (n : ℕ) → 0 < n → (notes : List SlotNote) → ((q : ℕ) → q < length notes → (note_at notes q).slot < n)
    → last_slot test notes < n
unfolding last_slot
last_slot_below test n some [] h = some
last_slot_below test n some (note ∷ notes) h =
    both_below (if test note then note.slot else 0) (last_slot test notes) n
    (cond_both (test note) note.slot 0 (λ slot. slot < n) (λ _. h 0 (omega arith)) (λ _. some))
    (last_slot_below test n some notes (λ q below. h (suc q) (omega (arith, below))))

asks_below : (p : Parameters) → 0 < p.slots → (asks : List NodeAsk) → All (IsAskOf p) asks → greatest (ask_slots asks) < p.slots
asks_below p some asks all =
    greatest_below (λ ask. ask.slot) p.slots some asks
    (Each-weaker (IsAskOf p) (λ ask. ask.slot < p.slots) (λ ask is. is.0) asks (recursion_from_All (IsAskOf p) asks all))

pub last_event_below : (scenario : ScenarioParts) → IsLegalScenario scenario → (journal : List Step)
    → last_event scenario (run scenario journal) < scenario.params.slots
last_event_below scenario legal journal =
    let p : Parameters = scenario.params in
    let some : 0 < p.slots = let from = legal.in_range.slots.0 in omega (arith, from) in
    let o = orderly scenario journal in
    let short = trace_short scenario journal in
    let sends = greatest_below (λ send. send.slot) p.slots some scenario.sends
    (Each-weaker (IsSendOf p) (λ send. send.slot < p.slots) (λ send is. is.0) scenario.sends (recursion_from_All (IsSendOf p) scenario.sends legal.sends)) in
    let events = last_slot_below is_event p.slots some (run scenario journal).trace
    (λ q below. let number = o.numbered q below in omega (arith, number, below, short)) in
    both_below (greater (greatest (send_slots scenario.sends)) (greater (greatest (ask_slots scenario.joins)) (greatest (ask_slots scenario.leaves))))
    (last_slot is_event (run scenario journal).trace) p.slots
    (both_below (greatest (send_slots scenario.sends)) (greater (greatest (ask_slots scenario.joins)) (greatest (ask_slots scenario.leaves))) p.slots sends
    (both_below (greatest (ask_slots scenario.joins)) (greatest (ask_slots scenario.leaves)) p.slots (asks_below p some scenario.joins legal.joins)
    (asks_below p some scenario.leaves legal.leaves)))
    events
