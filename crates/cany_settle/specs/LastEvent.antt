-- The last event of a run: after it nobody is asked to send anything new, no sender sees an error,
-- no node stops, and all that is carried are frames of the classes that win over all others.
use Rattle.std.specs.Prelude.{ℕ, ◌||◌, Bool, not, nat_lt, if◌then◌else◌, List, [], ◌∷◌, map}
use Rattle.cany_base.specs.declared.message.NodeAsk.{NodeAsk}
use Rattle.cany_base.specs.declared.message.SendAsk.{SendAsk}
use Rattle.cany_base.specs.declared.slot_note.SlotNote.{SlotNote}
use Rattle.cany_base.specs.Nodes.{is_nobody}
use Rattle.cany_base.specs.Scenario.{ScenarioParts}
use Rattle.cany_model.specs.Bus.Slot.{carried}
use Rattle.cany_model.specs.Bus.State.{RunState}
use Rattle.cany_model.specs.Promises.Hypothesis.{is_error_slot}
use Rattle.cany_model.specs.Promises.Quiet.{is_top}

abbrev pub greater : ℕ → ℕ → ℕ
greater a b = if nat_lt a b then b else a

-- 0, where there is none
unfoldable pub greatest : List ℕ → ℕ
greatest [] = 0
greatest (slot ∷ slots) = greater slot (greatest slots)

-- the greatest slot of these that passes the test
unfoldable pub last_slot : (SlotNote → Bool) → List SlotNote → ℕ
last_slot test [] = 0
last_slot test (note ∷ notes) = greater (if test note then note.slot else 0) (last_slot test notes)

-- a frame of a class that waits for those of the first classes
abbrev pub is_lower_slot : SlotNote → Bool
is_lower_slot note = carried (λ f. not (is_top f.class)) note

-- a node stopped at its end: of each incarnation of it
abbrev pub is_stop_slot : SlotNote → Bool
is_stop_slot note = not (is_nobody note.stops)

abbrev pub is_event : SlotNote → Bool
is_event note = is_lower_slot note || is_error_slot note || is_stop_slot note

abbrev pub send_slots : List SendAsk → List ℕ
send_slots sends = map (λ send. send.slot) sends

abbrev pub ask_slots : List NodeAsk → List ℕ
ask_slots asks = map (λ ask. ask.slot) asks

-- the greatest slot of a scripted ask
abbrev pub last_ask : ScenarioParts → ℕ
last_ask scenario = greater (greatest (send_slots scenario.sends)) (greater (greatest (ask_slots scenario.joins)) (greatest (ask_slots scenario.leaves)))

-- The last event of a run: the last scripted ask, and the last slot that ended in a stop, met an
-- error, or carried a frame of another class than those that win over all others.
abbrev pub last_event : ScenarioParts → RunState → ℕ
last_event scenario s = greater (last_ask scenario) (last_slot is_event s.trace)
