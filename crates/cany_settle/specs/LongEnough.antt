-- When a run is long enough: its last event lies so far before its end that nothing more is to come
-- of any message.
use Rattle.std.specs.Prelude.{◌≡◌, ℕ, ◌+◌, ◌*◌, ◌≤◌, true, Contains}
use Rattle.cany_base.specs.Params.{Parameters}
use Rattle.cany_base.specs.Scenario.{ScenarioParts}
use Rattle.cany_model.specs.Bus.State.{RunState}
use Rattle.cany_model.specs.Promises.Settled.{is_settled}
use Rattle.cany_model.specs.Rules.Messages.{Message, messages_of}
use Rattle.cany_settle.specs.LastEvent.{greater, greatest, is_lower_slot, last_event, last_slot, send_slots}

-- so many slots after the last event: two membership cycles
abbrev pub tail : Parameters → ℕ
tail p = 2 * p.cycle

-- how many slots the run would have to have
abbrev pub needed : ScenarioParts → RunState → ℕ
needed scenario s = last_event scenario s + tail scenario.params

abbrev pub IsLongEnough : ScenarioParts → RunState → Type 0
IsLongEnough scenario s = needed scenario s ≤ scenario.params.slots

-- every message is settled: nothing more is to come of it
abbrev pub AllSettled : ScenarioParts → RunState → Type 0
AllSettled scenario s = (m : Message) → Contains (messages_of scenario.sends) m → is_settled scenario s m ≡ true

-- ---- what it takes

-- The last load: the last scripted send, and the last slot that carried a frame of a lower class.
-- Stops and errors need not be over.
abbrev pub last_load : ScenarioParts → RunState → ℕ
last_load scenario s = greater (greatest (send_slots scenario.sends)) (last_slot is_lower_slot s.trace)

-- the slots in which a message can still come to something after the last load: until then a timer
-- runs out, or the next message of a backlog is asked for
abbrev pub settling_time : Parameters → ℕ
settling_time p = greater p.confirm (p.bound + p.lag)

-- after that, what is asked for is asked for at most `lag` slots later, and of `bound` slots one is
-- quiet
abbrev pub short_tail : Parameters → ℕ
short_tail p = settling_time p + (p.bound + p.lag) + 1
