-- When nothing more is to come of a message.
use Rattle.std.specs.Prelude.{◌≡◌, ℕ, ◌<◌, ◌≤◌, ◌&&◌, ◌||◌, Bool, true, not, nat_lt, List, [], ◌∷◌}
use Rattle.std.specs.List.{list_any, range_with_len}
use Rattle.cany_base.specs.Scenario.{ScenarioParts}
use Rattle.cany_model.specs.Bus.Frames.{Identity}
use Rattle.cany_model.specs.Bus.History.{history}
use Rattle.cany_model.specs.Rules.Messages.{Message, frames_of}
use Rattle.cany_model.specs.Rules.Knowledge.{FailureSign, fda_of}
use Rattle.cany_model.specs.Rules.Turn.{has_asked, is_ahead_at, scenario_at}
use Rattle.cany_model.specs.Runs.Run.{all_read}
use Rattle.cany_model.specs.Bus.State.{RunState, node_at, runs}
use Rattle.cany_model.specs.Bus.Waiting.{waits}

-- a node that runs
pub record IsCorrect (scenario : ScenarioParts) (s : RunState) (i : ℕ) : Type 0 where
  pub there : i < scenario.params.nodes
  pub running : runs (node_at s.nodes i) ≡ true

-- a correct node that takes part in this slot and in all after it
pub record IsCorrectFrom (scenario : ScenarioParts) (s : RunState) (slot i : ℕ) : Type 0 where
  pub correct : IsCorrect scenario s i
  pub took_part : (node_at s.nodes i).present.from ≤ slot

-- whether a running node waits with one of these frames
abbrev pub is_awaited : List Identity → RunState → Bool
is_awaited frames s = list_any (λ node. runs node && list_any (λ x. waits x node.waiting) frames) s.nodes

-- whether the origin has asked for the data frame, in its present incarnation
abbrev pub origin_has_asked : ScenarioParts → RunState → Message → Bool
origin_has_asked scenario s m = has_asked (scenario_at scenario s m.origin) m m.origin (history m.origin s)

-- Whether the origin's present incarnation takes part only since a slot after the scripted one, and
-- so never asks. This is so wherever an earlier incarnation asked.
abbrev pub came_too_late : RunState → Message → Bool
came_too_late s m = nat_lt m.slot (node_at s.nodes m.origin).present.from

-- whether a running node has something of the message ahead: a timer or a closing whose slot it has
-- not read yet
abbrev pub is_ahead : ScenarioParts → RunState → Message → Bool
is_ahead scenario s m =
    list_any (λ i. runs (node_at s.nodes i) && is_ahead_at (scenario_at scenario s i) m i (history i s)) (range_with_len 0 scenario.params.nodes)

-- The origin has asked for the message, is stopped or came too late for it; no running node waits
-- with a frame of it, every running node has read every notice, and none has anything of it ahead.
unfoldable pub is_settled : ScenarioParts → RunState → Message → Bool
is_settled scenario s m =
    (origin_has_asked scenario s m || not (runs (node_at s.nodes m.origin)) || came_too_late s m)
    && not (is_awaited (frames_of m) s) && all_read s
    && not (is_ahead scenario s m)

-- nobody waits with the frame of the sign
abbrev pub nobody_waits_with_sign : RunState → FailureSign → Bool
nobody_waits_with_sign s sign = not (is_awaited (fda_of sign ∷ []) s)
