-- What the rules of a protocol do in a turn.
use Rattle.std.specs.Prelude.{ℕ, List, [], ◌∷◌}
use Rattle.cany_base.specs.declared.log_entry.LogEntry.{LogEntry}
use Rattle.cany_base.specs.declared.notice.NoticeKind.{NoticeKind}
use Rattle.cany_base.specs.Frame.{FrameParts}
use Rattle.cany_base.specs.Scenario.{ScenarioParts}
use Rattle.cany_model.specs.Bus.Frames.{Identity}
use Rattle.cany_model.specs.Bus.Waiting.{with_frame, without}

pub data Effect : Type 0 where
  -- the frame is put among the waiting frames, in place of one of its identity
  Ask : FrameParts → Effect
  -- the frame of this identity waits no longer
  Withdraw : Identity → Effect
  -- the entry is appended to the log
  Enter : LogEntry → Effect

-- What a node does in a turn, from the scenario, its number and what it has read, newest first: the
-- first is the notice of this turn, and its slot is the number of those before it.
abbrev pub TurnRule : Type 0
TurnRule = ScenarioParts → ℕ → List NoticeKind → List Effect

-- the waiting frames after these effects, one after another
unfoldable pub waiting_after : List Effect → List FrameParts → List FrameParts
waiting_after [] waiting = waiting
waiting_after (Ask f ∷ effects) waiting = waiting_after effects (with_frame f waiting)
waiting_after (Withdraw x ∷ effects) waiting = waiting_after effects (without x waiting)
waiting_after (Enter entry ∷ effects) waiting = waiting_after effects waiting

-- the entries that these effects make
unfoldable pub entered : List Effect → List LogEntry
entered [] = []
entered (Ask f ∷ effects) = entered effects
entered (Withdraw x ∷ effects) = entered effects
entered (Enter entry ∷ effects) = entry ∷ entered effects
