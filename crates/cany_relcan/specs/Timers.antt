-- The timers of messages: which run at a node, oldest first.
use Rattle.std.specs.Prelude.{ℕ, zero, suc, ◌<◌, ◌-◌, ◌^◌, ◌==◌, ◌&&◌, not, if◌then◌else◌, List, [], ◌∷◌, ◌++◌, length, Option, Some, None}
use Rattle.std.specs.List.{AllByRecursion}
use Rattle.cany_base.specs.declared.notice.NoticeKind.{NoticeKind}
use Rattle.cany_base.specs.declared.notice.NoticeKind.TheVariants.{Idle, Got, Sent, Bad}
use Rattle.cany_base.specs.Frame.{FrameParts}
use Rattle.cany_model.specs.Bus.Frames.{identity_of}
use Rattle.cany_model.specs.Rules.Relcan.{has_copy, is_timed}
use Rattle.cany_relcan.specs.declared.timers.Timer.{Timer}

-- the timers that run, oldest first, and how many may run at once
pub record TimersParts : Type 0 where
  pub running : List Timer
  pub room : ℕ

-- each was started in a later slot than those before it
abbrev pub IsAscending : List Timer → Type 0
IsAscending [] = Unit {0}
IsAscending (timer ∷ timers) = AllByRecursion (λ t. timer.first < t.first) timers × IsAscending timers

-- the oldest timer's frame, if it was started in this slot, and the timers without it
abbrev pub oldest_from : ℕ → List Timer → Option FrameParts
oldest_from slot [] = None
oldest_from slot (timer ∷ timers) = if timer.first == slot then Some timer.frame else None

abbrev pub without_from : ℕ → List Timer → List Timer
without_from slot [] = []
without_from slot (timer ∷ timers) = if timer.first == slot then timers else timer ∷ timers

-- the oldest timer's frame
abbrev pub oldest_frame : List Timer → Option FrameParts
oldest_frame [] = None
oldest_frame (timer ∷ timers) = Some timer.frame

-- when the oldest timer was started, and the last slot that there can be where none runs
abbrev pub oldest_start : List Timer → ℕ
oldest_start [] = 2 ^ 64 - 1
oldest_start (timer ∷ timers) = timer.first

-- a timer is started
abbrev pub with_timer : Timer → TimersParts → TimersParts
with_timer timer timers = record timers { running = timers.running ++ timer ∷ [] }

-- the timer that a notice starts at node i, after those before it: its frame is the first copy
abbrev pub started_by : ℕ → NoticeKind → List NoticeKind → List Timer
started_by i Idle before = []
started_by i Bad before = []
started_by i (Sent f) before = []
started_by i (Got f) before =
    if is_timed i (identity_of f) && not (has_copy (identity_of f) before) then record { frame = f; first = length before } ∷ []
    else []

-- those that the newest n notices started
unfoldable pub started_since : ℕ → ℕ → List NoticeKind → List Timer
started_since i zero past = []
started_since i (suc n) [] = []
started_since i (suc n) (notice ∷ before) = started_since i n before ++ started_by i notice before
