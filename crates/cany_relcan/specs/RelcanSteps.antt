-- What RELCAN does with a frame and at the end of a timer, from what the value has.
use Rattle.std.specs.Prelude.{◌≡◌, ℕ, ◌-◌, ◌==◌, ◌&&◌, ◌||◌, Bool, false, not, nat_lt, if◌then◌else◌, List, [], ◌∷◌, Option, Some, None}
use Rattle.cany_base.specs.declared.actions.Action.{Action}
use Rattle.cany_base.specs.declared.actions.Action.TheVariants.{Ask}
use Rattle.cany_base.specs.declared.message.MsgKey.{MsgKey}
use Rattle.cany_base.specs.Frame.{FrameParts}
use Rattle.cany_diffuse.specs.Eager.{EagerParts, copies_of, is_held, is_there}
use Rattle.cany_message.specs.Numbers.{frame_number, message_number}
use Rattle.cany_relcan.specs.Relcan.{RelcanParts}
use Rattle.cany_relcan.specs.Timers.{TimersParts, oldest_from, without_from, with_timer}

-- whether the node delivered the message of a data frame
abbrev pub was_delivered : RelcanParts → FrameParts → Bool
was_delivered v f = is_held v.copies (frame_number f)

-- whether the node is the origin of the frame and has noted a copy or its own transmission
abbrev pub holds_own : RelcanParts → FrameParts → Bool
holds_own v f = f.node == v.node && was_delivered v f

-- whether the timer of a message runs and its confirmation was not read: a copy was read, and the
-- node did not fall back
abbrev pub is_awaited : RelcanParts → MsgKey → Bool
is_awaited v msg =
    let number = message_number msg.seq msg.origin in
    not (nat_lt 0 (copies_of v.confirms number)) && (not (msg.origin == v.node) && (nat_lt 0 (copies_of v.copies number) && not (is_held v.fallen number)))

-- whether a copy of a data frame starts a timer: it is the first, and the message is of another
-- node
abbrev pub starts_timer : RelcanParts → FrameParts → Bool
starts_timer v f = not (was_delivered v f) && not (f.node == v.node)

abbrev pub is_fallen : RelcanParts → FrameParts → Bool
is_fallen v f = is_held v.fallen (frame_number f)

abbrev pub is_confirmed : EagerParts → FrameParts → Bool
is_confirmed confirms f = nat_lt 0 (copies_of confirms (frame_number f))

-- one timer more, or the timers as they are
abbrev pub timers_with : Bool → ℕ → FrameParts → TimersParts → TimersParts
timers_with starts slot f timers = if starts then with_timer (record { frame = f; first = slot }) timers else timers

-- the frame of the timer that runs out in the turn of a slot
abbrev pub due_frame : ℕ → RelcanParts → Option FrameParts
due_frame slot v = if nat_lt slot v.confirm then None else oldest_from (slot - v.confirm) v.timers.running

-- the value without that timer
abbrev pub without_due : ℕ → RelcanParts → RelcanParts
without_due slot v = record v {
  timers = record v.timers {
    running = if nat_lt slot v.confirm then v.timers.running else without_from (slot - v.confirm) v.timers.running;
  };
}

-- whether the node falls back for the message of this number, with the frame of the timer that runs
-- out: it is that frame's, and its confirmation was not read
abbrev pub falls : Option FrameParts → EagerParts → ℕ → Bool
falls None confirms number = false
falls (Some f) confirms number = number == frame_number f && not (is_confirmed confirms f)

-- what is marked after a timer that runs out
pub record AreMarksAfter (due : Option FrameParts) (confirms old new : EagerParts) : Type 0 where
  pub room : new.room ≡ old.room
  pub held : (number : ℕ) → is_held new number ≡ (falls due confirms number || is_held old number)
  pub there : (number : ℕ) → is_there new number ≡ (falls due confirms number || is_there old number)

-- ---- actions

abbrev pub ask_actions : Bool → FrameParts → List Action
ask_actions asks f = if asks then Ask f ∷ [] else []

-- whether the node asks for the frame of a timer that runs out
abbrev pub asks_at_end : RelcanParts → FrameParts → Bool
asks_at_end v f = not (is_confirmed v.confirms f) && not (nat_lt v.copies.omit (copies_of v.copies (frame_number f)))

abbrev pub timer_actions : Option FrameParts → RelcanParts → List Action
timer_actions None v = []
timer_actions (Some f) v = ask_actions (asks_at_end v f) f
