-- That a TOTCAN message is accepted by all nodes or by none.
use Rattle.std.specs.Prelude.{◌≡◌, ℕ, ◌+◌, ◌-◌, ◌<◌, Bool, true, List, Contains, drop}
use Rattle.cany_base.specs.declared.message.MsgKey.{MsgKey}
use Rattle.cany_base.specs.declared.notice.NoticeKind.{NoticeKind}
use Rattle.cany_base.specs.declared.rule.Verdict.TheVariants.{Clean}
use Rattle.cany_base.specs.declared.slot_note.SlotNote.{SlotNote}
use Rattle.cany_base.specs.Scenario.{ScenarioParts}
use Rattle.cany_model.specs.Bus.Frames.{is_of}
use Rattle.cany_model.specs.Bus.History.{history}
use Rattle.cany_model.specs.Bus.Slot.{carried}
use Rattle.cany_model.specs.Bus.State.{RunState, reads}
use Rattle.cany_model.specs.Promises.Order.{has_accepted}
use Rattle.cany_model.specs.Promises.Settled.{IsCorrect, IsCorrectFrom}
use Rattle.cany_model.specs.Rules.Totcan.{is_accepted, tot_of_key}

-- the data frame of the message was carried Clean in this slot
pub record WasCarriedClean (trace : List SlotNote) (key : MsgKey) (slot : ℕ) : Type 0 where
  pub note : SlotNote
  pub stands : Contains trace note
  pub here : note.slot ≡ slot
  pub frame : carried (is_of (tot_of_key key)) note ≡ true
  pub clean : note.verdict ≡ Clean

-- a correct node that takes part since slot c and has read slot c + bound, in which the message
-- closes
pub record HasReadClosing (scenario : ScenarioParts) (s : RunState) (c i : ℕ) : Type 0 where
  pub correct : IsCorrectFrom scenario s c i
  pub read : c + scenario.params.bound < reads s i

-- what node i had read after its turn of this slot
abbrev pub history_to : ℕ → ℕ → RunState → List NoticeKind
history_to slot i s = drop (reads s i - (slot + 1)) (history i s)

-- whether it had accepted it by its turn of slot c + bound
abbrev pub accepted_in_time : ScenarioParts → RunState → MsgKey → (c i : ℕ) → Bool
accepted_in_time scenario s key c i = is_accepted scenario.params.bound i key (history_to (c + scenario.params.bound) i s)

-- Of a message whose data frame was carried Clean in slot c: the correct nodes that take part since
-- slot c and have read slot c + bound had accepted it by then, all or none; and all of them had, if
-- any running node has accepted it by now.
pub record IsAcceptedByAllOrNone (scenario : ScenarioParts) (s : RunState) (key : MsgKey) (c : ℕ) : Type 0 where
  pub alike : (i j : ℕ) → HasReadClosing scenario s c i → HasReadClosing scenario s c j
      → accepted_in_time scenario s key c i ≡ accepted_in_time scenario s key c j
  pub by_all : (i : ℕ) → IsCorrect scenario s i → has_accepted scenario s key i ≡ true
      → (j : ℕ) → HasReadClosing scenario s c j → accepted_in_time scenario s key c j ≡ true
