-- That a TOTCAN message is accepted by the incarnations of all nodes or of none.
use Rattle.std.specs.Prelude.{◌≡◌, ℕ, ◌+◌, ◌≤◌, Bool, true, Contains}
use Rattle.cany_base.specs.declared.log_entry.LogEntry.TheVariants.{Deliver}
use Rattle.cany_base.specs.declared.message.MsgKey.{MsgKey}
use Rattle.cany_base.specs.declared.message.Service.TheVariants.{Tot}
use Rattle.cany_base.specs.Scenario.{ScenarioParts}
use Rattle.cany_model.specs.Bus.State.{EndedIncarnation, RunState}
use Rattle.cany_model.specs.Rules.Totcan.{is_accepted}
use Rattle.cany_model.specs.Promises.Acceptance.{HasReadClosing}
use Rattle.cany_model.specs.Promises.Order.{has_accepted}
use Rattle.cany_model.specs.Promises.Settled.{IsCorrect}
use Rattle.cany_model.specs.Rules.Messages.{Message, message_key}
use Rattle.cany_laws.specs.Logs.{HasReadClosingAs, log_as, past_to, present_of}

-- whether it had accepted the message by its turn of slot c + bound
abbrev pub accepted_in_time_as : ScenarioParts → RunState → MsgKey → (c i : ℕ) → EndedIncarnation → Bool
accepted_in_time_as scenario s key c i e = is_accepted scenario.params.bound i key (past_to (c + scenario.params.bound) s i e)

-- of a message whose data frame was carried Clean in slot c: they all had accepted it by then, or
-- none had
abbrev pub IsAcceptedByEachOrNone : ScenarioParts → RunState → MsgKey → (c : ℕ) → Type 0
IsAcceptedByEachOrNone scenario s key c =
    (i j : ℕ) (e f : EndedIncarnation) → HasReadClosingAs scenario s c i e → HasReadClosingAs scenario s c j f
    → accepted_in_time_as scenario s key c i e ≡ accepted_in_time_as scenario s key c j f

-- ---- delivery in time

-- its log has a delivery of the message in a slot from c to c + bound
pub record DeliversInTime (scenario : ScenarioParts) (s : RunState) (m : Message) (c i : ℕ) (e : EndedIncarnation) : Type 0 where
  pub slot : ℕ
  pub stands : Contains (log_as scenario s i e) (Deliver slot Tot (message_key m) m.payload)
  pub since : c ≤ slot
  pub by_then : slot ≤ c + scenario.params.bound

-- Of a message whose data frame was carried Clean in slot c: an incarnation that takes part since
-- then, has read slot c + bound, and had accepted it by then, has delivered it by then, and not
-- before c. So has each correct node of this kind, if any running node has accepted it by now.
pub record IsDeliveredInTime (scenario : ScenarioParts) (s : RunState) (m : Message) (c : ℕ) : Type 0 where
  pub accepted : (i : ℕ) (e : EndedIncarnation) → HasReadClosingAs scenario s c i e → accepted_in_time_as scenario s (message_key m) c i e ≡ true
      → DeliversInTime scenario s m c i e
  pub correct : (i : ℕ) → IsCorrect scenario s i → has_accepted scenario s (message_key m) i ≡ true
      → (j : ℕ) → HasReadClosing scenario s c j → DeliversInTime scenario s m c j (present_of s j)

-- Of a message whose data frame was carried Clean in slot c: if the log of one incarnation that
-- takes part since then and has read slot c + bound has a delivery of it, so has that of each, in
-- time.
abbrev pub IsDeliveredByEachOrNone : ScenarioParts → RunState → Message → (c : ℕ) → Type 0
IsDeliveredByEachOrNone scenario s m c =
    (i j : ℕ) (e f : EndedIncarnation) → HasReadClosingAs scenario s c i e → HasReadClosingAs scenario s c j f
    → (slot : ℕ) → Contains (log_as scenario s i e) (Deliver slot Tot (message_key m) m.payload) → DeliversInTime scenario s m c j f
