-- How long a frame waits: the slots in which a running node waited with it, those in which another
-- frame was carried before it, and the slot that carried it.
use Rattle.std.specs.Prelude.{◌≡◌, ℕ, ◌+◌, ◌-◌, ◌<◌, ◌≤◌, ◌&&◌, Bool, true, not, List, Contains, Some, count_by, drop, take}
use Rattle.cany_base.specs.declared.log_entry.LogEntry.TheVariants.{Deliver}
use Rattle.cany_base.specs.declared.slot_note.SlotNote.{SlotNote}
use Rattle.cany_base.specs.declared.step.Step.{Step}
use Rattle.cany_base.specs.declared.rule.Verdict.TheVariants.{Clean}
use Rattle.cany_base.specs.Params.{Parameters, top_frames}
use Rattle.cany_base.specs.Scenario.{ScenarioParts}
use Rattle.cany_model.specs.Bus.Frames.{Identity, bare, is_before, is_of}
use Rattle.cany_model.specs.Bus.Slot.{carried, is_clean}
use Rattle.cany_model.specs.Bus.State.{RunState, node_at, reads, runs, slots_run}
use Rattle.cany_model.specs.Bus.Waiting.{waits}
use Rattle.cany_model.specs.Promises.Acceptance.{history_to}
use Rattle.cany_model.specs.Promises.Quiet.{is_top}
use Rattle.cany_model.specs.Promises.Settled.{IsCorrectFrom}
use Rattle.cany_model.specs.Rules.Log.{log}
use Rattle.cany_model.specs.Rules.Messages.{Message, message_key, messages_of}
use Rattle.cany_model.specs.Rules.Turn.{has_asked, scenario_at}
use Rattle.cany_model.specs.Runs.Run.{run, slot_state}

-- the notes of n consecutive slots, from slot first on, newest first, where these slots ran
abbrev pub slots_from : RunState → (first n : ℕ) → List SlotNote
slots_from s first n = take n (drop (slots_run s - (first + n)) s.trace)

-- a running node waited with a frame of this identity when slot t was run
pub record WasAwaited (scenario : ScenarioParts) (journal : List Step) (x : Identity) (t : ℕ) : Type 0 where
  pub state : RunState
  pub ran : slot_state scenario t journal ≡ Some state
  pub node : ℕ
  pub running : runs (node_at state.nodes node) ≡ true
  pub waits : waits x (node_at state.nodes node).waiting ≡ true

-- in each of n consecutive slots, from slot first on, a running node waited with it
abbrev pub IsAwaitedThrough : ScenarioParts → List Step → Identity → (first n : ℕ) → Type 0
IsAwaitedThrough scenario journal x first n = (t : ℕ) → first ≤ t → t < first + n → WasAwaited scenario journal x t

-- a frame of it was carried Clean in one of these slots
pub record WasCarriedIn (trace : List SlotNote) (x : Identity) (first n : ℕ) : Type 0 where
  pub note : SlotNote
  pub stands : Contains trace note
  pub from : first ≤ note.slot
  pub to : note.slot < first + n
  pub frame : carried (is_of x) note ≡ true
  pub clean : note.verdict ≡ Clean

-- in n consecutive slots, from slot first on, a running node waited with it up to the first that
-- carried it Clean, or in all of them if none did
abbrev pub IsAwaitedUntilCarried : ScenarioParts → List Step → Identity → (first n : ℕ) → Type 0
IsAwaitedUntilCarried scenario journal x first n =
    (t : ℕ) → first ≤ t → t < first + n → (WasCarriedIn (run scenario journal).trace x first (t - first) → ⊥) → WasAwaited scenario journal x t

-- whether the slot carried Clean a frame that interferes: it wins over those of this identity, and
-- is of none of the classes that win over all others
abbrev pub interferes : Identity → SlotNote → Bool
interferes x note = carried (λ f. not (is_top f.class) && is_before f (bare x)) note && is_clean note.verdict

-- how many of these slots did
abbrev pub interference : Identity → RunState → (first n : ℕ) → ℕ
interference x s first n = count_by (interferes x) (slots_from s first n)

-- a window of slots, as the fault hypothesis counts errors
abbrev pub window : Parameters → ℕ
window p = p.bound + p.lag

-- at most so many slots of a window are Lost or Partial, or carry Clean a frame of the classes that
-- win over all others
abbrev pub most_taken : Parameters → ℕ
most_taken p = top_frames p.nodes + p.errors

-- so many are left at least
abbrev pub least_left : Parameters → ℕ
least_left p = window p - most_taken p

-- ---- messages

-- The origin of a message runs, takes part since slot t or an earlier one, has read that slot, and
-- had asked for the data frame by its turn of it.
pub record HasAskedBy (scenario : ScenarioParts) (s : RunState) (m : Message) (t : ℕ) : Type 0 where
  pub stands : Contains (messages_of scenario.sends) m
  pub origin : IsCorrectFrom scenario s t m.origin
  pub read : t < reads s m.origin
  pub asked : has_asked (scenario_at scenario s m.origin) m m.origin (history_to t m.origin s) ≡ true

-- the first slot that is run only when the origin has read slot t
abbrev pub waits_since : Parameters → ℕ → ℕ
waits_since p t = t + p.lag + 1

-- ---- delivery

-- node i has delivered the message in slot c or an earlier one
pub record HasDeliveredBy (scenario : ScenarioParts) (s : RunState) (m : Message) (c i : ℕ) : Type 0 where
  pub slot : ℕ
  pub stands : Contains (log scenario s i) (Deliver slot m.service (message_key m) m.payload)
  pub by_then : slot ≤ c
