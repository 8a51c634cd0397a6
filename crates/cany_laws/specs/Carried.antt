-- How often the bus carries the frames of a TOTCAN message, and that of a failure sign.
use Rattle.std.specs.Prelude.{◌≡◌, ℕ, zero, suc, ◌+◌, ◌≤◌, ◌&&◌, false, List, [], All, count_by, length}
use Rattle.cany_base.specs.declared.message.MsgKey.{MsgKey}
use Rattle.cany_base.specs.declared.slot_note.SlotNote.{SlotNote}
use Rattle.cany_base.specs.Scenario.{ScenarioParts}
use Rattle.cany_model.specs.Bus.Frames.{Identity, is_of}
use Rattle.cany_model.specs.Bus.Slot.{carried, is_clean}
use Rattle.cany_model.specs.Bus.State.{RunState}
use Rattle.cany_model.specs.Promises.Hypothesis.{is_silent_slot}
use Rattle.cany_model.specs.Rules.Knowledge.{FailureSign, fda_of}
use Rattle.cany_model.specs.Rules.Messages.{accept_of_key}
use Rattle.cany_model.specs.Rules.Totcan.{tot_of_key}
use Rattle.cany_model.specs.Runs.Incarnations.{incarnations}

-- no Silent slot carried a frame
abbrev pub HasNoSilentSlot : List SlotNote → Type 0
HasNoSilentSlot trace = All (λ note. is_silent_slot note ≡ false) trace

-- how many slots carried a frame of this identity Clean
abbrev pub times_clean : Identity → List SlotNote → ℕ
times_clean x trace = count_by (λ note. carried (is_of x) note && is_clean note.verdict) trace

-- how many incarnations the first n nodes have had, the present ones with them
unfoldable pub incarnations_of_first : RunState → ℕ → ℕ
incarnations_of_first s zero = 0
incarnations_of_first s (suc n) = incarnations_of_first s n + length (incarnations s n)

-- Of a TOTCAN message the bus has carried the data frame Clean at most once, and the frame that
-- accepts it at most as often as there are nodes, and at most lag + 2 times; where `omit` is 0, at
-- most once.
pub record CarriesFewOf (scenario : ScenarioParts) (s : RunState) (key : MsgKey) : Type 0 where
  pub tot_data : times_clean (tot_of_key key) s.trace ≤ 1
  pub accepts_by_nodes : times_clean (accept_of_key key) s.trace ≤ scenario.params.nodes
  pub accepts_by_lag : times_clean (accept_of_key key) s.trace ≤ scenario.params.lag + 2
  pub accepts_once : scenario.params.omit ≡ 0 → times_clean (accept_of_key key) s.trace ≤ 1

-- The bus has carried the frame of a failure sign Clean at most as often as there have been
-- incarnations of the nodes. Without restart entries: at most as often as there are nodes, and at
-- most lag + 2 times.
pub record CarriesFewOfSign (scenario : ScenarioParts) (s : RunState) (sign : FailureSign) : Type 0 where
  pub by_incarnations : times_clean (fda_of sign) s.trace ≤ incarnations_of_first s scenario.params.nodes
  pub by_nodes : scenario.restarts ≡ [] → times_clean (fda_of sign) s.trace ≤ scenario.params.nodes
  pub by_lag : scenario.restarts ≡ [] → times_clean (fda_of sign) s.trace ≤ scenario.params.lag + 2
