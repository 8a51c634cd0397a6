-- The journal that a scenario text gives.
use Rattle.std.specs.Prelude.{ℕ, suc, ◌-◌, ◌==◌, ◌&&◌, nat_le, nat_lt, Bool, if◌then◌else◌, List, [], ◌∷◌, Option, Some, None, option_and_then, Ok}
use Rattle.std.specs.List.{concat}
use Rattle.toml.specs.Data.{Data, as_str, as_array}
use Rattle.cany_base.specs.declared.format.Format.{Format}
use Rattle.cany_base.specs.declared.step.Step.{Step}
use Rattle.cany_base.specs.declared.step.Step.TheVariants.{Slot, Turn}
use Rattle.cany_base.specs.Layout.{layout}
use Rattle.cany_text.specs.declared.scenario_fault.KeyName.TheVariants as key
use Rattle.cany_text.specs.declared.scenario_fault.Position.{Position}
use Rattle.cany_text.specs.declared.scenario_fault.ScenarioFault.TheVariants.{BadJournal}
use Rattle.cany_text.specs.TomlKeys.{Read, ◌>>=◌, Entry, or_fault, of_kind, optional, each_of}

-- the byte lies from low to high
abbrev pub is_between : ℕ → ℕ → ℕ → Bool
is_between low high byte = nat_le low byte && nat_le byte high

-- the node that a digit writes: `0` to `9`, then `a` to `z`, then `A` to `Z`, then `+` and `-`
abbrev pub node_of : ℕ → Option ℕ
node_of byte =
    if is_between 48 57 byte then Some (byte - 48) else
    if is_between 97 122 byte then Some (byte - 87) else
    if is_between 65 90 byte then Some (byte - 29) else
    if byte == 43 then Some 62 else
    if byte == 45 then Some 63 else None

-- the turn of a node that the format can have
abbrev pub turn_in : Format → ℕ → Option Step
turn_in format node = if nat_lt node (layout format).nodes then Some (Turn node) else None

-- the step that a byte writes: `.` is a slot, and a digit is a turn
unfoldable pub step_of : Format → ℕ → Option Step
step_of format byte = if byte == 46 then Some Slot else option_and_then (turn_in format) (node_of byte)

-- the steps that the bytes from this place on write
unfoldable pub steps_from : Format → ℕ → List ℕ → Read (List Step)
steps_from format place [] = Ok []
steps_from format place (byte ∷ bytes) = do
  first ← or_fault (BadJournal place) (step_of format byte)
  others ← steps_from format (suc place) bytes
  Ok (first ∷ others)

-- the value of `journal`: texts, which are joined in order
unfoldable pub journal_from : Format → Position → Data → Read (Option (List Step))
journal_from format at value = do
  items ← of_kind at (as_array value)
  texts ← of_kind at (each_of as_str items)
  steps ← steps_from format 0 (concat texts)
  Ok (Some steps)

-- the journal of the text, where it has one
abbrev pub journal_of_text : Format → Entry → Read (Option (List Step))
journal_of_text format top = optional (journal_from format) None key.Journal top
