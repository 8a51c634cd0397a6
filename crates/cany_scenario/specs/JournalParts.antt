-- The journal of a text, part by part.
use Rattle.std.specs.Prelude.{ℕ, ◌+◌, Bool, List, [], length, is_some, Ok}
use Rattle.std.specs.List.{list_all}
use Rattle.toml.specs.Data.{as_str, Items, no_items, item}
use Rattle.toml.specs.View.{view}
use Rattle.toml.specs.declared.value.Value.{Value}
use Rattle.cany_base.specs.declared.format.Format.{Format}
use Rattle.cany_base.specs.declared.step.Step.{Step}
use Rattle.cany_text.specs.declared.scenario_fault.Position.{Position}
use Rattle.cany_text.specs.JournalText.{steps_from}
use Rattle.cany_text.specs.TomlKeys.{Read, ◌>>=◌, of_kind}
use Rattle.cany_scenario.specs.Arrays.{after}

-- each value is a text
abbrev pub are_texts : List Value → Bool
are_texts values = list_all (λ value. is_some (as_str (view value))) values

-- the steps of the texts that the items are, one after another, of which the first begins at this
-- place of the joined texts
abbrev pub texts_in_order : Format → Position → ℕ → Items → Read (List Step)
texts_in_order format at place no_items = Ok []
texts_in_order format at place (item value rest) = do
  text ← of_kind at (as_str value)
  steps ← steps_from format place text
  after steps (texts_in_order format at (place + length steps) rest)
