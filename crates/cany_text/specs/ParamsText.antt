-- The parameters that the top keys of a scenario text give.
use Rattle.std.specs.Prelude.{◌==◌, if◌then◌else◌, Result, Ok, Err}
use Rattle.toml.specs.Data.{Data}
use Rattle.cany_base.specs.declared.format.Format.{Format}
use Rattle.cany_base.specs.declared.format.Format.TheVariants.{One, Two}
use Rattle.cany_base.specs.declared.params.ParamFault.{ParamFault}
use Rattle.cany_base.specs.Layout.{layout}
use Rattle.cany_base.specs.Limits.{greatest_errors, greatest_given, greatest_lag, greatest_omit, greatest_slots}
use Rattle.cany_base.specs.Params.{Parameters, least_bound, least_cycle, least_life, least_silence, first_fault}
use Rattle.cany_text.specs.declared.scenario_fault.KeyName.TheVariants as key
use Rattle.cany_text.specs.declared.scenario_fault.Position.{Position}
use Rattle.cany_text.specs.declared.scenario_fault.ScenarioFault.TheVariants.{BoundTooSmall}
use Rattle.cany_text.specs.TomlKeys.{Read, ◌>>=◌, Entry, required, optional, number_from}

-- the format, by its number
abbrev pub format_from : Position → Data → Read Format
format_from at value = do
  number ← number_from 1 2 at value
  Ok (if number == 1 then One else Two)

-- each key with its range and, where it may be absent, its default, which is held to no range
unfoldable pub given_params : Entry → Read Parameters
given_params top = do
  format ← required format_from key.Format top
  nodes ← required (number_from 2 (layout format).nodes) key.Nodes top
  slots ← required (number_from 1 (greatest_slots format)) key.Slots top
  lag ← optional (number_from 0 greatest_lag) 0 key.Lag top
  omit ← optional (number_from 0 greatest_omit) 1 key.Omit top
  errors ← optional (number_from 0 greatest_errors) 2 key.Errors top
  bound ← optional (number_from 1 greatest_given) (least_bound nodes lag errors) key.Bound top
  cycle ← optional (number_from 1 greatest_given) (least_cycle lag bound) key.Cycle top
  life ← optional (number_from 1 greatest_given) (least_life lag bound) key.Life top
  silence ← optional (number_from 1 greatest_given) (least_silence lag bound life) key.Silence top
  confirm ← optional (number_from 1 cycle) 10 key.Confirm top
  Ok (record {
    format = format;
    nodes = nodes;
    lag = lag;
    omit = omit;
    errors = errors;
    bound = bound;
    cycle = cycle;
    life = life;
    silence = silence;
    confirm = confirm;
    slots = slots;
  })

-- parameters that meet the formulas; the fault names the first that does not hold
abbrev pub meeting_formulas : Parameters → Read Parameters
meeting_formulas params = after_formulas params (first_fault params)
  where
    after_formulas : Parameters → Result (Unit {0}) ParamFault → Read Parameters
    after_formulas p (Ok tt) = Ok p
    after_formulas p (Err fault) = Err (BoundTooSmall fault.which fault.needed)

-- the parameters of the text
unfoldable pub params_of : Entry → Read Parameters
params_of top = do
  params ← given_params top
  meeting_formulas params
