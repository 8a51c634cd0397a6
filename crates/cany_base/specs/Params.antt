-- The parameters of a scenario, their ranges and the formulas that they have to meet.
use Rattle.std.specs.Prelude.{ℕ, ◌+◌, ◌*◌, ◌≤◌, nat_lt, if◌then◌else◌, Result, Ok, Err}
use Rattle.cany_base.specs.declared.format.Format.{Format}
use Rattle.cany_base.specs.declared.format.Format.TheVariants.{One}
use Rattle.cany_base.specs.declared.params.ParamName.{ParamName}
use Rattle.cany_base.specs.declared.params.ParamName.TheVariants.{Bound, Cycle, Life, Silence, Confirm}
use Rattle.cany_base.specs.declared.params.ParamFault.{ParamFault}
use Rattle.cany_base.specs.Layout.{layout}
use Rattle.cany_base.specs.Limits.{greatest_lag, greatest_omit, greatest_errors, greatest_default, greatest_slots}

pub record Parameters : Type 0 where
  pub format : Format
  pub nodes : ℕ
  pub lag : ℕ
  pub omit : ℕ
  pub errors : ℕ
  pub bound : ℕ
  pub cycle : ℕ
  pub life : ℕ
  pub silence : ℕ
  pub confirm : ℕ
  pub slots : ℕ

abbrev IsFrom : ℕ → ℕ → ℕ → Type 0
IsFrom low high value = (low ≤ value) × (value ≤ high)

pub record IsInRange (p : Parameters) : Type 0 where
  pub nodes : IsFrom 2 (layout p.format).nodes p.nodes
  pub lag : p.lag ≤ greatest_lag
  pub omit : p.omit ≤ greatest_omit
  pub errors : p.errors ≤ greatest_errors
  pub bound : IsFrom 1 greatest_default p.bound
  pub cycle : IsFrom 1 greatest_default p.cycle
  pub life : IsFrom 1 greatest_default p.life
  pub silence : IsFrom 1 greatest_default p.silence
  pub confirm : IsFrom 1 greatest_default p.confirm
  pub slots : IsFrom 1 (greatest_slots p.format) p.slots

-- how many Clean frames of the top classes a window of `bound + lag` slots can have
abbrev pub top_frames : ℕ → ℕ
top_frames nodes = 3 * nodes * nodes + 2 * nodes

-- the least values that the formulas allow, each from the parameters before it
abbrev pub least_bound : (nodes lag errors : ℕ) → ℕ
least_bound nodes lag errors = 1 + top_frames nodes + errors + lag * (top_frames nodes + errors + nodes + 1)

abbrev pub least_cycle : (lag bound : ℕ) → ℕ
least_cycle lag bound = 2 * bound + 2 * lag

abbrev pub least_life : (lag bound : ℕ) → ℕ
least_life lag bound = bound + lag

abbrev pub least_silence : (lag bound life : ℕ) → ℕ
least_silence lag bound life = life + lag + bound + 1

pub record MeetsFormulas (p : Parameters) : Type 0 where
  pub bound : least_bound p.nodes p.lag p.errors ≤ p.bound
  pub cycle : least_cycle p.lag p.bound ≤ p.cycle
  pub life : least_life p.lag p.bound ≤ p.life
  pub silence : least_silence p.lag p.bound p.life ≤ p.silence
  pub confirm : p.confirm ≤ p.cycle

abbrev fault : ParamName → ℕ → Result (Unit {0}) ParamFault
fault which needed = Err (record { which = which; needed = needed })

-- the first formula that fails, with the value that it needs
abbrev pub first_fault : Parameters → Result (Unit {0}) ParamFault
first_fault p =
    if nat_lt p.bound (least_bound p.nodes p.lag p.errors) then fault Bound (least_bound p.nodes p.lag p.errors)
    else if nat_lt p.cycle (least_cycle p.lag p.bound) then fault Cycle (least_cycle p.lag p.bound)
    else if nat_lt p.life (least_life p.lag p.bound) then fault Life (least_life p.lag p.bound)
    else if nat_lt p.silence (least_silence p.lag p.bound p.life) then fault Silence (least_silence p.lag p.bound p.life)
    else if nat_lt p.cycle p.confirm then fault Confirm p.cycle
    else Ok tt

-- the parameters of so many nodes and so many slots where a text gives no others: the derived ones
-- have their least values
abbrev pub default_parameters_of : (format : Format) (nodes slots : ℕ) → Parameters
default_parameters_of format nodes slots =
    let bound = least_bound nodes 0 2 in
    let life = least_life 0 bound in
    record {
      format = format;
      nodes = nodes;
      lag = 0;
      omit = 1;
      errors = 2;
      bound = bound;
      cycle = least_cycle 0 bound;
      life = life;
      silence = least_silence 0 bound life;
      confirm = 10;
      slots = slots;
    }

abbrev pub default_parameters : (nodes slots : ℕ) → Parameters
default_parameters nodes slots = default_parameters_of One nodes slots
