-- Worked rows of the ranges of the top keys of a text: each at its ends, and by one past them; and
-- the formulas.
use Rattle.std.specs.Prelude.{◌≡◌, ℕ, true, pos, negsuc, List, [], ◌∷◌, map, Option, Some, None, refl, codes}
use Rattle.toml.specs.Data.{integer, boolean, no_members, member}
use Rattle.cany_base.specs.declared.params.ParamName.{ParamName}
use Rattle.cany_base.specs.declared.params.ParamName.TheVariants.{Bound, Cycle, Life, Silence}
use Rattle.cany_text.specs.declared.scenario_fault.KeyName.{KeyName}
use Rattle.cany_text.specs.declared.scenario_fault.KeyName.TheVariants as key
use Rattle.cany_text.specs.declared.scenario_fault.ScenarioFault.{ScenarioFault}
use Rattle.cany_text.specs.declared.scenario_fault.ScenarioFault.TheVariants.{WrongKind, OutOfRange, BoundTooSmall}
use Rattle.cany_text.specs.declared.scenario_fault.TableName.TheVariants as in_table
use Rattle.cany_text.specs.TextNames.{key_name}
use Rattle.cany_rows.proofs.Texts.TextWords.{number, run_in, five_slots, fault_in, text_row}

-- the fault that a number at a key is outside its range
abbrev outside : KeyName → ℕ → Option ScenarioFault
outside name n = Some (OutOfRange in_table.Top 0 name (pos n))

abbrev too_small : ParamName → ℕ → Option ScenarioFault
too_small which needed = Some (BoundTooSmall which needed)

-- the faults of runs of five slots on three nodes with these numbers at a key
unfoldable faults_of : KeyName → List ℕ → List (Option ScenarioFault)
unfolding text_row
faults_of name these = map (λ n. fault_in (five_slots (number (key_name name) n no_members))) these

formats : map (λ n. fault_in (run_in n 3 5 no_members)) (0 ∷ 1 ∷ 2 ∷ 3 ∷ [])
    ≡ outside key.Format 0 ∷ None ∷ None ∷ outside key.Format 3 ∷ []
unfolding text_row
formats = refl

nodes_of_format_one : map (λ n. fault_in (run_in 1 n 5 no_members)) (0 ∷ 1 ∷ 2 ∷ 32 ∷ 33 ∷ [])
    ≡ outside key.Nodes 0 ∷ outside key.Nodes 1 ∷ None ∷ None ∷ outside key.Nodes 33 ∷ []
unfolding text_row
nodes_of_format_one = refl

nodes_of_format_two : map (λ n. fault_in (run_in 2 n 5 no_members)) (1 ∷ 2 ∷ 64 ∷ 65 ∷ [])
    ≡ outside key.Nodes 1 ∷ None ∷ None ∷ outside key.Nodes 65 ∷ []
unfolding text_row
nodes_of_format_two = refl

slots_of_format_one : map (λ n. fault_in (run_in 1 3 n no_members)) (0 ∷ 1 ∷ 100000 ∷ 100001 ∷ [])
    ≡ outside key.Slots 0 ∷ None ∷ None ∷ outside key.Slots 100001 ∷ []
unfolding text_row
slots_of_format_one = refl

slots_of_format_two : map (λ n. fault_in (run_in 2 3 n no_members)) (0 ∷ 1 ∷ 400000 ∷ 400001 ∷ [])
    ≡ outside key.Slots 0 ∷ None ∷ None ∷ outside key.Slots 400001 ∷ []
unfolding text_row
slots_of_format_two = refl

lags : faults_of key.Lag (0 ∷ 8 ∷ 9 ∷ []) ≡ None ∷ None ∷ outside key.Lag 9 ∷ []
unfolding faults_of
lags = refl

omissions : faults_of key.Omit (0 ∷ 8 ∷ 9 ∷ []) ≡ None ∷ None ∷ outside key.Omit 9 ∷ []
unfolding faults_of
omissions = refl

errors : faults_of key.Errors (0 ∷ 1000 ∷ 1001 ∷ []) ≡ None ∷ None ∷ outside key.Errors 1001 ∷ []
unfolding faults_of
errors = refl

-- in its range a bound may still be too small for its formula: the least one is told
bounds : faults_of key.Bound (0 ∷ 1 ∷ 35 ∷ 36 ∷ 1000000 ∷ 1000001 ∷ [])
    ≡ outside key.Bound 0 ∷ too_small Bound 36 ∷ too_small Bound 36 ∷ None ∷ None ∷ outside key.Bound 1000001 ∷ []
unfolding faults_of
bounds = refl

cycles : faults_of key.Cycle (0 ∷ 1 ∷ 71 ∷ 72 ∷ 1000000 ∷ 1000001 ∷ [])
    ≡ outside key.Cycle 0 ∷ too_small Cycle 72 ∷ too_small Cycle 72 ∷ None ∷ None ∷ outside key.Cycle 1000001 ∷ []
unfolding faults_of
cycles = refl

lives : faults_of key.Life (0 ∷ 1 ∷ 35 ∷ 36 ∷ 1000000 ∷ 1000001 ∷ [])
    ≡ outside key.Life 0 ∷ too_small Life 36 ∷ too_small Life 36 ∷ None ∷ None ∷ outside key.Life 1000001 ∷ []
unfolding faults_of
lives = refl

silences : faults_of key.Silence (0 ∷ 1 ∷ 72 ∷ 73 ∷ 1000000 ∷ 1000001 ∷ [])
    ≡ outside key.Silence 0 ∷ too_small Silence 73 ∷ too_small Silence 73 ∷ None ∷ None ∷ outside key.Silence 1000001 ∷ []
unfolding faults_of
silences = refl

-- up to the cycle
timers : faults_of key.Confirm (0 ∷ 1 ∷ 72 ∷ 73 ∷ []) ≡ outside key.Confirm 0 ∷ None ∷ None ∷ outside key.Confirm 73 ∷ []
unfolding faults_of
timers = refl

the_cycle_that_is_given_bounds_the_timer :
    map (λ n. fault_in (five_slots (number (codes "cycle") 100 (number (codes "confirm") n no_members)))) (100 ∷ 101 ∷ [])
    ≡ None ∷ outside key.Confirm 101 ∷ []
unfolding text_row
the_cycle_that_is_given_bounds_the_timer = refl

a_number_below_zero :
    fault_in (five_slots (member (codes "lag") (integer (negsuc 0)) no_members)) ≡ Some (OutOfRange in_table.Top 0 key.Lag (negsuc 0))
unfolding text_row
a_number_below_zero = refl

a_boolean_is_no_integer : fault_in (five_slots (member (codes "omit") (boolean true) no_members)) ≡ Some (WrongKind in_table.Top 0 key.Omit)
unfolding text_row
a_boolean_is_no_integer = refl

-- a formula takes the values before it as they are given
the_bound_at_lag_1 :
    map (λ n. fault_in (five_slots (number (codes "lag") 1 (number (codes "bound") n no_members)))) (74 ∷ 75 ∷ [])
    ≡ too_small Bound 75 ∷ None ∷ []
unfolding text_row
the_bound_at_lag_1 = refl

-- the first formula that does not hold is told
all_of_them_too_small :
    fault_in (five_slots (number (codes "bound") 1
    (number (codes "cycle") 1 (number (codes "life") 1 (number (codes "silence") 1 no_members))))) ≡ too_small Bound 36
unfolding text_row
all_of_them_too_small = refl
