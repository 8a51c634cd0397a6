-- The words that the texts share: what classes, services, verdicts, parameters, tables and keys are
-- called in them.
use Rattle.std.specs.Prelude.{ℕ, List, Option, find, codes}
use Rattle.std.specs.Str.{bytes_eq}
use Rattle.cany_base.specs.declared.class.Class.{Class}
use Rattle.cany_base.specs.declared.class.Class.TheVariants.{Accept, Rha, Els, Fda, Join, Leave, Confirm, Tot, Rel, Ed}
use Rattle.cany_base.specs.declared.message.Service.{Service}
use Rattle.cany_base.specs.declared.message.Service.TheVariants as service
use Rattle.cany_base.specs.declared.params.ParamName.{ParamName}
use Rattle.cany_base.specs.declared.params.ParamName.TheVariants as param
use Rattle.cany_base.specs.declared.rule.Verdict.{Verdict}
use Rattle.cany_base.specs.declared.rule.Verdict.TheVariants.{Clean, Lost, Partial, Silent}
use Rattle.cany_text.specs.declared.scenario_fault.KeyName.{KeyName}
use Rattle.cany_text.specs.declared.scenario_fault.KeyName.TheVariants as key
use Rattle.cany_text.specs.declared.scenario_fault.TableName.{TableName}
use Rattle.cany_text.specs.declared.scenario_fault.TableName.TheVariants as table

-- the first of these that is called so
abbrev pub named : {A : Type 0} → (A → List ℕ) → List A → List ℕ → Option A
named name_of these name = find (λ x. bytes_eq (name_of x) name) these

unfoldable pub class_name : Class → List ℕ
class_name Accept = codes "accept"
class_name Rha = codes "rha"
class_name Els = codes "els"
class_name Fda = codes "fda"
class_name Join = codes "join"
class_name Leave = codes "leave"
class_name Confirm = codes "confirm"
class_name Tot = codes "tot"
class_name Rel = codes "rel"
class_name Ed = codes "ed"

unfoldable pub service_name : Service → List ℕ
service_name service.Ed = codes "ed"
service_name service.Rel = codes "rel"
service_name service.Tot = codes "tot"

unfoldable pub verdict_name : Verdict → List ℕ
verdict_name Clean = codes "clean"
verdict_name Lost = codes "lost"
verdict_name (Partial reject) = codes "partial"
verdict_name (Silent reject) = codes "silent"

unfoldable pub param_name : ParamName → List ℕ
param_name param.Bound = codes "bound"
param_name param.Cycle = codes "cycle"
param_name param.Life = codes "life"
param_name param.Silence = codes "silence"
param_name param.Confirm = codes "confirm"

unfoldable pub key_name : KeyName → List ℕ
key_name key.Format = codes "format"
key_name key.Nodes = codes "nodes"
key_name key.Slots = codes "slots"
key_name key.Lag = codes "lag"
key_name key.Omit = codes "omit"
key_name key.Errors = codes "errors"
key_name key.Bound = codes "bound"
key_name key.Cycle = codes "cycle"
key_name key.Life = codes "life"
key_name key.Silence = codes "silence"
key_name key.Confirm = codes "confirm"
key_name key.Members = codes "members"
key_name key.Send = codes "send"
key_name key.Fault = codes "fault"
key_name key.Join = codes "join"
key_name key.Leave = codes "leave"
key_name key.Restart = codes "restart"
key_name key.Journal = codes "journal"
key_name key.Slot = codes "slot"
key_name key.Node = codes "node"
key_name key.Service = codes "service"
key_name key.DataKey = codes "data"
key_name key.Class = codes "class"
key_name key.Number = codes "number"
key_name key.Nth = codes "nth"
key_name key.Verdict = codes "verdict"
key_name key.Reject = codes "reject"
key_name key.Stop = codes "stop"

unfoldable pub table_name : TableName → List ℕ
table_name table.Top = codes "top"
table_name table.Send = codes "send"
table_name table.Fault = codes "fault"
table_name table.Join = codes "join"
table_name table.Leave = codes "leave"
table_name table.Restart = codes "restart"
