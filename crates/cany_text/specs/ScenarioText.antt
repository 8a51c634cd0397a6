-- What scenario the bytes of a text stand for, or the first fault in it. The order of the faults is
-- the order in which the parts below are read.
use Rattle.std.specs.Prelude.{ℕ, List, [], ◌∷◌, Ok, Err, if◌then◌else◌}
use Rattle.std.specs.Str.{is_utf8}
use Rattle.toml.specs.Parse.{parse_document}
use Rattle.toml.specs.Data.{Members}
use Rattle.cany_base.specs.Scenario.{ScenarioParts}
use Rattle.cany_text.specs.declared.scenario_fault.KeyName.{KeyName}
use Rattle.cany_text.specs.declared.scenario_fault.KeyName.TheVariants as key
use Rattle.cany_text.specs.declared.scenario_fault.ScenarioFault.TheVariants.{NotText, NotToml}
use Rattle.cany_text.specs.declared.scenario_fault.TableName.TheVariants.{Top}
use Rattle.cany_text.specs.AsksText.{joins_of, leaves_of, restarts_of}
use Rattle.cany_text.specs.FaultsText.{rules_of}
use Rattle.cany_text.specs.JournalText.{journal_of_text}
use Rattle.cany_text.specs.NodesText.{all_nodes, nodes_from}
use Rattle.cany_text.specs.ParamsText.{params_of}
use Rattle.cany_text.specs.SendsText.{sends_of}
use Rattle.cany_text.specs.TomlKeys.{Read, ◌>>=◌, Entry, or_fault, only_keys, optional}

-- the table that the bytes write, if they are UTF-8 and a TOML document
unfoldable pub document_of : List ℕ → Read Members
document_of bytes = if is_utf8 bytes then or_fault NotToml (parse_document bytes) else Err NotText

abbrev pub top_keys : List KeyName
top_keys =
    key.Format ∷ key.Nodes ∷ key.Slots ∷ key.Lag ∷ key.Omit ∷ key.Errors ∷ key.Bound ∷ key.Cycle ∷ key.Life ∷ key.Silence ∷ key.Confirm
    ∷ key.Members ∷ key.Send ∷ key.Fault ∷ key.Join ∷ key.Leave ∷ key.Restart ∷ key.Journal ∷ []

abbrev pub top_table : Members → Entry
top_table members = record { table = Top; place = 0; members = members }

-- every node is a member where the key `members` is absent
unfoldable pub scenario_from : Entry → Read ScenarioParts
scenario_from top = do
  _ ← only_keys top_keys top
  params ← params_of top
  members ← optional (nodes_from params) (all_nodes params) key.Members top
  sends ← sends_of params top
  rules ← rules_of params top
  joins ← joins_of params top
  leaves ← leaves_of params top
  restarts ← restarts_of params top
  journal ← journal_of_text params.format top
  Ok (record {
    params = params;
    members = members;
    sends = sends;
    rules = rules;
    joins = joins;
    leaves = leaves;
    restarts = restarts;
    from = 0;
    inc = 0;
    journal = journal;
  })

-- the scenario that the bytes stand for, or the first fault
unfoldable pub scenario_of : List ℕ → Read ScenarioParts
scenario_of bytes = do
  members ← document_of bytes
  scenario_from (top_table members)
