-- The text of the command: for each node the replies to the messages that its present incarnation
-- delivered by TOTCAN, and its table.
use Rattle.std.specs.Prelude.{ℕ, ◌==◌, if◌then◌else◌, List, [], ◌∷◌, ◌++◌, length, map, Option, Some, None, codes, decimal}
use Rattle.std.specs.List.{concat, flat_map, range_with_len}
use Rattle.std.specs.Option.{option_map_or}
use Rattle.cany_base.specs.declared.step.Step.{Step}
use Rattle.cany_base.specs.Scenario.{ScenarioParts}
use Rattle.cany_model.specs.Bus.State.{RunState, node_at}
use Rattle.cany_model.specs.Promises.Hypothesis.{first_break}
use Rattle.cany_model.specs.Promises.Order.{Content, tot_deliveries}
use Rattle.cany_model.specs.Rules.Log.{log}
use Rattle.cany_model.specs.Runs.Run.{run}
use Rattle.cany_text.specs.ReportLines.{byte_text, hypothesis_line, line_of, payload_text}
use Rattle.cany_replica.specs.declared.answer.Answer.{Answer}
use Rattle.cany_replica.specs.declared.reply.Reply.{Reply}
use Rattle.cany_replica.specs.declared.reply.Reply.TheVariants.{Stored, Removed, Absent, Swapped, Kept, Ignored}
use Rattle.cany_replica.specs.Fold.{replies_of, table_of}
use Rattle.cany_replica.specs.Table.{TableParts, value_at}

unfoldable pub first_line : List ℕ
first_line = line_of (codes "canely replica 1" ∷ [])

unfoldable pub last_line : List ℕ
last_line = line_of (codes "end" ∷ [])

-- ---- a node

-- the number of the incarnation, where it is not the first
abbrev pub incarnation_fields : ℕ → List (List ℕ)
incarnation_fields inc = if inc == 0 then [] else codes "inc" ∷ decimal inc ∷ []

abbrev pub stop_fields : Option ℕ → List (List ℕ)
stop_fields None = codes "correct" ∷ []
stop_fields (Some slot) = codes "stopped" ∷ decimal slot ∷ []

-- a node, and how many messages it applied
unfoldable pub node_line : ℕ → ℕ → Option ℕ → ℕ → List ℕ
node_line i inc stopped count = line_of (
    codes "node" ∷ decimal i ∷ incarnation_fields inc ++ stop_fields stopped ++ codes "applied" ∷ decimal count ∷ [])

unfoldable pub reply_name : Reply → List ℕ
reply_name Stored = codes "stored"
reply_name Removed = codes "removed"
reply_name Absent = codes "absent"
reply_name Swapped = codes "swapped"
reply_name Kept = codes "kept"
reply_name Ignored = codes "ignored"

-- the reply to a message
unfoldable pub reply_line : Answer → List ℕ
reply_line answer = line_of (codes "reply" ∷ decimal answer.msg.origin ∷ decimal answer.msg.seq ∷ reply_name answer.reply ∷ [])

-- a key in two hexadecimal digits, and its value
unfoldable pub key_line : ℕ → List ℕ → List ℕ
key_line key value = line_of (codes "key" ∷ byte_text key ∷ payload_text value ∷ [])

-- the line of a key, where it has a value
abbrev pub value_lines : ℕ → Option (List ℕ) → List (List ℕ)
value_lines key value = option_map_or (λ v. key_line key v ∷ []) value []

-- the keys that have a value, ascending
unfoldable pub key_lines : TableParts → List (List ℕ)
key_lines table = flat_map (λ key. value_lines key (value_at table key)) (range_with_len 0 256)

-- the messages that node i applied: what its present incarnation delivered by TOTCAN, in its order
abbrev pub applied : ScenarioParts → RunState → ℕ → List Content
applied scenario s i = tot_deliveries (log scenario s i)

unfoldable pub node_lines : ScenarioParts → RunState → ℕ → List (List ℕ)
node_lines scenario s i =
    node_line i (node_at s.nodes i).present.number (node_at s.nodes i).stopped (length (applied scenario s i))
    ∷ map reply_line (replies_of (applied scenario s i))
    ++ key_lines (table_of (applied scenario s i))

-- ---- the text

unfoldable pub replica_lines : ScenarioParts → RunState → List (List ℕ)
replica_lines scenario s =
    first_line
    ∷ hypothesis_line (first_break scenario.params s.trace)
    ∷ flat_map (node_lines scenario s) (range_with_len 0 scenario.params.nodes)
    ++ last_line ∷ []

-- the bytes of the text
unfoldable pub replica_text : ScenarioParts → List Step → List ℕ
replica_text scenario journal = concat (replica_lines scenario (run scenario journal))
