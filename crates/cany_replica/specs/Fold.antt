-- A table after messages, in their order, and the reply to each of them.
use Rattle.std.specs.Prelude.{Bool, false, List, [], ◌∷◌}
use Rattle.cany_base.specs.declared.log_entry.LogEntry.{LogEntry}
use Rattle.cany_base.specs.declared.log_entry.LogEntry.TheVariants.{Deliver, Failed, View}
use Rattle.cany_base.specs.declared.message.Service.TheVariants.{Tot}
use Rattle.cany_model.specs.Promises.Order.{Content}
use Rattle.cany_model.specs.Rules.Messages.{is_service}
use Rattle.cany_replica.specs.declared.answer.Answer.{Answer}
use Rattle.cany_replica.specs.Table.{TableParts, apply, empty_table}

-- whether an entry of a log delivers a message by TOTCAN
abbrev pub is_applied : LogEntry → Bool
is_applied (Deliver slot service msg payload) = is_service service Tot
is_applied (Failed slot node cycle) = false
is_applied (View slot number members) = false

unfoldable pub table_after : TableParts → List Content → TableParts
table_after table [] = table
table_after table (m ∷ later) = table_after (apply table m.payload).0 later

unfoldable pub replies_after : TableParts → List Content → List Answer
replies_after table [] = []
replies_after table (m ∷ later) =
    record { msg = m.msg; reply = (apply table m.payload).1 } ∷ replies_after (apply table m.payload).0 later

-- from the empty table on
abbrev pub table_of : List Content → TableParts
table_of messages = table_after empty_table messages

abbrev pub replies_of : List Content → List Answer
replies_of messages = replies_after empty_table messages
