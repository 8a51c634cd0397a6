-- Worked rows: the texts of two runs, computed from the definitions.
use Rattle.std.specs.Prelude.{ℕ, ◌≡◌, List, [], ◌∷◌, Option, None, Some, codes, map, refl}
use Rattle.std.specs.Fmt.{digits}
use Rattle.std.specs.List.{concat}
use Rattle.cany_base.specs.declared.message.SendAsk.{SendAsk}
use Rattle.cany_base.specs.declared.message.Service.TheVariants.{Ed, Tot}
use Rattle.cany_base.specs.Params.{default_parameters}
use Rattle.cany_base.specs.Scenario.{ScenarioParts}
use Rattle.cany_model.proofs.RowWords.{run_words, scenario_of, send}
use Rattle.cany_model.specs.Promises.Order.{Content}
use Rattle.cany_model.specs.Runs.RoundRobin.{round_robin}
use Rattle.cany_text.specs.ReportLines.{hypothesis_line, line_of, payload_text}
use Rattle.cany_replica.specs.declared.reply.Reply.{Reply}
use Rattle.cany_replica.specs.declared.reply.Reply.TheVariants.{Stored, Removed, Absent, Swapped, Kept, Ignored}
use Rattle.cany_replica.specs.Fold.{replies_after, replies_of, table_after, table_of}
use Rattle.cany_replica.specs.ReplicaText.{first_line, key_line, key_lines, last_line, node_line, node_lines, replica_lines, replica_text, reply_line, reply_name}
use Rattle.cany_replica.specs.Table.{apply, change_of, empty_table, make_change, value_at}

-- ten slots of three nodes, with everything else by default
unfoldable ten_slots : List SendAsk → ScenarioParts
unfolding scenario_of
ten_slots sends = scenario_of (default_parameters 3 10) 7 sends [] []

-- the text of the run by round robin
unfoldable text_of : List SendAsk → List ℕ
unfolding run_words ten_slots digits line_of hypothesis_line payload_text table_after replies_after change_of make_change first_line last_line node_line reply_line reply_name key_line key_lines node_lines replica_lines replica_text
text_of sends = replica_text (ten_slots sends) (round_robin (ten_slots sends))

-- a message of TOTCAN gives a key its value, at each node
table_stores : text_of (send Tot 0 0 (1 ∷ 5 ∷ 170 ∷ []) ∷ []) ≡ concat (
    codes "canely replica 1\n"
    ∷ codes "hypothesis within\n"
    ∷ codes "node 0 correct applied 1\n"
    ∷ codes "reply 0 0 stored\n"
    ∷ codes "key 05 xaa\n"
    ∷ codes "node 1 correct applied 1\n"
    ∷ codes "reply 0 0 stored\n"
    ∷ codes "key 05 xaa\n"
    ∷ codes "node 2 correct applied 1\n"
    ∷ codes "reply 0 0 stored\n"
    ∷ codes "key 05 xaa\n"
    ∷ codes "end\n" ∷ [])
unfolding text_of send
table_stores = refl

-- a key that had no value has none: there is no line for it
table_removes_nothing : text_of (send Tot 0 0 (2 ∷ 255 ∷ []) ∷ []) ≡ concat (
    codes "canely replica 1\n"
    ∷ codes "hypothesis within\n"
    ∷ codes "node 0 correct applied 1\n"
    ∷ codes "reply 0 0 absent\n"
    ∷ codes "node 1 correct applied 1\n"
    ∷ codes "reply 0 0 absent\n"
    ∷ codes "node 2 correct applied 1\n"
    ∷ codes "reply 0 0 absent\n"
    ∷ codes "end\n" ∷ [])
unfolding text_of send
table_removes_nothing = refl

-- the message of node 1 comes before that of node 0 in the order, and a message of another service
-- changes no table
table_order_decides : text_of (
    send Tot 0 1 (1 ∷ 10 ∷ 17 ∷ []) ∷ send Tot 1 0 (1 ∷ 10 ∷ 34 ∷ []) ∷ send Ed 0 2 (1 ∷ 10 ∷ 51 ∷ []) ∷ []) ≡ concat (
    codes "canely replica 1\n"
    ∷ codes "hypothesis within\n"
    ∷ codes "node 0 correct applied 2\n"
    ∷ codes "reply 1 0 stored\n"
    ∷ codes "reply 0 0 stored\n"
    ∷ codes "key 0a x22\n"
    ∷ codes "node 1 correct applied 2\n"
    ∷ codes "reply 1 0 stored\n"
    ∷ codes "reply 0 0 stored\n"
    ∷ codes "key 0a x22\n"
    ∷ codes "node 2 correct applied 2\n"
    ∷ codes "reply 1 0 stored\n"
    ∷ codes "reply 0 0 stored\n"
    ∷ codes "key 0a x22\n"
    ∷ codes "end\n" ∷ [])
unfolding text_of send
table_order_decides = refl

-- ---- each reply

record Answered : Type 0 where
  reply : Reply
  five : Option (List ℕ)
  six : Option (List ℕ)

unfoldable kept : Answered
kept = record { reply = Kept; five = Some (170 ∷ []); six = Some [] }

unfoldable ignored : Answered
ignored = record { reply = Ignored; five = Some (170 ∷ []); six = Some [] }

-- what a message makes of a table in which key 5 has the byte 170, and key 6 no bytes
unfoldable after : List ℕ → Answered
unfolding table_after change_of make_change
after payload =
    let table = table_after empty_table (
    record { msg = record { origin = 0; seq = 0 }; payload = 1 ∷ 5 ∷ 170 ∷ [] } ∷ record { msg = record { origin = 0; seq = 1 }; payload = 1 ∷ 6 ∷ [] } ∷ []) in
    let done = apply table payload in
    record { reply = done.1; five = value_at done.0 5; six = value_at done.0 6 }

stores : after (1 ∷ 6 ∷ 1 ∷ 2 ∷ 3 ∷ 4 ∷ 5 ∷ 6 ∷ []) ≡ record { reply = Stored; five = Some (170 ∷ []); six = Some (1 ∷ 2 ∷ 3 ∷ 4 ∷ 5 ∷ 6 ∷ []) }
unfolding after
stores = refl

removes : after (2 ∷ 5 ∷ []) ≡ record { reply = Removed; five = None; six = Some [] }
unfolding after
removes = refl

-- a value of no bytes is one too
removes_no_bytes : after (2 ∷ 6 ∷ []) ≡ record { reply = Removed; five = Some (170 ∷ []); six = None }
unfolding after
removes_no_bytes = refl

removes_nothing : after (2 ∷ 7 ∷ []) ≡ record { reply = Absent; five = Some (170 ∷ []); six = Some [] }
unfolding after
removes_nothing = refl

swaps : after (3 ∷ 5 ∷ 170 ∷ 1 ∷ []) ≡ record { reply = Swapped; five = Some (1 ∷ []); six = Some [] }
unfolding after
swaps = refl

-- another byte, no byte, no value
keeps : after (3 ∷ 5 ∷ 1 ∷ 2 ∷ []) ∷ after (3 ∷ 6 ∷ 0 ∷ 2 ∷ []) ∷ after (3 ∷ 7 ∷ 0 ∷ 2 ∷ []) ∷ [] ≡ kept ∷ kept ∷ kept ∷ []
unfolding after kept
keeps = refl

-- too few bytes, too many, and another code
ignores :
    after [] ∷ after (1 ∷ []) ∷ after (2 ∷ 5 ∷ 0 ∷ []) ∷ after (3 ∷ 5 ∷ 170 ∷ []) ∷ after (3 ∷ 5 ∷ 170 ∷ 1 ∷ 0 ∷ []) ∷ after (0 ∷ 5 ∷ []) ∷ after (4 ∷ 5 ∷ []) ∷ []
    ≡ ignored ∷ ignored ∷ ignored ∷ ignored ∷ ignored ∷ ignored ∷ ignored ∷ []
unfolding after ignored
ignores = refl

-- ---- several changes of one key

-- the replies to these payloads, one after another from the empty table, and the value that key 5
-- has at the end
record Replied : Type 0 where
  replies : List Reply
  five : Option (List ℕ)

abbrev message_of : List ℕ → Content
message_of payload = record { msg = record { origin = 0; seq = 0 }; payload = payload }

unfoldable replied : List (List ℕ) → Replied
unfolding table_after replies_after change_of make_change
replied payloads = record { replies = map (λ answer. answer.reply) (replies_of (map message_of payloads)); five = value_at (table_of (map message_of payloads)) 5 }

-- a swap asks for exactly one byte: that of a longer value, its first or its last one, is none
swaps_no_part : replied ((1 ∷ 5 ∷ 170 ∷ 187 ∷ []) ∷ (3 ∷ 5 ∷ 170 ∷ 1 ∷ []) ∷ (3 ∷ 5 ∷ 187 ∷ 1 ∷ []) ∷ []) ≡ record { replies = Stored ∷ Kept ∷ Kept ∷ []; five = Some (170 ∷ 187 ∷ []) }
unfolding replied
swaps_no_part = refl

-- of two nodes that want a key, the second gets it only when the first has given it back
one_after_another :
    replied ((1 ∷ 5 ∷ 0 ∷ []) ∷ (3 ∷ 5 ∷ 0 ∷ 1 ∷ []) ∷ (3 ∷ 5 ∷ 0 ∷ 2 ∷ []) ∷ (3 ∷ 5 ∷ 1 ∷ 0 ∷ []) ∷ (3 ∷ 5 ∷ 0 ∷ 2 ∷ []) ∷ [])
    ≡ record { replies = Stored ∷ Swapped ∷ Kept ∷ Swapped ∷ Swapped ∷ []; five = Some (2 ∷ []) }
unfolding replied
one_after_another = refl

-- a value is replaced as a whole, and removed once
stored_twice_removed_once :
    replied ((1 ∷ 5 ∷ 1 ∷ 2 ∷ 3 ∷ []) ∷ (1 ∷ 5 ∷ 4 ∷ []) ∷ (2 ∷ 5 ∷ []) ∷ (2 ∷ 5 ∷ []) ∷ []) ≡ record { replies = Stored ∷ Stored ∷ Removed ∷ Absent ∷ []; five = None }
unfolding replied
stored_twice_removed_once = refl
