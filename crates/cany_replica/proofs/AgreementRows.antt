-- Worked rows of what is promised of tables: a run in which a node starts again, and whose tables
-- follow the one order.
use Rattle.std.proofs.Common.{ℕ, ◌≡◌, ◌≤◌, List, [], ◌∷◌, length, refl, ap, sym, ◌∙◌, arith}
use Rattle.std.specs.Prelude.{codes, take}
use Rattle.std.specs.Fmt.{digits}
use Rattle.std.specs.List.{concat, flat_map}
use Rattle.cany_base.specs.declared.message.Service.TheVariants.{Tot}
use Rattle.cany_base.specs.declared.rule.Verdict.TheVariants.{Clean}
use Rattle.cany_base.specs.Params.{default_parameters}
use Rattle.cany_base.specs.Scenario.{ScenarioParts}
use Rattle.cany_model.proofs.RowWords.{ask, run_words, scenario_of, send, slot_rule}
use Rattle.cany_model.specs.Bus.State.{RunState}
use Rattle.cany_model.specs.Promises.Order.{Content, order, order_by}
use Rattle.cany_model.specs.Runs.RoundRobin.{round_robin}
use Rattle.cany_model.specs.Runs.Run.{run}
use Rattle.cany_text.specs.ReportLines.{line_of, payload_text}
use Rattle.cany_replica.specs.declared.answer.Answer.{Answer}
use Rattle.cany_replica.specs.Agreement.{AreEqual, FollowsTable}
use Rattle.cany_replica.specs.Fold.{replies_after, replies_of, table_after}
use Rattle.cany_replica.specs.ReplicaText.{applied, key_line, key_lines, node_line, node_lines, reply_line, reply_name}
use Rattle.cany_replica.specs.Table.{change_of, make_change}

-- Three nodes that nobody watches. Node 0 stores a byte, node 2 stops and starts again, and node 1
-- swaps that byte for another once node 2 takes part.
unfoldable restarted : ScenarioParts
unfolding scenario_of send slot_rule ask
restarted =
    scenario_of (default_parameters 3 60) 0 (send Tot 0 0 (1 ∷ 5 ∷ 170 ∷ []) ∷ send Tot 52 1 (3 ∷ 5 ∷ 170 ∷ 187 ∷ []) ∷ [])
    (slot_rule 5 Clean 4 ∷ []) (ask 8 2 ∷ [])

unfoldable ended : RunState
unfolding run_words restarted
ended = run restarted (round_robin restarted)

unfoldable text_of : List ℕ → List ℕ
unfolding run_words digits line_of payload_text table_after replies_after change_of make_change node_line reply_line reply_name key_line key_lines node_lines ended restarted
text_of nodes = concat (flat_map (node_lines restarted ended) nodes)

-- what the first incarnation of node 2 delivered is not applied by the second
second_incarnation_starts_empty : text_of (1 ∷ 2 ∷ []) ≡ concat (
    codes "node 1 correct applied 2\n"
    ∷ codes "reply 0 0 stored\n"
    ∷ codes "reply 1 0 swapped\n"
    ∷ codes "key 05 xbb\n"
    ∷ codes "node 2 inc 1 correct applied 1\n"
    ∷ codes "reply 1 0 kept\n" ∷ [])
unfolding text_of
second_incarnation_starts_empty = refl

-- ---- what is promised of these tables

abbrev stored : Content
stored = record { msg = record { origin = 0; seq = 0 }; payload = 1 ∷ 5 ∷ 170 ∷ [] }

abbrev swapped : Content
swapped = record { msg = record { origin = 1; seq = 0 }; payload = 3 ∷ 5 ∷ 170 ∷ 187 ∷ [] }

-- what the nodes applied, and the one order: from slot 0 on, and from slot 45 on, in which the
-- second incarnation of node 2 began to take part
applied_by_node_0 : applied restarted ended 0 ≡ stored ∷ swapped ∷ []
unfolding run_words ended restarted
applied_by_node_0 = refl

applied_by_node_1 : applied restarted ended 1 ≡ stored ∷ swapped ∷ []
unfolding run_words ended restarted
applied_by_node_1 = refl

applied_by_node_2 : applied restarted ended 2 ≡ swapped ∷ []
unfolding run_words ended restarted
applied_by_node_2 = refl

one_order : order restarted ended 0 ≡ stored ∷ swapped ∷ []
unfolding run_words ended restarted order_by
one_order = refl

later_order : order restarted ended 45 ≡ swapped ∷ []
unfolding run_words ended restarted order_by
later_order = refl

-- node 1 follows the order, and node 2 that from its own first slot on
follows_the_order : FollowsTable restarted ended 1 0
follows_the_order = record {
  few = rw (applied_by_node_1, one_order) (let two : 2 ≤ 2 = omega arith in two);
  table = rw (applied_by_node_1, one_order) refl;
  answers = rw (applied_by_node_1, one_order) refl;
}

follows_since_its_restart : FollowsTable restarted ended 2 45
follows_since_its_restart = record {
  few = rw (applied_by_node_2, later_order) (let one : 1 ≤ 1 = omega arith in one);
  table = rw (applied_by_node_2, later_order) refl;
  answers = rw (applied_by_node_2, later_order) refl;
}

-- it does not follow the whole order: its reply is not that to the first message
not_from_the_start : FollowsTable restarted ended 2 0 → ⊥
unfolding replies_after
not_from_the_start h =
    let same : replies_of (swapped ∷ []) ≡ replies_of (stored ∷ []) =
    ap replies_of (sym applied_by_node_2) ∙ h.answers ∙ ap replies_of (ap (λ (l : List Content). take (length l) (order restarted ended 0)) applied_by_node_2 ∙ ap (take 1) one_order) in
    let origins : 1 ≡ 0 = ap first_origin same in
    absurd (omega (arith, origins))
  where
    first_origin : List Answer → ℕ
    first_origin [] = 2
    first_origin (answer ∷ answers) = answer.msg.origin

-- two nodes that applied both messages have equal tables and replies
equal_tables : AreEqual restarted ended 0 1
equal_tables = record { tables = rw (applied_by_node_0, applied_by_node_1) refl; answers = rw (applied_by_node_0, applied_by_node_1) refl }
