use Rattle.std.proofs.Common.{◌≡◌, ◌+◌, [], ◌∷◌, ◌++◌, filter, map, take, ap, sym, ◌∙◌}
use Rattle.std.specs.Prelude.{if◌then◌else◌}
use Rattle.std.proofs.lemmas.List.{get_or_default, map_more}
use Rattle.cany_base.specs.Nodes.{Nodes, with_node}
use Rattle.cany_check.specs.declared.account.record.LogRecord.{LogRecord}
use Rattle.cany_check.specs.Accounts.AccountFields.{log_parts}
use Rattle.cany_check.specs.Deciding.Holders.{counts_since}
use Rattle.cany_check.specs.Accounts.Words.{nodes_of}
use Rattle.cany_check.proofs.Deciding.HolderFacts.{no_nodes, nodes_more}
use Rattle.cany_check.proofs.deciders.holders.counting.Goals as goal
use Rattle.cany_check.proofs.deciders.holders.counting.Goals.{then-counts, else-counts}

pub loop-i-init : goal.loop-i-init
loop-i-init c = c.empty-nodes.ensures.set ∙ sym no_nodes

pub loop-i-preserved : goal.loop-i-preserved
loop-i-preserved c =
    let logs = c.args.logs.now in
    let x : LogRecord = c.index-logs-i.result in
    let p = counts_since c.args.since in
    let so_far = map log_parts (take c.loop-i.i logs) in
    let more : map log_parts (take (c.loop-i.i + 1) logs) ≡ so_far ++ log_parts x ∷ [] =
    map_more log_parts logs c.loop-i.i x c.loop-i-test.true ∙ ap (λ (y : LogRecord). so_far ++ log_parts y ∷ []) (sym c.index-logs-i.is) in
    let step : c.if-counts.nodes ≡ (if p (log_parts x) then with_node x.node c.loop-i.nodes else c.loop-i.nodes) =
    elim c.if-counts.branch [
      | then-counts w ↦
          w.nodes-is ∙ w.insert.ensures.set
          ∙ ap (λ (y : LogRecord). with_node y.node c.loop-i.nodes) (get_or_default logs c.loop-i.i w.index-logs-i-then-counts.result x c.loop-i-test.true ∙ sym c.index-logs-i.is)
          ∙ ap (λ b. if b then with_node x.node c.loop-i.nodes else c.loop-i.nodes) (sym w.if-counts.true ∙ c.counts.ensures)
      | else-counts w ↦
          w.nodes-is ∙ ap (λ b. if b then with_node x.node c.loop-i.nodes else c.loop-i.nodes) (sym w.if-counts.false ∙ c.counts.ensures)
    ] in
    step ∙ ap (λ (n : Nodes). if p (log_parts x) then with_node x.node n else n) c.loop-i.invariant ∙ sym (nodes_more p so_far (log_parts x)) ∙ ap (λ l. nodes_of (filter p l)) (sym more)
