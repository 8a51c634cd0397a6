use Rattle.std.proofs.Common.{refl, ◌∙◌}
use Rattle.cany_world.proofs.SettledFacts.{settled_by}
use Rattle.cany_world.proofs.settled.is_settled.Goals as goal

pub returns-then-not-is_asked : goal.returns-then-not-is_asked
returns-then-not-is_asked c scenario journal m about by slot =
    let is = settled_by scenario journal m c.args.send.now.service c.args.key.now c.args.controllers.now c.args.nodes.now c.is_asked.result _ _ about by
    (c.is_asked.ensures scenario journal m about slot) refl refl in
    rw c.if-not-is_asked.true at is

pub returns-then-nobody_waits_and_all_read : goal.returns-then-nobody_waits_and_all_read
returns-then-nobody_waits_and_all_read c scenario journal m about by slot =
    let is = settled_by scenario journal m c.args.send.now.service c.args.key.now c.args.controllers.now c.args.nodes.now c.is_asked.result c.nobody_waits_and_all_read.result c.is_ahead.result about by
    (c.is_asked.ensures scenario journal m about slot) c.nobody_waits_and_all_read.ensures (c.is_ahead.ensures scenario journal m about by) in
    rw (c.if-not-is_asked.false, c.if-nobody_waits_and_all_read.true) at is

pub returns-else-nobody_waits_and_all_read : goal.returns-else-nobody_waits_and_all_read
returns-else-nobody_waits_and_all_read c scenario journal m about by slot =
    let is = settled_by scenario journal m c.args.send.now.service c.args.key.now c.args.controllers.now c.args.nodes.now c.is_asked.result c.nobody_waits_and_all_read.result _ about by
    (c.is_asked.ensures scenario journal m about slot) c.nobody_waits_and_all_read.ensures refl in
    c.if-nobody_waits_and_all_read.false ∙ rw (c.if-not-is_asked.false, c.if-nobody_waits_and_all_read.false) at is
