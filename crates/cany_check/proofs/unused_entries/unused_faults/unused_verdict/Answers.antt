use Rattle.std.proofs.Common.{ap, sym, ◌∙◌}
use Rattle.cany_base.specs.Nodes.{is_nobody}
use Rattle.cany_world.specs.World.{state_of}
use Rattle.cany_check.specs.Idle.Unused.{is_receiver, some_node_of}
use Rattle.cany_check.proofs.Idle.FaultFacts.{reject_set_below, verdict_none, verdict_rejects, verdict_some}
use Rattle.cany_check.proofs.unused_entries.unused_faults.unused_verdict.Goals.{then-is_empty-via-then-is_empty, then-is_empty-via-else-is_empty+then-has_receiver}
use Rattle.cany_check.proofs.unused_entries.unused_faults.unused_verdict.Goals as goal

pub has_receiver-requires : goal.has_receiver-requires
has_receiver-requires c = rw c.reject_set-reject.ensures (reject_set_below c.args.world.now.scenario.params c.args.verdict.now c.requires)

pub returns-then-is_empty : goal.returns-then-is_empty
returns-then-is_empty c =
    let s = state_of c.args.world.now in
    let note = c.args.note.now in
    let set = c.reject_set-reject.ensures in
    elim c.then-is_empty.branch [
      | then-is_empty-via-then-is_empty w ↦ verdict_none s c.args.slot c.args.verdict.now note c.if-is_none.ensures (ap is_nobody (sym set) ∙ sym c.is_empty.ensures.nobody ∙ w.if-is_empty.true)
      | then-is_empty-via-else-is_empty+then-has_receiver w ↦
          verdict_some s c.args.slot c.args.verdict.now note c.if-is_none.ensures
          (ap (λ nodes. some_node_of nodes (is_receiver s note)) (sym set) ∙ sym w.has_receiver.ensures ∙ w.if-has_receiver.true)
    ]

pub returns : goal.returns
returns c =
    let s = state_of c.args.world.now in
    let note = c.args.note.now in
    let set = c.reject_set-reject.ensures in
    verdict_rejects s c.args.slot c.args.verdict.now note c.if-is_none.ensures (ap is_nobody (sym set) ∙ sym c.is_empty.ensures.nobody ∙ c.if-is_empty.false)
    (ap (λ nodes. some_node_of nodes (is_receiver s note)) (sym set) ∙ sym c.has_receiver.ensures ∙ c.if-has_receiver.false)
