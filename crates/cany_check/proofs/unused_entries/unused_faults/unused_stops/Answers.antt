use Rattle.std.proofs.Common.{not, ap, sym, ◌∙◌}
use Rattle.cany_check.proofs.Idle.FaultFacts.{some_of_meet, stops_nobody, stops_none, stops_some}
use Rattle.cany_check.proofs.unused_entries.unused_faults.unused_stops.Goals.{then-is_empty-via-then-is_empty, then-is_empty-via-else-is_empty+then-not-is_empty}
use Rattle.cany_check.proofs.unused_entries.unused_faults.unused_stops.Goals as goal

pub returns-then-is_empty : goal.returns-then-is_empty
returns-then-is_empty c =
    let note = c.args.note.now in
    elim c.then-is_empty.branch [
      | then-is_empty-via-then-is_empty w ↦ stops_none c.args.slot c.args.stop note (sym c.is_empty.ensures.nobody ∙ w.if-is_empty.true)
      | then-is_empty-via-else-is_empty+then-not-is_empty w ↦
          stops_some c.args.slot c.args.stop note
          (some_of_meet c.args.stop note.stops w.meet.result w.meet.ensures.has w.meet.ensures.set ∙ ap not (sym w.is_empty-else-is_empty.ensures.nobody ∙ w.if-not-is_empty.true))
    ]

pub returns : goal.returns
returns c =
    let note = c.args.note.now in
    stops_nobody c.args.slot c.args.stop note (sym c.is_empty.ensures.nobody ∙ c.if-is_empty.false)
    (some_of_meet c.args.stop note.stops c.meet.result c.meet.ensures.has c.meet.ensures.set ∙ ap not (sym c.is_empty-else-is_empty.ensures.nobody ∙ c.if-not-is_empty.false))
