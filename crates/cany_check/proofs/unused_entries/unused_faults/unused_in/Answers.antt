use Rattle.std.proofs.Common.{◌≡◌, ◌++◌, Some, length, ap, sym, arith, ◌∙◌}
use Rattle.std.proofs.lemmas.List.{length-reverse}
use Rattle.cany_base.specs.declared.slot_note.SlotNote.{SlotNote}
use Rattle.cany_world.specs.World.{state_of}
use Rattle.cany_check.specs.Idle.Unused.{as_list, note_of, unused_stops, unused_verdict}
use Rattle.cany_check.proofs.Idle.AttemptFacts.{trace_numbered}
use Rattle.cany_check.proofs.Idle.FaultFacts.{note_at_place}
use Rattle.cany_check.proofs.unused_entries.unused_faults.unused_in.Goals as goal

pub returns : goal.returns
returns c =
    let s = state_of c.args.world.now in
    let slot = c.args.slot in
    let rule = c.args.rule.now in
    let oldest = c.trace-trace.result.now in
    let note : SlotNote = c.index-trace-slot.result in
    let at : note_of slot s.trace ≡ Some note =
    note_at_place s.trace oldest slot note (trace_numbered c.args.world.now.scenario c.args.world.now.journal) c.trace-trace.ensures.newest_first
    (omega (arith, c.requires.ran, sym (ap length c.trace-trace.ensures.newest_first) ∙ length-reverse oldest)) c.index-trace-slot.is in
    ap (λ l. l ++ as_list c.unused_stops.result) c.unused_verdict.ensures
    ∙ ap (λ l. unused_verdict s slot rule.verdict (Some note) ++ l) c.unused_stops.ensures
    ∙ ap (λ o. unused_verdict s slot rule.verdict o ++ unused_stops slot rule.stop o) (sym at)
