use Rattle.std.proofs.Common.{◌≡◌, true, nat_le, length, List, ap, subst, ◌∙◌, arith}
use Rattle.std.specs.List.{list_all}
use Rattle.std.proofs.lemmas.Bool.{le-leb}
use Rattle.std.proofs.lemmas.List.{length-reverse}
use Rattle.cany_base.specs.declared.slot_note.SlotNote.{SlotNote}
use Rattle.cany_base.specs.Params.{Parameters}
use Rattle.cany_model.specs.Runs.Run.{has_ended}
use Rattle.cany_world.specs.Controllers.{has_read}
use Rattle.cany_world.specs.World.{WorldParts, state_of}
use Rattle.cany_world.specs.WorldFields.{world_parts}
use Rattle.cany_world.proofs.WorldFacts.{ended_is}
use Rattle.cany_world.proofs.world.World.ended.Goals as goal

pub returns-then-params-trace : goal.returns-then-params-trace
returns-then-params-trace c =
    let w : WorldParts = world_parts c.self.inside in
    let slots : c.behind-self.inside.slots ≡ w.scenario.params.slots = ap (λ (p : Parameters). p.slots) (c.behind-self.view_is ∙ c.params.ensures.params) in
    let ran : length c.trace.result.now ≡ length c.self.inside.bus.trace = ap (λ (t : List SlotNote). length t) c.trace.ensures ∙ length-reverse c.self.inside.bus.trace in
    let over : nat_le w.scenario.params.slots (length c.self.inside.bus.trace) ≡ true = le-leb w.scenario.params.slots (length c.self.inside.bus.trace) (omega (arith, slots, ran, c.if-params-trace.true)) in
    subst (λ (v : WorldParts). c.all_read.result ≡ has_ended v.scenario (state_of v)) c.self.view_is
    (c.all_read.ensures ∙ ap (list_all has_read) c.as_slice.ensures.value
    ∙ ended_is w.scenario w.journal c.self.inside.bus c.self.inside.controllers.items c.self.inside.nodes.items true c.self.invariant.stands over)
