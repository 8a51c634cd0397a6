use Rattle.std.proofs.Common.{◌≡◌, [], List, None, ap, subst, ◌∙◌}
use Rattle.std.specs.Prelude.{◌↔◌}
use Rattle.cany_base.specs.declared.slot_note.SlotNote.{SlotNote}
use Rattle.cany_base.specs.Params.{Parameters}
use Rattle.cany_model.specs.Promises.Detector.{KeepsMembers}
use Rattle.cany_model.specs.Promises.Hypothesis.{IsWithin, first_break}
use Rattle.cany_model.specs.Promises.Safe.{IsIntegral, IsSafe}
use Rattle.cany_world.specs.World.{WorldParts, state_of}
use Rattle.cany_world.specs.WorldFields.{world_parts}
use Rattle.cany_world.proofs.WorldFacts.{world_integral, world_keeps_members, world_safe, within_run}
use Rattle.cany_world.proofs.world.World.hypothesis.Goals as goal

pub returns-clause-first : goal.returns-clause-first
returns-clause-first c =
    let w : WorldParts = world_parts c.self.inside in
    let bus = c.self.invariant.stands.bus in
    subst (λ (v : WorldParts). c.first_break.result ≡ first_break v.scenario.params (state_of v).trace) c.self.view_is
    (c.first_break.ensures.first ∙ ap (λ (p : Parameters). first_break p c.self.inside.bus.trace) bus.params ∙ ap (first_break w.scenario.params) bus.trace)

pub returns-clause-within : goal.returns-clause-within
returns-clause-within c =
    let bus = c.self.invariant.stands.bus in
    subst (λ (v : WorldParts). (c.first_break.result ≡ None) ↔ IsWithin v.scenario.params (state_of v).trace) c.self.view_is
    (subst (λ (p : Parameters). (c.first_break.result ≡ None) ↔ IsWithin p (state_of (world_parts c.self.inside)).trace) bus.params
    (subst (λ (t : List SlotNote). (c.first_break.result ≡ None) ↔ IsWithin c.self.inside.bus.params t) bus.trace c.first_break.ensures.within))

pub returns-clause-integrity : goal.returns-clause-integrity
returns-clause-integrity c =
    subst (λ (w : WorldParts). IsIntegral w.scenario (state_of w)) c.self.view_is (world_integral (world_parts c.self.inside) c.self.invariant.legal)

pub returns-clause-safe : goal.returns-clause-safe
returns-clause-safe c none =
    let w : WorldParts = world_parts c.self.inside in
    subst (λ (v : WorldParts). IsSafe v.scenario (state_of v)) c.self.view_is
    (world_safe w c.self.invariant.legal (within_run w.scenario (state_of w) c.self.inside.bus c.self.invariant.stands.bus (c.first_break.ensures.within.0 none)))

pub returns-clause-members : goal.returns-clause-members
returns-clause-members c none asks =
    let w : WorldParts = world_parts c.self.inside in
    subst (λ (v : WorldParts). v.scenario.restarts ≡ [] → KeepsMembers v.scenario (state_of v)) c.self.view_is
    (λ unasked. world_keeps_members w c.self.invariant.legal unasked
    (within_run w.scenario (state_of w) c.self.inside.bus c.self.invariant.stands.bus (c.first_break.ensures.within.0 none))) asks
