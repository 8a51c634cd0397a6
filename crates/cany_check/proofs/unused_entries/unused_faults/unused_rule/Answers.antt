use Rattle.std.proofs.Common.{◌||◌, false, ap, sym, ◌∙◌}
use Rattle.cany_model.specs.Bus.Frames.{Identity}
use Rattle.cany_model.proofs.Bus.Identities.{same_identity_self}
use Rattle.cany_world.specs.World.{state_of}
use Rattle.can_fault.specs.Rules.{names_frame}
use Rattle.cany_check.specs.Idle.Unused.{attempt_slot, unused_by_place, unused_of_frame}
use Rattle.cany_check.proofs.unused_entries.unused_faults.unused_rule.Goals as goal

pub unused_of_frame-requires-clause-named : goal.unused_of_frame-requires-clause-named
unused_of_frame-requires-clause-named c =
    let at = c.in-FrameNth in
    let x : Identity = record { class = at.class; number = at.number; node = at.node } in
    rw c.new-identity.ensures (c.requires.named x (ap (λ p. names_frame x p || false) at.is ∙ ap (λ b. b || false) (same_identity_self x)))

pub returns-in-FrameNth : goal.returns-in-FrameNth
returns-in-FrameNth c =
    let at = c.in-FrameNth in
    let s = state_of c.args.world.now in
    let scenario = c.args.world.now.scenario in
    let x : Identity = record { class = at.class; number = at.number; node = at.node } in
    (rw c.new-identity.ensures at c.unused_of_frame.ensures)
    ∙ ap (λ n. unused_of_frame scenario s x c.args.rule.now (attempt_slot x n s.trace)) c.from.ensures
    ∙ sym (ap (unused_by_place scenario s c.args.rule.now) at.is)
