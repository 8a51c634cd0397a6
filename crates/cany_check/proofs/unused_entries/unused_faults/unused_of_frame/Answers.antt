use Rattle.std.proofs.Common.{[], ◌∷◌, ℕ, refl, ap, sym, ◌∙◌}
use Rattle.cany_model.specs.Bus.Frames.{Identity}
use Rattle.cany_world.specs.World.{state_of}
use Rattle.cany_check.specs.declared.unused_entries.unused_entry.NoFault.TheVariants.{Attempts}
use Rattle.cany_check.specs.Idle.Attempts.{is_named}
use Rattle.can_fault.specs.Identities.{named_identity}
use Rattle.cany_check.specs.Idle.Unused.{unused_of_frame}
use Rattle.cany_check.proofs.Idle.AttemptFacts.{attempt_ran, trace_numbered}
use Rattle.cany_check.proofs.unused_entries.unused_faults.unused_of_frame.Goals as goal

pub returns-in_default : goal.returns-in_default
returns-in_default c =
    let scenario = c.args.world.now.scenario in
    let s = state_of c.args.world.now in
    let x : Identity = named_identity c.args.identity.now in
    ap (λ (n : ℕ). Attempts n ∷ []) (c.count.ensures (is_named scenario) s.trace x c.requires.attempts c.requires.named refl)
    ∙ ap (unused_of_frame scenario s x c.args.rule.now) (sym c.in_default.is ∙ c.slot.ensures (is_named scenario) s.trace x c.requires.attempts c.requires.named refl)

pub unused_in-requires-clause-ran : goal.unused_in-requires-clause-ran
unused_in-requires-clause-ran c =
    let scenario = c.args.world.now.scenario in
    let s = state_of c.args.world.now in
    let x : Identity = named_identity c.args.identity.now in
    attempt_ran x c.args.nth c.in-Some.slot s.trace (trace_numbered scenario c.args.world.now.journal)
    (sym (c.slot.ensures (is_named scenario) s.trace x c.requires.attempts c.requires.named refl) ∙ c.in-Some.is)
