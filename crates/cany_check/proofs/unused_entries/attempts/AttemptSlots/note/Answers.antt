use Rattle.std.proofs.Common.{sym, ◌∙◌}
use Rattle.cany_check.proofs.Idle.AttemptFacts.{idle_slot, named_slot, unnamed_slot}
use Rattle.cany_check.proofs.unused_entries.attempts.AttemptSlots.note.Goals as goal

pub returns-in_default : goal.returns-in_default
returns-in_default c =
    λ named trace short are. idle_slot named trace c.args.note.now c.args.self.now c.in_default.is are

pub returns-in_default-copied : goal.returns-in_default-copied
returns-in_default-copied c =
    λ named trace short are.
    unnamed_slot named trace c.args.note.now c.in-Some.frame c.args.self.now c.in-Some.is are
    (rw c.of-identity.ensures at (sym c.in_default-copied.is ∙ c.copied.ensures ∙ c.get.ensures.value))

pub returns : goal.returns
returns c =
    λ named trace short are.
    named_slot named trace c.args.note.now c.in-Some.frame c.in-Some-copied.before c.saturating_add-nth.result c.args.self.now (record { counts = c.insert.new.self; slots = c.insert-2.new.self }) short c.in-Some.is are
    (rw c.of-identity.ensures at (sym c.in-Some-copied.is ∙ c.copied.ensures ∙ c.get.ensures.value)) c.saturating_add-nth.ensures
    (λ q. rw c.of-identity.ensures at (c.in_ok-insert.ensures.updates.0 q))
    (λ q. rw c.of-identity.ensures at (c.in_ok-insert-2.ensures.updates.0 q))
