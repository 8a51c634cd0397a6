-- A rule for an attempt enters the identity of its frame.
use Rattle.can_fault.proofs.AttemptFacts.{entered_name}
use Rattle.can_fault.proofs.attempts.enter.Goals as goal

pub returns-in_ok-insert-in-FrameNth : goal.returns-in_ok-insert-in-FrameNth
returns-in_ok-insert-in-FrameNth c = λ rules has.
    let at = c.in-FrameNth in
    entered_name rules c.args.rule.now (record { class = at.class; number = at.number; node = at.node }) at.nth c.args.counts.now c.insert.new.self at.is has
    (λ q. rw c.new.ensures at (c.in_ok-insert-in-FrameNth.ensures.updates.0 q))
